use Rattle.std.proofs.Common.{◌∙◌, ap, get_or, List, refl, sym}
use Rattle.manifest_codec.specs.declared.types.PartEntry.{PartEntry}
use Rattle.closer.proofs.PutLemmas.{refiles_set}
use Rattle.closer.proofs.next_manifest.with_file.Goals as goal

pub returns : goal.returns
returns c =
    refiles_set c.args.parts c.into_vec-entries.result.items c.of.result c.args.i c.args.file (record { hi = c.index.result.now.hi; file = c.args.file }) c.index.result.now c.into_vec-entries.ensures c.requires
    (ap (λ (e : PartEntry). e.hi) (c.index.ensures ∙ ap (λ (l : List PartEntry). get_or l c.args.i c.index.result.now) c.into_vec-entries.ensures)) refl c.of.ensures
