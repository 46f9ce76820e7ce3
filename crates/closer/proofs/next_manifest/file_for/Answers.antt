use Rattle.std.proofs.Common.{◌∙◌, ap, arith, length, map, take, List}
use Rattle.std.proofs.lemmas.List.{take_all}
use Rattle.manifest_codec.specs.declared.types.PartEntry.{PartEntry}
use Rattle.closer.proofs.PutLemmas.{files_untaken}
use Rattle.closer.proofs.next_manifest.file_for.Goals as goal

pub returns-clause-untaken : goal.returns-clause-untaken
returns-clause-untaken c =
    let parts = c.args.next.now.parts in
    files_untaken parts c.deref.result.now c.free_file.result
    (c.deref.ensures.value ∙ c.loop-part.invariant ∙ ap (λ (l : List PartEntry). map (λ (p : PartEntry). p.file) (take c.loop-part.part-index l)) c.as_slice-parts.ensures
    ∙ ap (λ (l : List PartEntry). map (λ (p : PartEntry). p.file) l) (take_all c.loop-part.part-index parts (omega (arith, c.loop-part-test.false, ap (λ (l : List PartEntry). length l) c.as_slice-parts.ensures))))
    c.free_file.ensures.untaken
