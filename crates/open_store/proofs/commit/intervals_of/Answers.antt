use Rattle.std.proofs.Common.{◌≡◌, ◌∙◌, ap, sym, subst, take, ℕ, List, length, arith}
use Rattle.std.specs.Prelude.{map}
use Rattle.std.proofs.lemmas.List.{take_all}
use Rattle.intervals.specs.Bounds.{IsCut}
use Rattle.manifest_codec.specs.declared.types.PartEntry.{PartEntry}
use Rattle.open_store.proofs.Places.{cut_of_cover}
use Rattle.open_store.proofs.commit.intervals_of.Goals as goal

pub of_ends-requires : goal.of_ends-requires
of_ends-requires c =
    let parts = c.args.manifest.now.parts in
    let all : c.deref.result.now ≡ map (λ (p : PartEntry). p.hi) parts =
    c.deref.ensures.value ∙ c.loop-part.invariant ∙ ap (λ (l : List PartEntry). map (λ (p : PartEntry). p.hi) (take c.loop-part.part-index l)) c.as_slice-parts.ensures
    ∙ ap (λ (l : List PartEntry). map (λ (p : PartEntry). p.hi) l) (take_all c.loop-part.part-index parts (omega (arith, c.loop-part-test.false, ap (λ (l : List PartEntry). length l) c.as_slice-parts.ensures))) in
    subst IsCut (sym all) (cut_of_cover c.args.manifest.now.vertices parts c.requires.cover)
