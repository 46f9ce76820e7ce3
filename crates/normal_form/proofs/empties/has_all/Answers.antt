use Rattle.std.specs.Prelude.{Contains}
use Rattle.std.proofs.lemmas.List.{get_or_default}
use Rattle.std.proofs.lemmas.List.Elements.{AllWithin-more, at_read}
use Rattle.normal_form.proofs.empties.has_all.Goals as goal

pub loop-label-preserved : goal.loop-label-preserved
loop-label-preserved c =
    AllWithin-more (Contains c.args.found.now) c.args.word.now 0 c.loop-label.label-index c.loop-label.invariant
    (at_read c.args.word.now (Contains c.args.found.now) c.loop-label.label-index _ c.loop-label-test.true (get_or_default c.args.word.now c.loop-label.label-index _ _ c.loop-label-test.true) (c.has.ensures.0 c.if-not-has.false))
