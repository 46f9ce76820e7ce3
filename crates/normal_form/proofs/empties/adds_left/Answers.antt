use Rattle.std.specs.Prelude.{All, Contains}
use Rattle.normal_form.proofs.EmptyLemmas.{due}
use Rattle.normal_form.proofs.RowLemmas.{not_from_false}
use Rattle.normal_form.proofs.empties.adds_left.Goals as goal

pub returns : goal.returns
returns c = due (All (Contains c.args.found.now) c.args.rule.now.right) (Contains c.args.found.now c.args.rule.now.left) c.has_all.result (rw c.as_slice.ensures at c.has_all.ensures) (not_from_false (Contains c.args.found.now c.args.rule.now.left) c.has.result c.has.ensures c.if-has.false)
