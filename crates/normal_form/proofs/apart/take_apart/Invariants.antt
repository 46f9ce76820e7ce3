use Rattle.std.proofs.Common.{length}
use Rattle.normal_form.proofs.ApartLemmas.{IsApart}
use Rattle.normal_form.proofs.apart.take_apart.Given as goal

abbrev pub invariant-loop-rest : goal.invariant-loop-rest
invariant-loop-rest l = IsApart l.fn.pairs.items l.fn.fresh.items l.rule.left l.rule.right l.pairs.items l.fresh.items l.left l.rest

abbrev pub decreases-loop-rest : goal.decreases-loop-rest
decreases-loop-rest l = length l.rest
