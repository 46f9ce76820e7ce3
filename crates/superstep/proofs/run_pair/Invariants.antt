use Rattle.std.proofs.Common.{◌-◌, ◌^◌}
use Rattle.normal_law.specs.NormalForm.{normal_form}
use Rattle.superstep.proofs.LoopLemmas.{Going}
use Rattle.superstep.proofs.run_pair.Given as goal

abbrev pub invariant-loop-new : goal.invariant-loop-new
invariant-loop-new l = Going (normal_form l.normal) l.fn.rows l.since l.birth l.rows l.first l.next

abbrev pub decreases-loop-new : goal.decreases-loop-new
decreases-loop-new l = 2 ^ 64 - l.next
