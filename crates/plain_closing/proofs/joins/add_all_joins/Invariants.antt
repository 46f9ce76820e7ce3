use Rattle.std.proofs.Common.{◌-◌, ◌^◌}
use Rattle.normal_law.specs.NormalForm.{normal_form}
use Rattle.plain_closing.proofs.Adding.{IsWalking}
use Rattle.plain_closing.proofs.joins.add_all_joins.Given as goal

abbrev pub invariant-loop-n : goal.invariant-loop-n
invariant-loop-n l = IsWalking (normal_form l.normal) l.n l.fn.edges l.edges

abbrev pub decreases-loop-n : goal.decreases-loop-n
decreases-loop-n l = 2 ^ 64 - l.n
