use Rattle.std.proofs.Common.{◌-◌, ◌^◌}
use Rattle.normal_form.proofs.AboveLemmas.{IsRising}
use Rattle.normal_form.proofs.above.found_above.Given as goal

abbrev pub invariant-loop-at : goal.invariant-loop-at
invariant-loop-at l = IsRising l.rules l.fn.label l.at l.found.items

abbrev pub decreases-loop-at : goal.decreases-loop-at
decreases-loop-at l = 2 ^ 64 - l.at
