use Rattle.std.proofs.Common.{◌-◌, ◌^◌, length}
use Rattle.std.specs.Prelude.{All}
use Rattle.normal_form.specs.Empty.{DerivesEmpty}
use Rattle.normal_form.proofs.empties.named_empties.Given as goal

abbrev pub invariant-loop-label : goal.invariant-loop-label
invariant-loop-label l = All (DerivesEmpty l.rules) l.found

abbrev pub decreases-loop-label : goal.decreases-loop-label
decreases-loop-label l = 2 ^ 64 - length l.found
