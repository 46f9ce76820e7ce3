use Rattle.std.proofs.Common.{◌-◌}
use Rattle.normal_form.proofs.RowLemmas.{IsParting}
use Rattle.normal_form.proofs.label_row.place_of.Given as goal

abbrev pub invariant-loop-low : goal.invariant-loop-low
invariant-loop-low l = IsParting l.labels l.label l.low l.high

abbrev pub decreases-loop-low : goal.decreases-loop-low
decreases-loop-low l = l.high - l.low
