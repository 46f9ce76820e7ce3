use Rattle.std.proofs.Common.{◌-◌}
use Rattle.std.specs.Prelude.{map}
use Rattle.normal_form.specs.Joins.{second_of}
use Rattle.normal_form.proofs.RowLemmas.{IsParting}
use Rattle.normal_form.proofs.joins.place_of_second.Given as goal

abbrev pub invariant-loop-low : goal.invariant-loop-low
invariant-loop-low l = IsParting (map second_of l.joins) l.second l.low l.high

abbrev pub decreases-loop-low : goal.decreases-loop-low
decreases-loop-low l = l.high - l.low
