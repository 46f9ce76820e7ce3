use Rattle.std.proofs.Common.{◌-◌, ◌≤◌, length}
use Rattle.row_table.specs.Index.{AreBefore, NoneBelow}
use Rattle.row_table.proofs.row_starts.place_between.Given as goal

abbrev pub invariant-loop-low : goal.invariant-loop-low
invariant-loop-low l = AreBefore l.edges l.vertex l.low × (l.low ≤ l.high) × (l.high ≤ length l.edges) × NoneBelow l.edges l.vertex l.high

abbrev pub decreases-loop-low : goal.decreases-loop-low
decreases-loop-low l = l.high - l.low
