use Rattle.std.proofs.Common.{◌-◌, ◌≤◌, length}
use Rattle.row_table.specs.Index.{NoneBefore, StandBefore}
use Rattle.row_table.proofs.ordered_edges.search_between.Given as goal

abbrev pub invariant-loop-low : goal.invariant-loop-low
invariant-loop-low l = StandBefore l.edges l.edge l.low × (l.low ≤ l.high) × (l.high ≤ length l.edges) × NoneBefore l.edges l.edge l.high

abbrev pub decreases-loop-low : goal.decreases-loop-low
decreases-loop-low l = l.high - l.low
