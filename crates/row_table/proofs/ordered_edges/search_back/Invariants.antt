use Rattle.std.proofs.Common.{◌<◌, ◌≤◌, length}
use Rattle.row_table.specs.Index.{NoneBefore}
use Rattle.row_table.proofs.ordered_edges.search_back.Given as goal

abbrev pub invariant-loop-stride : goal.invariant-loop-stride
invariant-loop-stride l = (0 < l.stride) × (l.high ≤ length l.edges) × NoneBefore l.edges l.edge l.high

abbrev pub decreases-loop-stride : goal.decreases-loop-stride
decreases-loop-stride l = l.high
