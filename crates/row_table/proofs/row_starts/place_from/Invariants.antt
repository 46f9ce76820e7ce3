use Rattle.std.proofs.Common.{◌-◌, ◌<◌, length}
use Rattle.row_table.specs.Index.{AreBefore}
use Rattle.row_table.proofs.row_starts.place_from.Given as goal

abbrev pub invariant-loop-stride : goal.invariant-loop-stride
invariant-loop-stride l = (0 < l.stride) × AreBefore l.edges l.vertex l.low

abbrev pub decreases-loop-stride : goal.decreases-loop-stride
decreases-loop-stride l = length l.edges - l.low
