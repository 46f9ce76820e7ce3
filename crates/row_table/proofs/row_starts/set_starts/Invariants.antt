use Rattle.std.proofs.Common.{◌≡◌, ℕ, ◌+◌, ◌-◌, ◌<◌, length, slice_index}
use Rattle.row_table.specs.Index.{AreBefore, PartsEdgesAt}
use Rattle.row_table.proofs.row_starts.set_starts.Given as goal

abbrev pub invariant-loop-row : goal.invariant-loop-row
invariant-loop-row l = (length l.starts.items ≡ (l.span.hi - l.span.lo) + 1) × ((k : ℕ) → k < l.row → PartsEdgesAt l.edges (l.span.lo + k) (slice_index l.starts.items k)) × AreBefore l.edges (l.span.lo + l.row) l.place
