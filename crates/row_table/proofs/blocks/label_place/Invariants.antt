use Rattle.std.proofs.Common.{◌-◌, ◌<◌, ◌≤◌, ℕ, length, slice_index_or}
use Rattle.graph_words.specs.declared.types.Born.{Born}
use Rattle.row_table.proofs.blocks.label_place.Given as goal

abbrev pub invariant-loop-low : goal.invariant-loop-low
invariant-loop-low l =
    (l.low ≤ l.high) × (l.high ≤ length l.row) × ((k : ℕ) (d : Born) → k < l.low → (slice_index_or l.row k d).edge.label.0 < l.from) × ((k : ℕ) (d : Born) → l.high ≤ k → k < length l.row → l.from ≤ (slice_index_or l.row k d).edge.label.0)

abbrev pub decreases-loop-low : goal.decreases-loop-low
decreases-loop-low l = l.high - l.low
