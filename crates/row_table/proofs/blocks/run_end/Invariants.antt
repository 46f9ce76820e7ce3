use Rattle.std.proofs.Common.{◌≡◌, ◌-◌, ◌<◌, ◌≤◌, ℕ, length, slice_index_or}
use Rattle.graph_words.specs.declared.types.Born.{Born}
use Rattle.row_table.proofs.blocks.run_end.Given as goal

abbrev pub invariant-loop-low : goal.invariant-loop-low
invariant-loop-low l = (l.start < l.low) × (l.low ≤ length l.row) × (l.high ≤ length l.row) × ((k : ℕ) (d : Born) → l.start ≤ k → k < l.low → (slice_index_or l.row k d).edge.label ≡ l.label)

abbrev pub decreases-loop-low : goal.decreases-loop-low
decreases-loop-low l = l.high - l.low
