use Rattle.std.proofs.Common.{◌≡◌, ◌-◌, ◌<◌, ◌≤◌, ℕ, length, get_or}
use Rattle.graph_words.specs.declared.types.Born.{Born}
use Rattle.partition_file.proofs.encoder.row_len.Given as goal

abbrev pub invariant-loop-count : goal.invariant-loop-count
invariant-loop-count l = record {
  within : l.count ≤ length l.edges;
  here : (i : ℕ) (d : Born) → i < l.count → (get_or l.edges i d).edge.src.0 ≡ l.vertex;
}

abbrev pub decreases-loop-count : goal.decreases-loop-count
decreases-loop-count l = length l.edges - l.count
