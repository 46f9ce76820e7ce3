use Rattle.std.proofs.Common.{◌+◌, ◌++◌, ◌≤◌, ℕ, List, take, slice_index_or}
use Rattle.graph_words.specs.declared.types.Born.{Born}
use Rattle.query_text.specs.Shown.{AreTallied}
use Rattle.query_text.proofs.label_counts.count_edges.Given as goal

abbrev pub invariant-loop-born : goal.invariant-loop-born
invariant-loop-born l =
    record {
      room : (k : ℕ) → slice_index_or l.counts.items k 0 ≤ slice_index_or l.fn.counts.items k 0 + l.born-index;
      tallied : (named : ℕ) (before : List Born) → AreTallied named before l.fn.counts.items → AreTallied named (before ++ take l.born-index l.edges) l.counts.items;
    }
