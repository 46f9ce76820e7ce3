use Rattle.std.proofs.Common.{◌≡◌, ◌≢◌, ◌++◌, ◌≤◌, ℕ, List, take}
use Rattle.graph_words.specs.declared.types.Born.{Born as ABorn}
use Rattle.dest_map.specs.Table.{counts_of}
use Rattle.dest_map.specs.Counts.{IsCountsOf}
use Rattle.store.proofs.counts.count_edges.Given as goal

abbrev pub invariant-loop-born : goal.invariant-loop-born
invariant-loop-born l =
    record {
      size : l.map.0 ≡ l.fn.map.0;
      few : (j : ℕ) → counts_of l.map l.i j ≤ l.born-index;
      others : (a b : ℕ) → a ≢ l.i → counts_of l.map a b ≡ counts_of l.fn.map a b;
      counts : (before : List ABorn) → IsCountsOf l.intervals before l.fn.map → IsCountsOf l.intervals (before ++ take l.born-index l.edges) l.map;
    }
