use Rattle.std.proofs.Common.{◌≡◌, ◌+◌, ◌++◌, ◌≤◌, ℕ, List, length, take, slice_index_or}
use Rattle.graph_words.specs.declared.types.Born.{Born as ABorn}
use Rattle.open_store.specs.Stream.{IsTally}
use Rattle.open_store.proofs.tally.Tally.add_all.Given as goal

abbrev pub invariant-loop-born : goal.invariant-loop-born
invariant-loop-born l =
    record {
      room : (j : ℕ) → slice_index_or l.self.row.items j 0 ≤ slice_index_or l.fn.self.row.items j 0 + l.born-index;
      tally : (before : List ABorn) → IsTally l.intervals before l.fn.self.row.items l.fn.self.newest → IsTally l.intervals (before ++ take l.born-index l.edges) l.self.row.items l.self.newest;
    }
