use Rattle.std.proofs.Common.{◌≡◌, ◌≤◌, take}
use Rattle.open_store.specs.PartRead.{count_below_of}
use Rattle.open_store.proofs.tally.count_below.Given as goal

abbrev pub invariant-loop-born : goal.invariant-loop-born
invariant-loop-born l =
    record {
      count : l.below ≡ count_below_of l.intervals l.i l.at (take l.born-index l.edges);
      few : l.below ≤ l.born-index;
    }
