use Rattle.std.proofs.Common.{◌≡◌, ◌≤◌, length, take}
use Rattle.open_store.proofs.grammar_copy.begins_with.Given as goal

abbrev pub invariant-loop-i : goal.invariant-loop-i
invariant-loop-i l =
    record {
      within : l.i ≤ length l.names;
      same : take l.i l.names ≡ take l.i l.front;
    }
