use Rattle.std.proofs.Common.{length, ◌-◌, ◌≡◌, ◌≤◌, take}
use Rattle.open_store.proofs.comparison.same_front.Given as goal

abbrev pub invariant-loop-n : goal.invariant-loop-n
invariant-loop-n l =
    record {
      text : l.n ≤ length l.text;
      copy : l.n ≤ length l.copy;
      same : take l.n l.text ≡ take l.n l.copy;
    }

abbrev pub decreases-loop-n : goal.decreases-loop-n
decreases-loop-n l = length l.text - l.n
