use Rattle.std.proofs.Common.{◌≡◌, ◌⊎◌, ◌+◌, ◌-◌, ◌<◌, ◌≤◌, length}
use Rattle.intervals.specs.DegreeCut.{degree_between}
use Rattle.intervals.proofs.degrees.end_from.Given as goal

abbrev pub invariant-loop-end : goal.invariant-loop-end
invariant-loop-end l = record {
  first : l.low < l.end;
  within : l.end ≤ length l.counts;
  total : l.total ≡ degree_between l.counts l.low l.end;
  fits : (l.end ≡ l.low + 1) ⊎ (l.total ≤ l.limit);
}

abbrev pub decreases-loop-end : goal.decreases-loop-end
decreases-loop-end l = length l.counts - l.end
