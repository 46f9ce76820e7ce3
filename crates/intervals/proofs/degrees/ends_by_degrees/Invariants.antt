use Rattle.std.proofs.Common.{◌-◌, length}
use Rattle.intervals.proofs.DegreeLemmas.{CutsFront}
use Rattle.intervals.proofs.degrees.ends_by_degrees.Given as goal

abbrev pub invariant-loop-low : goal.invariant-loop-low
invariant-loop-low l = CutsFront l.counts l.limit l.low l.ends.items

abbrev pub decreases-loop-low : goal.decreases-loop-low
decreases-loop-low l = length l.counts - l.low
