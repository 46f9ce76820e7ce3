use Rattle.dest_map.specs.Table.{counts_of}
use Rattle.pair_sched.specs.Marks.{joined_of, newest_of}
use Rattle.pair_sched.specs.Pick.{IsCleanBefore}
use Rattle.pair_sched.proofs.choice.least_dirty.Given as goal

abbrev pub invariant-loop-i : goal.invariant-loop-i
invariant-loop-i l = IsCleanBefore (counts_of l.map) (joined_of l.marks) (newest_of l.marks) l.map.0 l.i 0
