use Rattle.dest_map.specs.Table.{counts_of}
use Rattle.pair_sched.specs.Marks.{joined_of, newest_of}
use Rattle.pair_sched.specs.Pick.{IsBest}
use Rattle.pair_sched.proofs.choice.best_in_row.Given as goal

abbrev pub invariant-loop-j : goal.invariant-loop-j
invariant-loop-j l = IsBest (counts_of l.map) (joined_of l.marks) (newest_of l.marks) l.map.0 l.i l.j l.best
