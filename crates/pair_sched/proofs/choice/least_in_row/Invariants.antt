use Rattle.std.proofs.Common.{ℕ, ◌<◌}
use Rattle.closing_machine.specs.State.{IsDirtyBy}
use Rattle.dest_map.specs.Table.{counts_of}
use Rattle.pair_sched.specs.Marks.{joined_of, newest_of}
use Rattle.pair_sched.proofs.choice.least_in_row.Given as goal

abbrev pub invariant-loop-j : goal.invariant-loop-j
invariant-loop-j l = (b : ℕ) → b < l.j → IsDirtyBy (counts_of l.map) (joined_of l.marks) (newest_of l.marks) l.i b → ⊥
