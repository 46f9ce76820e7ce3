use Rattle.std.proofs.Common.{take}
use Rattle.row_table.specs.Joined.{EndsHere, MarksEnds}
use Rattle.row_table.proofs.sieve.mark_run.Given as goal

abbrev pub invariant-loop-born : goal.invariant-loop-born
invariant-loop-born l = MarksEnds (EndsHere (take l.born-index l.run)) l.initial.ends l.ends
