use Rattle.std.proofs.Common.{take}
use Rattle.row_table.specs.Joined.{EndsHere, Sifts}
use Rattle.row_table.proofs.sieve.sift_run.Given as goal

abbrev pub invariant-loop-second : goal.invariant-loop-second
invariant-loop-second l = Sifts (EndsHere (take l.second-index l.run)) l.initial.ends l.ends l.initial.found.items l.found.items
