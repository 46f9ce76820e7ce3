use Rattle.std.proofs.Common.{◌+◌}
use Rattle.closing_machine.specs.Machine.{parent}
use Rattle.dest_map.specs.Table.{IsFilled}
use Rattle.pair_sched.specs.Marks.{joined_of}
use Rattle.pair_sched.proofs.marks.Marks.push_row.Given as goal

abbrev pub invariant-loop-b : goal.invariant-loop-b
invariant-loop-b l = IsFilled (λ a b. joined_of l.self (parent l.i a) (parent l.i b)) (l.self.0 + 1) l.a l.b l.joined.items
