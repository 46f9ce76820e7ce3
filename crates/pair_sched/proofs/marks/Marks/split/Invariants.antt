use Rattle.std.proofs.Common.{◌+◌}
use Rattle.closing_machine.specs.Machine.{parent}
use Rattle.dest_map.specs.Table.{IsFilled}
use Rattle.pair_sched.specs.Marks.{joined_of}
use Rattle.pair_sched.proofs.marks.Marks.split.Given as goal

abbrev pub invariant-loop-a : goal.invariant-loop-a
invariant-loop-a l = IsFilled (λ a b. joined_of l.fn.self (parent l.i a) (parent l.i b)) (l.fn.self.0 + 1) l.a 0 l.joined.items
