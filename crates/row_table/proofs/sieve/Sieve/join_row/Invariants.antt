use Rattle.std.proofs.Common.{◌-◌, ◌≤◌}
use Rattle.row_table.specs.Joined.{AppendsBelow}
use Rattle.row_table.proofs.sieve.Sieve.join_row.Given as goal

abbrev pub invariant-loop-next : goal.invariant-loop-next
invariant-loop-next l = AppendsBelow l.row l.vertex l.blocks l.next l.initial.out.items l.out.items × (l.next ≤ 65536)

abbrev pub decreases-loop-next : goal.decreases-loop-next
decreases-loop-next l = 65536 - l.next
