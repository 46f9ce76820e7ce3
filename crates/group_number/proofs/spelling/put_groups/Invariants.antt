use Rattle.std.proofs.Common.{◌≡◌, ◌++◌}
use Rattle.group_number.specs.Groups.{group_bytes}
use Rattle.group_number.proofs.spelling.put_groups.Given as goal

abbrev pub invariant-loop-rest : goal.invariant-loop-rest
invariant-loop-rest l = l.out.items ++ group_bytes l.rest ≡ l.fn.out.items ++ group_bytes l.number

abbrev pub decreases-loop-rest : goal.decreases-loop-rest
decreases-loop-rest l = l.rest
