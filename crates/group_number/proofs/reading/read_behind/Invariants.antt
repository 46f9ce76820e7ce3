use Rattle.group_number.proofs.Behind.{IsBehind}
use Rattle.group_number.proofs.reading.read_behind.Given as goal

abbrev pub invariant-loop-i : goal.invariant-loop-i
invariant-loop-i l = IsBehind l.first l.bytes l.number l.shift l.i
