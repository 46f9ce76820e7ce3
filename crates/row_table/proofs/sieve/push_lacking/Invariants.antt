use Rattle.std.proofs.Common.{take}
use Rattle.row_table.specs.Joined.{AppendsLacking}
use Rattle.row_table.proofs.sieve.push_lacking.Given as goal

abbrev pub invariant-loop-end : goal.invariant-loop-end
invariant-loop-end l = AppendsLacking l.row l.vertex l.label (take l.end-index l.found) l.initial.out.items l.out.items
