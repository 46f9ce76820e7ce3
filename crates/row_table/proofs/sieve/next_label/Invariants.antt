use Rattle.std.proofs.Common.{take}
use Rattle.row_table.specs.Joined.{IsNextLabel}
use Rattle.row_table.proofs.sieve.next_label.Given as goal

abbrev pub invariant-loop-block : goal.invariant-loop-block
invariant-loop-block l = IsNextLabel (take l.block-index l.blocks) l.from l.next
