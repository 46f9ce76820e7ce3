use Rattle.std.proofs.Common.{◌+◌, ◌-◌, ◌/◌, ◌≤◌, length, arith}
use Rattle.row_table.proofs.RowLemmas.{some_born}
use Rattle.row_table.proofs.BlockLemmas.{labels_up_to, labels_from}
use Rattle.row_table.proofs.blocks.label_place.Goals as goal

pub loop-low-preserved-then-from : goal.loop-low-preserved-then-from
loop-low-preserved-then-from c =
    let end : c.loop-low.high ≤ length c.args.row.now = c.loop-low.invariant.1 in (
      omega arith,
      end,
      labels_up_to c.args.row.now c.args.from c.requires (c.loop-low.low + (c.loop-low.high - c.loop-low.low) / 2) some_born (omega arith) (rw c.from.ensures at c.if-from.true),
      c.loop-low.invariant.3,
    )

pub loop-low-preserved : goal.loop-low-preserved
loop-low-preserved c =
    let end : c.loop-low.high ≤ length c.args.row.now = c.loop-low.invariant.1 in (
      omega arith,
      omega arith,
      c.loop-low.invariant.2,
      labels_from c.args.row.now c.args.from c.requires (c.loop-low.low + (c.loop-low.high - c.loop-low.low) / 2) some_born (omega arith) (rw c.from.ensures at c.if-from.false),
    )
