use Rattle.std.proofs.Common.{◌+◌, ◌-◌, ◌/◌, ◌<◌, ◌≤◌, length, arith}
use Rattle.row_table.proofs.RowLemmas.{some_born}
use Rattle.row_table.proofs.BlockLemmas.{same_between}
use Rattle.row_table.proofs.blocks.run_end.Goals as goal

pub loop-low-preserved-then-row-middle : goal.loop-low-preserved-then-row-middle
loop-low-preserved-then-row-middle c =
    let end : c.loop-low.high ≤ length c.args.row.now = c.loop-low.invariant.2 in
    let from : c.args.start < c.loop-low.low = c.loop-low.invariant.0 in (
      omega arith,
      omega arith,
      end,
      same_between c.args.row.now c.args.label c.args.start (c.loop-low.low + (c.loop-low.high - c.loop-low.low) / 2) some_born c.requires.row c.requires.label (omega arith) (omega arith) c.if-row-middle.true,
    )
