use Rattle.std.proofs.Common.{◌+◌, ◌-◌, ◌/◌, arith}
use Rattle.row_table.proofs.RowLemmas.{before_up_to, none_below, some_born}
use Rattle.row_table.proofs.row_starts.place_between.Goals as goal

pub loop-low-preserved-then-edges-middle : goal.loop-low-preserved-then-edges-middle
loop-low-preserved-then-edges-middle c = (
  before_up_to c.args.edges.now c.args.vertex c.requires.ordered (c.loop-low.low + (c.loop-low.high - c.loop-low.low) / 2) some_born (omega (arith, c.loop-low.invariant.2)) c.if-edges-middle.true,
  omega arith,
  c.loop-low.invariant.2,
  c.loop-low.invariant.3,
)

pub loop-low-preserved : goal.loop-low-preserved
loop-low-preserved c = (
  c.loop-low.invariant.0,
  omega arith,
  omega (arith, c.loop-low.invariant.2),
  none_below c.args.edges.now c.args.vertex c.requires.ordered (c.loop-low.low + (c.loop-low.high - c.loop-low.low) / 2) some_born (omega (arith, c.loop-low.invariant.2)) c.if-edges-middle.false,
)
