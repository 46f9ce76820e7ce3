use Rattle.std.proofs.Common.{arith}
use Rattle.normal_form.proofs.RowLemmas.{IsParting-low, IsParting-high}
use Rattle.normal_form.proofs.label_row.place_of.Goals as goal

pub loop-low-preserved-then-labels-middle : goal.loop-low-preserved-then-labels-middle
loop-low-preserved-then-labels-middle c = IsParting-low c.args.labels.now c.args.label c.loop-low.low c.loop-low.high _ _ c.requires c.loop-low.invariant (omega arith) c.if-labels-middle.true

pub loop-low-preserved : goal.loop-low-preserved
loop-low-preserved c = IsParting-high c.args.labels.now c.args.label c.loop-low.low c.loop-low.high _ _ c.requires c.loop-low.invariant (omega arith) (omega arith) c.if-labels-middle.false
