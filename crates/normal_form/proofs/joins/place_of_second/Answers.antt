use Rattle.std.proofs.Common.{arith}
use Rattle.normal_form.proofs.JoinLemmas.{second_low, second_high}
use Rattle.normal_form.proofs.joins.place_of_second.Goals as goal

pub loop-low-preserved-then-joins-middle : goal.loop-low-preserved-then-joins-middle
loop-low-preserved-then-joins-middle c = second_low c.args.joins.now c.args.second c.requires c.loop-low.low c.loop-low.high _ c.index-joins-middle.result c.loop-low.invariant (omega arith) c.if-joins-middle.true

pub loop-low-preserved : goal.loop-low-preserved
loop-low-preserved c = second_high c.args.joins.now c.args.second c.requires c.loop-low.low c.loop-low.high _ c.index-joins-middle.result c.loop-low.invariant (omega arith) (omega arith) c.if-joins-middle.false
