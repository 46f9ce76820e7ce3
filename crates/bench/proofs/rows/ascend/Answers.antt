use Rattle.std.proofs.Common.{◌≤◌, length, arith, refl}
use Rattle.bench.proofs.Ascending.{ascend_one, ascend_more}
use Rattle.bench.proofs.rows.ascend.Goals as goal

pub loop-place-init : goal.loop-place-init
loop-place-init c = ascend_one c.args.edges.now

pub loop-place-preserved : goal.loop-place-preserved
loop-place-preserved c = ascend_more c.args.edges.now c.loop-place.place _ _ c.loop-place.auto.place c.loop-place-test.true (c.if-not-is_before.ensures refl) c.loop-place.invariant

pub returns : goal.returns
returns c = λ t i j d lt end. c.loop-place.invariant i j d lt (let stop : length c.args.edges.now ≤ c.loop-place.place = c.loop-place-test.false in omega arith)
