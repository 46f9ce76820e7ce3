use Rattle.std.proofs.Common.{arith}
use Rattle.normal_law.specs.NormalForm.{normal_form}
use Rattle.import_text.proofs.GivenLemmas.{above_none, above_more, above_all}
use Rattle.import_text.proofs.given.add_above.Goals as goal

pub loop-edge-init : goal.loop-edge-init
loop-edge-init c = above_none (normal_form c.args.normal.now) c.args.lo c.args.hi c.args.given.now.items

pub loop-edge-preserved : goal.loop-edge-preserved
loop-edge-preserved c = above_more (normal_form c.args.normal.now) c.args.lo c.args.hi c.args.found.now c.loop-edge.edge-index _ _ _ _ c.loop-edge-test.true c.loop-edge.invariant c.in_ok-add_above_one.ensures

pub returns : goal.returns
returns c = above_all (normal_form c.args.normal.now) c.args.lo c.args.hi c.args.found.now c.loop-edge.edge-index _ _ (omega (arith, c.loop-edge-test.false)) c.loop-edge.invariant
