use Rattle.plain_closing.proofs.Beginning.{IsGathering-step}
use Rattle.plain_closing.proofs.begin.above_edges.Goals as goal

pub loop-edge-preserved : goal.loop-edge-preserved
loop-edge-preserved c = IsGathering-step _ _ _ _ _ _ _ c.loop-edge-test.true c.loop-edge.invariant c.up.ensures.each c.in_ok-add_each.ensures
