use Rattle.plain_closing.proofs.Adding.{IsAdding-step}
use Rattle.plain_closing.proofs.edge_set.EdgeSet.add_each.Goals as goal

pub loop-label-preserved : goal.loop-label-preserved
loop-label-preserved c = IsAdding-step _ _ _ _ _ _ _ _ c.loop-label-test.true c.loop-label.invariant c.in_ok-add.ensures.ok
