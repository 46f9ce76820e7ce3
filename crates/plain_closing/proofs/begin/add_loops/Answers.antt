use Rattle.plain_closing.proofs.Beginning.{IsLooping-step}
use Rattle.plain_closing.proofs.begin.add_loops.Goals as goal

pub loop-v-preserved : goal.loop-v-preserved
loop-v-preserved c = IsLooping-step _ _ _ _ _ _ _ c.loop-v-test.true c.loop-v.invariant c.empties.ensures.each c.in_ok-add_each.ensures
