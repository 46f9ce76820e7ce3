use Rattle.std.proofs.Common.{arith}
use Rattle.plain_closing.proofs.Adding.{IsWalking-step, IsWalking-end}
use Rattle.plain_closing.proofs.joins.add_all_joins.Goals as goal

pub loop-n-preserved : goal.loop-n-preserved
loop-n-preserved c = IsWalking-step _ _ _ _ _ (omega arith) c.loop-n.invariant c.in_ok-join_edge.ensures.made c.in_ok-join_edge.ensures.joined

pub returns-clause-closed : goal.returns-clause-closed
returns-clause-closed c = IsWalking-end _ _ _ _ (omega arith) c.loop-n.invariant
