use Rattle.plain_closing.proofs.Joined.{BeginsClosing-from}
use Rattle.plain_closing.proofs.begin.first_edges.Goals as goal

pub returns : goal.returns
returns c = BeginsClosing-from _ _ _ _ _ c.in_ok-edges.ensures.above c.in_ok-edges.ensures.only c.in_ok-add_loops.ensures.added c.in_ok-add_loops.ensures.loops
