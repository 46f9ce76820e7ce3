use Rattle.import_text.proofs.DegreeLemmas.{Counted-step}
use Rattle.import_text.proofs.degrees.Degrees.count_all.Goals as goal

pub loop-edge-preserved : goal.loop-edge-preserved
loop-edge-preserved c = Counted-step c.args.edges.now c.loop-edge.edge-index _ _ _ _ c.loop-edge-test.true c.loop-edge.invariant c.in_ok-count.ensures
