use Rattle.graph_emit.proofs.Whole.{next_below}
use Rattle.graph_emit.proofs.program.add_vertices.Goals as goal

pub add_vertex-requires-clause-there : goal.add_vertex-requires-clause-there
add_vertex-requires-clause-there c =
    next_below c.loop-spot.list.vertices _ c.args.spots.now c.loop-spot.spot-index _ c.loop-spot-test.true c.loop-spot.invariant.vertices c.requires
