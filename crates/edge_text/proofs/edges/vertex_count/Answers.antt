use Rattle.std.proofs.Common.{arith}
use Rattle.edge_text.proofs.GraphLemmas.{IsGraph-counted}
use Rattle.edge_text.proofs.edges.vertex_count.Goals as goal

pub returns-clause-graph : goal.returns-clause-graph
returns-clause-graph c = IsGraph-counted c.args.edges.now c.loop-edge.count c.loop-edge.edge-index (omega arith) c.loop-edge.invariant
