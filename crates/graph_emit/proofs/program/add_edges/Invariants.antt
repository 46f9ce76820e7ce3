use Rattle.std.proofs.Common.{◌≡◌, ◌++◌, drop}
use Rattle.graph_emit.proofs.program.add_edges.Given as goal

-- the edges from here on come behind those that are added
abbrev pub invariant-loop-edge : goal.invariant-loop-edge
invariant-loop-edge l = record {
  vertices : l.list.vertices ≡ l.fn.list.vertices;
  edges : l.list.edges ++ drop l.edge-index l.fn.edges ≡ l.fn.list.edges ++ l.fn.edges;
}
