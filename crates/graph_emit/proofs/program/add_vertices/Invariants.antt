use Rattle.std.proofs.Common.{◌≡◌, ◌++◌, drop}
use Rattle.std.specs.Prelude.{map}
use Rattle.graph_emit.specs.Answers.{made}
use Rattle.graph_emit.specs.Program.{shown}
use Rattle.graph_emit.proofs.program.add_vertices.Given as goal

-- the vertices from here on come behind those that are added
abbrev pub invariant-loop-spot : goal.invariant-loop-spot
invariant-loop-spot l = record {
  vertices : l.list.vertices ++ map (λ spot. shown (made spot)) (drop l.spot-index l.fn.spots) ≡ l.fn.list.vertices ++ map (λ spot. shown (made spot)) l.fn.spots;
  edges : l.list.edges ≡ l.fn.list.edges;
}
