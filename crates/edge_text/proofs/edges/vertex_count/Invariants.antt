use Rattle.std.proofs.Common.{◌≡◌, max, drop}
use Rattle.edge_text.specs.EdgesText.{vertex_count_of}
use Rattle.edge_text.proofs.edges.vertex_count.Given as goal

abbrev pub invariant-loop-edge : goal.invariant-loop-edge
invariant-loop-edge l = max l.count (vertex_count_of (drop l.edge-index l.edges)) ≡ vertex_count_of l.edges
