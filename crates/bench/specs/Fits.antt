-- Edges that can be loaded.
use Rattle.std.specs.Prelude.{ℕ, ◌<◌}
use Rattle.graph_words.specs.declared.types.Edge.{Edge}

-- it begins at a vertex, and the store's format has its label and its destination
pub record FitsEdge (vertices : ℕ) (e : Edge) : Type 0 where
  pub source : e.src.0 < vertices
  pub label : e.label.0 < 63000
  pub destination : e.dst.0 < 16777216
