-- How many edges begin at each vertex.
use Rattle.std.specs.Prelude.{◌≡◌, ℕ, ◌+◌, ◌==◌, max, List, length, count_by, slice_index_or}
use Rattle.std.specs.List.{sum}
use Rattle.graph_words.specs.declared.types.Edge.{Edge}
use Rattle.edge_text.specs.EdgesText.{vertex_count_of}

-- how many of the edges begin at a vertex
abbrev pub degree : List Edge → ℕ → ℕ
degree edges v = count_by (λ e. e.src.0 == v) edges

-- a number for each vertex up to the greatest on an edge: how many of the edges begin there
pub record AreDegrees (edges : List Edge) (degrees : List ℕ) : Type 0 where
  pub count : length degrees ≡ vertex_count_of edges
  pub each : (v : ℕ) → slice_index_or degrees v 0 ≡ degree edges v

-- the edges are counted, over what was counted before
pub record Counted (edges : List Edge) (old new : List ℕ) : Type 0 where
  pub longer : length new ≡ max (length old) (vertex_count_of edges)
  pub each : (v : ℕ) → slice_index_or new v 0 ≡ slice_index_or old v 0 + degree edges v
  pub all : sum new ≡ sum old + length edges
