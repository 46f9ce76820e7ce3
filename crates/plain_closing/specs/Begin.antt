use Rattle.std.specs.Prelude.{◌≡◌, ℕ, ◌<◌, ◌++◌, List, All, Contains}
use Rattle.graph_words.specs.declared.types.Vertex.{Vertex}
use Rattle.graph_words.specs.declared.types.LabelId.{LabelId}
use Rattle.graph_words.specs.declared.types.Edge.{Edge}
use Rattle.graph_words.specs.Reach.{edge}
use Rattle.normal_law.specs.Closure.{Normal, IsUp, IsEmpty}

-- edges that have P were added at the end
pub record AddsOf (P : Edge → Type 0) (before after : List Edge) : Type 0 where
  pub added : List Edge
  pub at_end : after ≡ before ++ added
  pub each : All P added

-- an edge between two vertices with one of the labels
abbrev pub IsEdgeBetween : Vertex → List LabelId → Vertex → Edge → Type 0
IsEdgeBetween u labels v e = (a : LabelId) × Contains labels a × (e ≡ edge u a v)

-- an edge between two vertices was added for each of the labels, unless it was there
pub record AddsEach (u : Vertex) (labels : List LabelId) (v : Vertex) (before after : List Edge) : Type 0 where
  pub grown : AddsOf (IsEdgeBetween u labels v) before after
  pub has : All (λ a. Contains after (edge u a v)) labels

-- the label is above that of some edge of these with the same ends
abbrev pub IsAboveSome : Normal → List Edge → Edge → Type 0
IsAboveSome n graph e = (b : LabelId) × Contains graph (edge e.src b e.dst) × IsUp n.rules b e.label

-- a loop at a vertex below a number, whose label derives the empty word
abbrev pub IsLoop : Normal → ℕ → Edge → Type 0
IsLoop n vertices e = (e.src ≡ e.dst) × (e.src.0 < vertices) × IsEmpty n e.label
