-- The edges with which a closing begins, of the vertices of one interval.
use Rattle.std.specs.Prelude.{◌≡◌, ◌↔◌, ◌⊎◌, ℕ, ◌<◌, ◌≤◌, List, All, Contains}
use Rattle.graph_words.specs.declared.types.Edge.{Edge}
use Rattle.graph_words.specs.declared.types.LabelId.{LabelId}
use Rattle.graph_words.specs.declared.types.Born.{Born}
use Rattle.graph_words.specs.Reach.{Graph, edge}
use Rattle.normal_law.specs.Closure.{Normal, IsUp, IsEmpty}
use Rattle.closing_machine.specs.Machine.{IsGiven}
use Rattle.closing_machine.specs.Rounds.{born}

-- just the edges that have P were added, some maybe more than once
abbrev pub AddsJust : (Edge → Type 0) → List Edge → List Edge → Type 0
AddsJust P old new = (e : Edge) → Contains new e ↔ (Contains old e ⊎ P e)

-- the edge begins in the interval
abbrev pub IsFrom : ℕ → ℕ → Edge → Type 0
IsFrom lo hi e = (lo ≤ e.src.0) × (e.src.0 < hi)

-- the label is above that of an edge of these with the same ends, from the interval
abbrev pub IsAboveIn : Normal → ℕ → ℕ → List Edge → Edge → Type 0
IsAboveIn n lo hi edges e = IsFrom lo hi e × ((b : LabelId) × Contains edges (edge e.src b e.dst) × IsUp n.rules b e.label)

-- a loop at a vertex of the interval, whose label derives the empty word
abbrev pub IsLoopIn : Normal → ℕ → ℕ → Edge → Type 0
IsLoopIn n lo hi e = IsFrom lo hi e × (e.src ≡ e.dst) × IsEmpty n e.label

-- just the edges of the interval with which a closing of the graph begins, with birth 0
pub record AreGiven (n : Normal) (g : Graph) (lo hi : ℕ) (edges : List Born) : Type 0 where
  pub given : (e : Edge) → IsGiven n g e → IsFrom lo hi e → Contains edges (born e 0)
  pub only : All (λ b. IsGiven n g b.edge × IsFrom lo hi b.edge × (b.birth ≡ 0)) edges
