use Rattle.std.specs.Prelude.{◌≡◌, ℕ, suc, ◌+◌, ◌<◌, ◌≤◌, ◌⊎◌, List, ◌++◌, length, map, All, AllPairs, Contains}
use Rattle.std.specs.List.Sorted.{IsPermutation}
use Rattle.graph_words.specs.declared.types.Vertex.{Vertex}
use Rattle.graph_words.specs.declared.types.Edge.{Edge}
use Rattle.graph_words.specs.declared.types.Born.{Born}
use Rattle.graph_words.specs.Reach.{IsBefore, IsAscending}
use Rattle.normal_law.specs.Closure.{Normal}
use Rattle.normal_law.specs.Closed.{Joins}

abbrev pub born : Edge → ℕ → Born
born e b = record { edge = e; birth = b }

-- the edges, each with this birth
abbrev pub all_born : List Edge → ℕ → List Born
all_born edges b = map (λ e. born e b) edges

-- the edge is there, with some birth
abbrev pub HasEdge : List Born → Edge → Type 0
HasEdge edges e = (b : ℕ) × Contains edges (born e b)

-- the edges ascend, so none stands twice
abbrev pub IsOrdered : List Born → Type 0
IsOrdered edges = AllPairs (λ x y. IsBefore x.edge y.edge) edges

-- after has just the edges of before, in order
pub record IsInOrder (before after : List Born) : Type 0 where
  pub same : IsPermutation before after
  pub ordered : IsOrdered after

-- e is a join of the two edges: one follows the other, and their labels join to its own
pub record IsJoin (n : Normal) (first second e : Edge) : Type 0 where
  pub follows : first.dst ≡ second.src
  pub source : e.src ≡ first.src
  pub destination : e.dst ≡ second.dst
  pub label : Joins n first.label second.label e.label

-- e is a join at the vertex x of two of these edges, of which one is born at or after since
pub record IsCandidate (n : Normal) (edges : List Born) (since : ℕ) (x : Vertex) (e : Edge) : Type 0 where
  pub first : Born
  pub second : Born
  pub has_first : Contains edges first
  pub has_second : Contains edges second
  pub centre : first.edge.dst ≡ x
  pub join : IsJoin n first.edge second.edge e
  pub one_new : (since ≤ first.birth) ⊎ (since ≤ second.birth)

-- new are the joins of a round over these edges, in order: each candidate that is not there
pub record IsRound (n : Normal) (edges : List Born) (since : ℕ) (new : List Edge) : Type 0 where
  pub joins : All (λ e. (x : Vertex) × IsCandidate n edges since x e) new
  pub absent : All (λ e. HasEdge edges e → ⊥) new
  pub complete : (x : Vertex) (e : Edge) → IsCandidate n edges since x e → HasEdge edges e ⊎ Contains new e
  pub ascending : IsAscending new

-- rounds on the edges begun, the first over joins since a birth and the others since the birth that the round before gave.
-- Each adds some edge and gives its edges the next birth. After k of them the edges are these, and a further round would go over joins since last
pub data Rounds (n : Normal) (start : List Born) (since birth : ℕ) : ℕ → List Born → ℕ → Type 0 where
  begun : Rounds n start since birth 0 start since
  again : {k last : ℕ} {rows after : List Born} → (new : List Edge) → Rounds n start since birth k rows last
      → IsRound n rows last new → 0 < length new → IsInOrder (rows ++ all_born new (birth + k)) after
      → Rounds n start since birth (suc k) after (birth + k)
