-- The joins of a round, row after row.
use Rattle.std.specs.Prelude.{◌≡◌, ℕ, ◌<◌, ◌≤◌, ◌⊎◌, ◌↔◌, eqb, Bool, true, length, slice_index_or, List, ◌++◌, All, AllPairs, Contains}
use Rattle.std.specs.List.{IsDistinct}
use Rattle.graph_words.specs.declared.types.Vertex.{Vertex}
use Rattle.graph_words.specs.declared.types.LabelId.{LabelId}
use Rattle.graph_words.specs.declared.types.Edge.{Edge}
use Rattle.graph_words.specs.declared.types.Born.{Born}
use Rattle.graph_words.specs.Reach.{IsAscending, edge}
use Rattle.normal_law.specs.Closure.{Normal}
use Rattle.normal_law.specs.Closed.{Joins}
use Rattle.partition_file.specs.Spelling.{row_of}
use Rattle.closing_machine.specs.Rounds.{IsCandidate, HasEdge}
use Rattle.row_table.specs.declared.blocks.Block.{Block}
use Rattle.row_table.specs.Sieve.{HasNumber}
use Rattle.row_table.specs.Loaded.{IsCentre}

-- ---- what the rows give

-- e is a join at some vertex of two of the edges, of which one is born at or after since
abbrev pub IsJoinOf : Normal → List Born → ℕ → Edge → Type 0
IsJoinOf n edges since e = (x : Vertex) × IsCandidate n edges since x e

-- all joins of a sort from the vertices of a kind that the edges lack, in order
pub record JoinsWhere (edges : List Born) (IsOne : Edge → Type 0) (P : ℕ → Type 0) (new : List Edge) : Type 0 where
  pub joins : All IsOne new
  pub sources : All (λ e. P e.src.0) new
  pub absent : All (λ e. HasEdge edges e → ⊥) new
  pub complete : (e : Edge) → IsOne e → P e.src.0 → HasEdge edges e ⊎ Contains new e
  pub ascending : IsAscending new

-- they stand behind what was there
pub record AppendsJoins (edges : List Born) (IsOne : Edge → Type 0) (P : ℕ → Type 0) (before after : List Edge) : Type 0 where
  pub new : List Edge
  pub behind : after ≡ before ++ new
  pub are : JoinsWhere edges IsOne P new

-- ---- the blocks of a row

-- the labels of the edges do not fall
abbrev pub LabelsAscend : List Born → Type 0
LabelsAscend row = AllPairs (λ x y. x.edge.label.0 ≤ y.edge.label.0) row

-- some edge of the row ends at w and joins with a first label to a
abbrev pub JoinsTo : Normal → LabelId → List Born → LabelId → Vertex → Type 0
JoinsTo n first row a w = (c : Born) × Contains row c × Joins n first c.edge.label a × (c.edge.dst ≡ w)

-- some block has the label a and an edge that ends at w
abbrev pub BlocksHave : List Block → LabelId → Vertex → Type 0
BlocksHave blocks a w = (k : Block) × Contains blocks k × (k.label ≡ a) × ((c : Born) × Contains k.seconds.now c × (c.edge.dst ≡ w))

-- the blocks give what they gave, and what the first label joins to with the row
abbrev pub AddsJoins : Normal → LabelId → List Born → List Block → List Block → Type 0
AddsJoins n first row before after = (a : LabelId) (w : Vertex) → BlocksHave after a w ↔ (BlocksHave before a w ⊎ JoinsTo n first row a w)

-- each label of the edges that joins to some label behind the first one is among these
abbrev pub AreSeconds : Normal → LabelId → List Born → List LabelId → Type 0
AreSeconds n first edges labels = (c : Born) (a : LabelId) → Contains edges c → Joins n first c.edge.label a → Contains labels c.edge.label

-- the set has each label of the edges
abbrev pub HasLabels : List Born → List Bool → Type 0
HasLabels edges set = (c : Born) → Contains edges c → HasNumber set c.edge.label.0

-- the blocks give what they gave, and what the first label joins to with the edges of the row that have a second label
abbrev pub AddsSecond : Normal → LabelId → List Born → LabelId → List Block → List Block → Type 0
AddsSecond n first row label before after = (a : LabelId) (w : Vertex)
    → BlocksHave after a w ↔ (BlocksHave before a w ⊎ ((c : Born) × Contains row c × (c.edge.label ≡ label) × Joins n first c.edge.label a × (c.edge.dst ≡ w)))

-- the first n edges of the row have labels below a number, and the others don't
pub record PartsLabels (row : List Born) (from n : ℕ) : Type 0 where
  pub within : n ≤ length row
  pub before : (k : ℕ) (d : Born) → k < n → (slice_index_or row k d).edge.label.0 < from
  pub behind : (k : ℕ) (d : Born) → n ≤ k → k < length row → from ≤ (slice_index_or row k d).edge.label.0

-- a first edge that counts: each, or each that is born before since
abbrev pub CountsBirth : Bool → ℕ → Born → Type 0
CountsBirth every since b = (every ≡ true) ⊎ (b.birth < since)

-- the blocks give what they gave, and what a first edge, if it counts, joins to with the row of its end
abbrev pub AddsFirst : Normal → Bool → ℕ → Born → List Born → List Block → List Block → Type 0
AddsFirst n every since b edges before after = (a : LabelId) (w : Vertex)
    → BlocksHave after a w ↔ (BlocksHave before a w ⊎ (CountsBirth every since b × JoinsTo n b.edge.label (row_of b.edge.dst.0 edges) a w))

-- and so with each of these first edges
abbrev pub AddsRows : Normal → Bool → ℕ → List Born → List Born → List Block → List Block → Type 0
AddsRows n every since firsts edges before after = (a : LabelId) (w : Vertex)
    → BlocksHave after a w ↔ (BlocksHave before a w ⊎ ((b : Born) × Contains firsts b × CountsBirth every since b
    × JoinsTo n b.edge.label (row_of b.edge.dst.0 edges) a w))

-- what an edge that ends at the centre x joins to: a new one with the row of x, and an old one with its new edges
abbrev pub Through : Normal → ℕ → Vertex → List Born → List Born → Born → LabelId → Vertex → Type 0
Through n since x row newer b a w = (b.edge.dst ≡ x)
    × (((since ≤ b.birth) × JoinsTo n b.edge.label row a w)
    ⊎ ((b.birth < since) × JoinsTo n b.edge.label newer a w))

abbrev pub AddsThroughOne : Normal → ℕ → Vertex → List Born → List Born → Born → List Block → List Block → Type 0
AddsThroughOne n since x row newer b before after = (a : LabelId) (w : Vertex) → BlocksHave after a w
    ↔ (BlocksHave before a w ⊎ Through n since x row newer b a w)

-- the blocks give just the joins of a sort from u
abbrev pub GivesJoins : (Edge → Type 0) → Vertex → List Block → Type 0
GivesJoins IsOne u blocks = (a : LabelId) (w : Vertex) → BlocksHave blocks a w ↔ IsOne (edge u a w)

-- ---- the ends of a label

abbrev pub vertex : ℕ → Vertex
vertex w = record { 0 = w }

-- an edge of the list ends at w
abbrev pub EndsHere : List Born → ℕ → Type 0
EndsHere run w = (c : Born) × Contains run c × (c.edge.dst.0 ≡ w)

-- an edge of the row has the label and ends at w
abbrev pub HasEnd : List Born → LabelId → ℕ → Type 0
HasEnd row a w = (c : Born) × Contains row c × (c.edge.label ≡ a) × (c.edge.dst.0 ≡ w)

-- the blocks have the label with an edge that ends at w
abbrev pub GivesEnd : List Block → LabelId → ℕ → Type 0
GivesEnd blocks a w = BlocksHave blocks a (vertex w)

-- one block has the label and an edge that ends at w
abbrev pub BlockGives : Block → LabelId → ℕ → Type 0
BlockGives k a w = (k.label ≡ a) × EndsHere k.seconds.now w

-- the set has these ends too, and no other
pub record MarksEnds (given : ℕ → Type 0) (before after : List Bool) : Type 0 where
  pub keeps : (w : ℕ) → HasNumber before w → HasNumber after w
  pub has : (w : ℕ) → given w → HasNumber after w
  pub only : (w : ℕ) → HasNumber after w → HasNumber before w ⊎ given w

-- the ends that were not in the set are in it now, and were put to those found
pub record Sifts (given : ℕ → Type 0) (before after : List Bool) (found_before found_after : List ℕ) : Type 0 where
  pub marks : MarksEnds given before after
  pub keeps : (w : ℕ) → Contains found_before w → Contains found_after w
  pub has : (w : ℕ) → given w → HasNumber before w ⊎ Contains found_after w
  pub only : (w : ℕ) → Contains found_after w → Contains found_before w ⊎ ((HasNumber before w → ⊥) × given w)
  pub once : All (HasNumber before) found_before → IsDistinct eqb found_before → All (HasNumber after) found_after × IsDistinct eqb found_after

-- the edges of a label to those of the ends to which the row has none stand behind what was there
pub record AppendsLacking (row : List Born) (u : Vertex) (a : LabelId) (ends : List ℕ) (before after : List Edge) : Type 0 where
  pub new : List Edge
  pub behind : after ≡ before ++ new
  pub each : All (λ e. (e.src ≡ u) × (e.label ≡ a) × Contains ends e.dst.0 × (HasEdge row e → ⊥)) new
  pub all : (w : ℕ) → Contains ends w → HasEdge row (edge u a (vertex w)) ⊎ Contains new (edge u a (vertex w))
  pub ascending : AllPairs (λ v w. v < w) ends → IsAscending new

-- what the blocks give for a label, less the row, in order
pub record LabelJoins (row : List Born) (u : Vertex) (blocks : List Block) (a : LabelId) (new : List Edge) : Type 0 where
  pub each : All (λ e. (e.src ≡ u) × (e.label ≡ a) × BlocksHave blocks a e.dst × (HasEdge row e → ⊥)) new
  pub all : (w : Vertex) → BlocksHave blocks a w → HasEdge row (edge u a w) ⊎ Contains new (edge u a w)
  pub ascending : IsAscending new

pub record AppendsLabel (row : List Born) (u : Vertex) (blocks : List Block) (a : LabelId) (before after : List Edge) : Type 0 where
  pub new : List Edge
  pub behind : after ≡ before ++ new
  pub are : LabelJoins row u blocks a new

-- what the blocks give for the labels below a number, less the row, in order
pub record JoinsBelow (row : List Born) (u : Vertex) (blocks : List Block) (k : ℕ) (new : List Edge) : Type 0 where
  pub each : All (λ e. (e.src ≡ u) × (e.label.0 < k) × BlocksHave blocks e.label e.dst × (HasEdge row e → ⊥)) new
  pub all : (a : LabelId) (w : Vertex) → a.0 < k → BlocksHave blocks a w → HasEdge row (edge u a w) ⊎ Contains new (edge u a w)
  pub ascending : IsAscending new

pub record AppendsBelow (row : List Born) (u : Vertex) (blocks : List Block) (k : ℕ) (before after : List Edge) : Type 0 where
  pub new : List Edge
  pub behind : after ≡ before ++ new
  pub are : JoinsBelow row u blocks k new

-- no block has a label from one number to before the next, or one above all labels
pub record IsNextLabel (blocks : List Block) (from next : ℕ) : Type 0 where
  pub on : from ≤ next
  pub small : next ≤ 65536
  pub none : All (λ k. (k.label.0 < from) ⊎ ((next ≤ k.label.0) × (k.label.0 < 65536))) blocks

-- ---- centres

-- the set has just the vertices where an edge ends
abbrev pub IsEndSet : List Born → List Bool → Type 0
IsEndSet edges ends = (w : ℕ) → HasNumber ends w ↔ EndsHere edges w

-- the centres of a kind, in ascending order
pub record CentresWhere (edges : List Born) (P : ℕ → Type 0) (centres : List Vertex) : Type 0 where
  pub all : (x y : Born) → Contains edges x → Contains edges y → x.edge.dst ≡ y.edge.src → P x.edge.dst.0 → Contains centres x.edge.dst
  pub only : All (λ v. IsCentre edges v × P v.0) centres
  pub ascending : AllPairs (λ v w. v.0 < w.0) centres

-- they stand behind what was there
pub record AppendsCentres (edges : List Born) (P : ℕ → Type 0) (before after : List Vertex) : Type 0 where
  pub new : List Vertex
  pub behind : after ≡ before ++ new
  pub are : CentresWhere edges P new
