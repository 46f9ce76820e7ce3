-- The edges into a vertex, one behind the other.
use Rattle.std.specs.Prelude.{◌≡◌, ◌≢◌, ℕ, ◌+◌, ◌<◌, ◌≤◌, List, All, length, slice_index, slice_index_or}
use Rattle.graph_words.specs.declared.types.Vertex.{Vertex}
use Rattle.graph_words.specs.declared.types.Born.{Born}

-- n is the place of the first edge from the place k on that ends at v, and the number of edges where there is none
pub record IsNextOfRow (edges : List Born) (v k n : ℕ) : Type 0 where
  pub on : k ≤ n
  pub within : n ≤ length edges
  pub between : (j : ℕ) (d : Born) → k ≤ j → j < n → (slice_index_or edges j d).edge.dst.0 ≢ v
  pub here : (d : Born) → n < length edges → (slice_index_or edges n d).edge.dst.0 ≡ v

-- behind each edge from the place k on stands the place of the next one that ends where it does
pub record AreLinks (edges : List Born) (k : ℕ) (next : List ℕ) : Type 0 where
  pub len : length next ≡ length edges
  pub each : (j : ℕ) (d : Born) → k ≤ j → j < length edges → IsNextOfRow edges (slice_index_or edges j d).edge.dst.0 (j + 1) (slice_index next j)

-- and for each vertex that of the first one from there on
pub record AreChains (edges : List Born) (k : ℕ) (first next : List ℕ) : Type 0 where
  pub ends : All (λ b. b.edge.dst.0 < length first) edges
  pub firsts : (v : ℕ) → v < length first → IsNextOfRow edges v k (slice_index first v)
  pub links : AreLinks edges k next

-- the place is that of an edge into x, or the end, and all edges into x before it begin before it does
pub record AtSource (edges : List Born) (x : Vertex) (place : ℕ) : Type 0 where
  pub within : place ≤ length edges
  pub here : (d : Born) → place < length edges → (slice_index_or edges place d).edge.dst.0 ≡ x.0
  pub before : (j : ℕ) (d : Born) → j < place → place < length edges → (slice_index_or edges j d).edge.dst.0 ≡ x.0
      → (slice_index_or edges j d).edge.src.0 < (slice_index_or edges place d).edge.src.0

-- `end` is the place of the first edge into x behind this place that begins elsewhere, or the end
pub record IsNextSource (edges : List Born) (x : Vertex) (place end : ℕ) : Type 0 where
  pub on : place < end
  pub within : end ≤ length edges
  pub here : (d : Born) → end < length edges → (slice_index_or edges end d).edge.dst.0 ≡ x.0
  pub same : (j : ℕ) (d : Born) → place ≤ j → j < end → (slice_index_or edges j d).edge.dst.0 ≡ x.0
      → (slice_index_or edges j d).edge.src.0 ≡ (slice_index_or edges place d).edge.src.0
  pub other : (d : Born) → end < length edges → (slice_index_or edges place d).edge.src.0 < (slice_index_or edges end d).edge.src.0

-- the edge at the place begins at v
abbrev pub BeginsAt : List Born → ℕ → ℕ → Type 0
BeginsAt edges place v = (d : Born) → place < length edges → (slice_index_or edges place d).edge.src.0 ≡ v

-- it begins behind v, if there is one
abbrev pub BeginsBehind : List Born → ℕ → ℕ → Type 0
BeginsBehind edges place v = (d : Born) → place < length edges → v < (slice_index_or edges place d).edge.src.0
