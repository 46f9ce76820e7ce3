-- Where the rows begin in a list of edges in order.
use Rattle.std.specs.Prelude.{◌≡◌, ℕ, ◌+◌, ◌-◌, ◌<◌, ◌≤◌, Option, Some, None, List, ◌∷◌, ◌++◌, length, take, drop, slice_index, slice_index_or}
use Rattle.graph_words.specs.declared.types.Edge.{Edge}
use Rattle.graph_words.specs.declared.types.Born.{Born}
use Rattle.graph_words.specs.Reach.{IsBefore}
use Rattle.row_table.specs.declared.span.Span.{Span}
use Rattle.row_table.specs.Loaded.{Loaded, IsLoaded}

-- the first n edges begin before the vertex v
pub record AreBefore (edges : List Born) (v n : ℕ) : Type 0 where
  pub within : n ≤ length edges
  pub before : (k : ℕ) (d : Born) → k < n → (slice_index_or edges k d).edge.src.0 < v

-- none from the place n on does
abbrev pub NoneBelow : List Born → ℕ → ℕ → Type 0
NoneBelow edges v n = (k : ℕ) (d : Born) → n ≤ k → k < length edges → v ≤ (slice_index_or edges k d).edge.src.0

-- the first n edges begin before v, and the others don't
pub record PartsEdgesAt (edges : List Born) (v n : ℕ) : Type 0 where
  pub front : AreBefore edges v n
  pub behind : NoneBelow edges v n

-- how many edges begin before each vertex of an interval, and before the vertex behind it
pub record AreStarts (edges : List Born) (s : Span) (starts : List ℕ) : Type 0 where
  pub len : length starts ≡ (s.hi - s.lo) + 1
  pub each : (k : ℕ) → k < length starts → PartsEdgesAt edges (s.lo + k) (slice_index starts k)

-- and so for the second interval, where there is one
abbrev pub AreHighStarts : List Born → Option Span → List ℕ → Type 0
AreHighStarts edges None starts = Unit {0}
AreHighStarts edges (Some s) starts = AreStarts edges s starts

-- rows with where they begin
pub record AreRows (l : Loaded) (low_starts high_starts : List ℕ) : Type 0 where
  pub loaded : IsLoaded l
  pub low : AreStarts l.edges l.low low_starts
  pub high : AreHighStarts l.edges l.high high_starts

-- the first n edges stand before e
pub record StandBefore (edges : List Born) (e : Edge) (n : ℕ) : Type 0 where
  pub within : n ≤ length edges
  pub before : (k : ℕ) (d : Born) → k < n → IsBefore (slice_index_or edges k d).edge e

-- none from the place n on does
abbrev pub NoneBefore : List Born → Edge → ℕ → Type 0
NoneBefore edges e n = (k : ℕ) (d : Born) → n ≤ k → k < length edges → IsBefore (slice_index_or edges k d).edge e → ⊥

-- the first n do, and no other does
pub record PartsBefore (edges : List Born) (e : Edge) (n : ℕ) : Type 0 where
  pub front : StandBefore edges e n
  pub behind : NoneBefore edges e n

-- of the first n edges, those behind the new one went up, and it stands before them, with room for so many before it
pub record PutsEdge (before : List Born) (n left : ℕ) (new : Born) (place : ℕ) (after : List Born) : Type 0 where
  pub parts : PartsBefore (take n before) new.edge place
  pub front : take place after ≡ take place before
  pub behind : drop (place + left) after ≡ new ∷ (take (n - place) (drop place before) ++ drop (n + left + 1) before)
  pub len : length after ≡ length before
