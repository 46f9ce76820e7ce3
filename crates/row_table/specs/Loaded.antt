-- What is loaded, as contracts see it.
use Rattle.std.specs.Prelude.{◌≡◌, ℕ, ◌<◌, ◌≤◌, ◌⊎◌, nat_le, Option, Some, None, List, ◌++◌, All, AllPairs, Contains, filter}
use Rattle.graph_words.specs.declared.types.Vertex.{Vertex}
use Rattle.graph_words.specs.declared.types.Edge.{Edge}
use Rattle.graph_words.specs.declared.types.Born.{Born}
use Rattle.partition_file.specs.Spelling.{Part}
use Rattle.closing_machine.specs.Rounds.{IsOrdered, IsInOrder, all_born}
use Rattle.closing_machine.specs.JoinsAt.{HasCentres}
use Rattle.row_table.specs.declared.span.Span.{Span}

-- the edges of one or two partitions in order, and the bounds of their intervals
pub record Loaded : Type 0 where
  pub low : Span
  pub high : Option Span
  pub edges : List Born

-- the vertex lies in the interval
abbrev pub LiesInSpan : Span → ℕ → Type 0
LiesInSpan s v = (s.lo ≤ v) × (v < s.hi)

abbrev pub LiesInHigh : Option Span → ℕ → Type 0
LiesInHigh None v = ⊥
LiesInHigh (Some s) v = LiesInSpan s v

-- the vertex lies in one of the loaded intervals
abbrev pub IsRow : Loaded → ℕ → Type 0
IsRow l v = LiesInSpan l.low v ⊎ LiesInHigh l.high v

-- where there is a second interval, it is not empty and begins behind the first one
abbrev pub IsBehind : Span → Option Span → Type 0
IsBehind low None = Unit {0}
IsBehind low (Some high) = (low.hi ≤ high.lo) × (high.lo < high.hi)

-- the intervals are not empty and stand in order, so do the edges, and each edge begins in one of them
pub record IsLoaded (l : Loaded) : Type 0 where
  pub bounds : l.low.lo < l.low.hi
  pub behind : IsBehind l.low l.high
  pub ordered : IsOrdered l.edges
  pub sources : All (λ b. IsRow l b.edge.src.0) l.edges

-- the interval of a partition
abbrev pub span_of : Part → Span
span_of p = record { lo = p.lo; hi = p.hi }

-- what one partition, or two of which the first is the low one, hold together
abbrev pub loaded_of : Part → Option Part → Loaded
loaded_of low None = record { low = span_of low; high = None; edges = low.edges }
loaded_of low (Some high) = record { low = span_of low; high = Some (span_of high); edges = low.edges ++ high.edges }

-- the second partition begins where the first one ends, or behind
abbrev pub StandsBehind : Part → Option Part → Type 0
StandsBehind low None = Unit {0}
StandsBehind low (Some high) = low.hi ≤ high.lo

-- just the edges that were born at or after since
abbrev pub newer_edges : ℕ → List Born → List Born
newer_edges since edges = filter (λ b. nat_le since b.birth) edges

abbrev pub newer_of : ℕ → Loaded → Loaded
newer_of since l = record { low = l.low; high = l.high; edges = newer_edges since l.edges }

-- the new edges were added with their birth, and nothing else changed
pub record Absorbs (before : Loaded) (new : List Edge) (birth : ℕ) (after : Loaded) : Type 0 where
  pub low : after.low ≡ before.low
  pub high : after.high ≡ before.high
  pub edges : IsInOrder (before.edges ++ all_born new birth) after.edges

-- some edge ends at the vertex, and some edge begins there
pub record IsCentre (edges : List Born) (v : Vertex) : Type 0 where
  pub first : Born
  pub second : Born
  pub has_first : Contains edges first
  pub has_second : Contains edges second
  pub ends : first.edge.dst ≡ v
  pub begins : second.edge.src ≡ v

-- these are just the vertices with an edge in and an edge out, in ascending order
pub record AreCentres (edges : List Born) (centres : List Vertex) : Type 0 where
  pub all : HasCentres edges centres
  pub only : All (IsCentre edges) centres
  pub ascending : AllPairs (λ v w. v.0 < w.0) centres
