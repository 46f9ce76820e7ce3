-- A reader of a copy that gathers the edges of one interval.
use Rattle.std.specs.Prelude.{◌≡◌, ℕ, ◌+◌, ◌≤◌, max, true, List, ◌++◌, length}
use Rattle.graph_words.specs.declared.types.Edge.{Edge}
use Rattle.normal_law.specs.Closure.{Normal}
use Rattle.edge_text.specs.EdgesText.{ReadsEdges, vertex_count_of}
use Rattle.edge_text.specs.Feed.{EdgeFeed, IsFed}
use Rattle.import_text.specs.Given.{AddsJust, IsAboveIn}
use Rattle.graph_words.specs.declared.limits.TheConstants.{LONGEST_EDGES}

-- the reader, the interval, the given edges so far, and one more than the greatest vertex so far
pub record Gathered : Type 0 where
  pub reader : EdgeFeed
  pub lo : ℕ
  pub hi : ℕ
  pub given : List Edge
  pub vertices : ℕ

-- edges were found, and what they give in the interval was added
pub record GathersEdges (n : Normal) (found : List Edge) (old new : Gathered) : Type 0 where
  pub lo : new.lo ≡ old.lo
  pub hi : new.hi ≡ old.hi
  pub given : AddsJust (IsAboveIn n old.lo old.hi found) old.given new.given
  pub vertices : new.vertices ≡ max old.vertices (vertex_count_of found)

-- a piece was read, and what its lines give was added
pub record GathersPiece (n : Normal) (piece : List ℕ) (old new : Gathered) : Type 0 where
  pub found : List Edge
  pub gathers : GathersEdges n found old new
  pub is_open : new.reader.is_open ≡ true
  pub place : new.reader.place ≡ old.reader.place + length piece
  pub short : old.reader.place ≤ LONGEST_EDGES + 4097 → new.reader.place ≤ LONGEST_EDGES + 4097
  pub names : length new.reader.table ≤ 1000
  pub fed : (names : List (List ℕ)) (text : List ℕ) (front : List Edge) → IsFed 0 names text old.reader front
      → IsFed 0 names (text ++ piece) new.reader (front ++ found)

-- the end was read, and what a last line gives was added
pub record GathersEnd (n : Normal) (old new : Gathered) : Type 0 where
  pub found : List Edge
  pub gathers : GathersEdges n found old new
  pub reads : (names : List (List ℕ)) (text : List ℕ) (front : List Edge) → IsFed 0 names text old.reader front
      → ReadsEdges 0 names text (front ++ found) new.reader.table
