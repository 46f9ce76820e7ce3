-- A reader of an edge file that counts edges by their sources.
use Rattle.std.specs.Prelude.{◌≡◌, ℕ, ◌+◌, ◌≤◌, true, List, ◌++◌, length}
use Rattle.graph_words.specs.declared.types.Edge.{Edge}
use Rattle.edge_text.specs.EdgesText.{ReadsEdges}
use Rattle.edge_text.specs.Feed.{EdgeFeed, IsFed}
use Rattle.import_text.specs.Degrees.{Counted}
use Rattle.graph_words.specs.declared.limits.TheConstants.{LONGEST_EDGES}

-- the reader, and how many edges begin at each vertex
pub record Tallied : Type 0 where
  pub reader : EdgeFeed
  pub degrees : List ℕ

-- a piece was read, and the edges of its lines are counted
pub record TakesPiece (piece : List ℕ) (old new : Tallied) : Type 0 where
  pub added : List Edge
  pub few : length added ≤ length piece
  pub counted : Counted added old.degrees new.degrees
  pub is_open : new.reader.is_open ≡ true
  pub place : new.reader.place ≡ old.reader.place + length piece
  pub short : old.reader.place ≤ LONGEST_EDGES + 4097 → new.reader.place ≤ LONGEST_EDGES + 4097
  pub small : length old.degrees ≤ 16777216 → length new.degrees ≤ 16777216
  pub fed : (names : List (List ℕ)) (text : List ℕ) (front : List Edge) → IsFed 0 names text old.reader front
      → IsFed 0 names (text ++ piece) new.reader (front ++ added)

-- the end was read, and the edge of a last line is counted
pub record TakesEnd (old new : Tallied) : Type 0 where
  pub added : List Edge
  pub few : length added ≤ 1
  pub counted : Counted added old.degrees new.degrees
  pub small : length old.degrees ≤ 16777216 → length new.degrees ≤ 16777216
  pub reads : (names : List (List ℕ)) (text : List ℕ) (front : List Edge) → IsFed 0 names text old.reader front
      → ReadsEdges 0 names text (front ++ added) new.reader.table
