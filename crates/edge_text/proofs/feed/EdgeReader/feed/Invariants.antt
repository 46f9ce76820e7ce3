use Rattle.std.proofs.Common.{◌≡◌, ◌≤◌, ◌+◌, ◌-◌, ◌++◌, length, List, ℕ, true}
use Rattle.graph_words.specs.declared.types.Edge.{Edge}
use Rattle.edge_text.specs.Feed.{IsFeeding, AddsEdges}
use Rattle.graph_words.specs.declared.limits.TheConstants.{LONGEST_EDGES}
use Rattle.edge_text.proofs.feed.EdgeReader.feed.Given as goal

abbrev pub invariant-loop-rest : goal.invariant-loop-rest
invariant-loop-rest l =
    record {
      is_open : l.self.is_open ≡ true;
      shorter : length l.rest ≤ length l.piece;
      sum : l.self.place + length l.rest ≡ l.fn.self.place + length l.piece;
      short : l.fn.self.place ≤ LONGEST_EDGES + 4097 → l.self.place ≤ LONGEST_EDGES + 4097;
      adds : AddsEdges (length l.piece - length l.rest) l.fn.edges.items l.fn.self.table l.edges.items l.self.table;
      feeds : (start : ℕ) (names : List (List ℕ)) (text : List ℕ) (front : List Edge) → IsFeeding start names text l.fn.self.held l.piece l.fn.self.number l.fn.self.place (front ++ l.fn.edges.items) l.fn.self.table → IsFeeding start names text l.self.held l.rest l.self.number l.self.place (front ++ l.edges.items) l.self.table;
    }

abbrev pub decreases-loop-rest : goal.decreases-loop-rest
decreases-loop-rest l = length l.rest
