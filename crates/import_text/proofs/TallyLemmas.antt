-- A piece is read, and its edges are counted.
use Rattle.std.proofs.Common.{◌≡◌, ℕ, ◌+◌, ◌<◌, ◌≤◌, List, [], ◌++◌, length, sym, ap, ◌∙◌, arith, subst, append-nil, true}
use Rattle.std.specs.Prelude.{All}
use Rattle.std.proofs.lemmas.List.Elements.{All-weaker}
use Rattle.graph_words.specs.declared.types.Edge.{Edge}
use Rattle.edge_text.specs.EdgesText.{ReadsEdges}
use Rattle.edge_text.specs.Feed.{EdgeFeed, IsFed, AddsEdges, IsNumbered}
use Rattle.import_text.specs.Degrees.{Counted}
use Rattle.import_text.specs.Tally.{Tallied, TakesPiece, TakesEnd}
use Rattle.import_text.proofs.DegreeLemmas.{few_numbered}
use Rattle.graph_words.specs.declared.limits.TheConstants.{LONGEST_EDGES}

-- edges behind none are those that were added
added_are : (most : ℕ) (none edges : List Edge) (table table' : List (List ℕ)) → none ≡ [] → (a : AddsEdges most none table edges table') → edges ≡ a.added
added_are most none edges table table' empty a = a.edges_are ∙ ap (λ es. es ++ a.added) empty

few_added : (most : ℕ) (none edges : List Edge) (table table' : List (List ℕ)) → none ≡ [] → AddsEdges most none table edges table' → length edges ≤ most
few_added most none edges table table' empty a = omega (arith, ap length (added_are most none edges table table' empty a), a.few)

pub numbered_added : (most : ℕ) (none edges : List Edge) (table table' : List (List ℕ)) → none ≡ [] → AddsEdges most none table edges table' → All (IsNumbered (length table')) edges
numbered_added most none edges table table' empty a = subst (λ (es : List Edge). All (IsNumbered (length table')) es) (sym (added_are most none edges table table' empty a)) a.numbered

-- and their labels are named ones
pub named_added : (most : ℕ) (none edges : List Edge) (table table' : List (List ℕ)) → none ≡ [] → length table ≤ 1000 → AddsEdges most none table edges table' → All (λ e. e.label.0 < 1000) edges
named_added most none edges table table' empty few a =
    let short = a.short few in
    All-weaker (IsNumbered (length table')) (λ e. e.label.0 < 1000) (λ e i. omega (arith, i.label, short)) edges (numbered_added most none edges table table' empty a)

small_counts : (n : ℕ) (edges : List Edge) (old new : List ℕ) → All (IsNumbered n) edges → Counted edges old new → length old ≤ 16777216 → length new ≤ 16777216
small_counts n edges old new all c few = omega (arith, c.longer, few_numbered n edges all, few)

-- what is read stays read where the edges were taken away
pub fed_on : (names : List (List ℕ)) (text : List ℕ) (r : EdgeFeed) (front none : List Edge) → none ≡ [] → IsFed 0 names text r front → IsFed 0 names text r (front ++ none)
fed_on names text r front none empty f = subst (λ (es : List Edge). IsFed 0 names text r es) (sym (ap (λ es. front ++ es) empty ∙ append-nil front)) f

pub takes_piece : (piece : List ℕ) (before after : Tallied) (none edges : List Edge) → none ≡ [] → AddsEdges (length piece) none before.reader.table edges after.reader.table → Counted edges before.degrees after.degrees
    → after.reader.is_open ≡ true → after.reader.place ≡ before.reader.place + length piece → (before.reader.place ≤ LONGEST_EDGES + 4097 → after.reader.place ≤ LONGEST_EDGES + 4097)
    → ((names : List (List ℕ)) (text : List ℕ) (front : List Edge) → IsFed 0 names text before.reader (front ++ none) → IsFed 0 names (text ++ piece) after.reader (front ++ edges)) → TakesPiece piece before after
takes_piece piece before after none edges empty adds counted is_open place short fed =
    record {
      added = edges;
      few = few_added (length piece) none edges _ _ empty adds;
      counted = counted;
      is_open = is_open;
      place = place;
      short = short;
      small = small_counts _ edges _ _ (numbered_added (length piece) none edges _ _ empty adds) counted;
      fed = λ names text front f. fed names text front (fed_on names text before.reader front none empty f);
    }

pub takes_end : (before after : Tallied) (none edges : List Edge) → none ≡ [] → AddsEdges 1 none before.reader.table edges after.reader.table → Counted edges before.degrees after.degrees
    → ((names : List (List ℕ)) (text : List ℕ) (front : List Edge) → IsFed 0 names text before.reader (front ++ none) → ReadsEdges 0 names text (front ++ edges) after.reader.table) → TakesEnd before after
takes_end before after none edges empty adds counted reads =
    record {
      added = edges;
      few = few_added 1 none edges _ _ empty adds;
      counted = counted;
      small = small_counts _ edges _ _ (numbered_added 1 none edges _ _ empty adds) counted;
      reads = λ names text front f. reads names text front (fed_on names text before.reader front none empty f);
    }
