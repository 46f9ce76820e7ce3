-- What is loaded stays in order.
use Rattle.std.proofs.Common.{◌≡◌, ℕ, ◌+◌, ◌<◌, ◌≤◌, ◌⊎◌, Option, Some, None, List, ◌++◌, length, get_or, take, drop, sym, subst, arith, inl, inr}
use Rattle.std.specs.Prelude.{All, Contains}
use Rattle.std.proofs.lemmas.List.Elements.{All-append, All-weaker, All-map, All-contains}
use Rattle.std.proofs.lemmas.List.Sorted.{All-permutation}
use Rattle.graph_words.specs.declared.types.Edge.{Edge}
use Rattle.graph_words.specs.declared.types.Born.{Born}
use Rattle.graph_words.specs.Reach.{IsBefore}
use Rattle.partition_file.specs.Spelling.{Part, IsPart}
use Rattle.closing_machine.specs.Rounds.{IsInOrder, all_born, born}
use Rattle.closing_machine.proofs.Ordered.{ordered_append}
use Rattle.std.proofs.lemmas.List.{length-take, length-drop, get_or-take, get_or-drop}
use Rattle.closing_machine.proofs.Members.{either}
use Rattle.row_table.specs.declared.span.Span.{Span}
use Rattle.row_table.specs.Index.{PartsEdgesAt, AreStarts, AreHighStarts}
use Rattle.row_table.proofs.OrderLemmas.{part_ordered, drop_ordered}
use Rattle.row_table.specs.Loaded.{Loaded, IsLoaded, IsRow, span_of}

pub absorbed : (l : Loaded) (new : List Edge) (birth : ℕ) (all : List Born) → IsLoaded l → IsInOrder (l.edges ++ all_born new birth) all → All (λ e. IsRow l e.src.0) new → IsLoaded (record { low = l.low; high = l.high; edges = all })
absorbed l new birth all h o inside =
    record {
      bounds = h.bounds;
      behind = h.behind;
      ordered = o.ordered;
      sources = All-permutation (λ (b : Born). IsRow l b.edge.src.0) (l.edges ++ all_born new birth) all o.same (All-append (λ (b : Born). IsRow l b.edge.src.0) l.edges (all_born new birth) h.sources (All-map (λ (b : Born). IsRow l b.edge.src.0) (λ (e : Edge). born e birth) new inside));
    }

-- the starts of a second interval, where there is one
pub high_starts_some : (edges : List Born) (high : Option Span) (s : Span) (starts : List ℕ) → high ≡ Some s → AreStarts edges s starts → AreHighStarts edges high starts
high_starts_some edges high s starts e are = subst (λ (o : Option Span). AreHighStarts edges o starts) (sym e) are

pub high_starts_none : (edges : List Born) (high : Option Span) (starts : List ℕ) → high ≡ None → AreHighStarts edges high starts
high_starts_none edges high starts e = subst (λ (o : Option Span). AreHighStarts edges o starts) (sym e) tt

module _ (low high : Part) (p : IsPart low) (q : IsPart high) (apart : low.hi ≤ high.lo) where
  before : (x y : Born) → Contains low.edges x → Contains high.edges y → IsBefore x.edge y.edge
  before x y mx my =
      let a = All-contains (λ (b : Born). (low.lo ≤ b.edge.src.0) × (b.edge.src.0 < low.hi)) low.edges x p.within mx in
      let b = All-contains (λ (b : Born). (high.lo ≤ b.edge.src.0) × (b.edge.src.0 < high.hi)) high.edges y q.within my in
      inl (omega (arith, a.1, b.0))

  pub two_loaded : IsLoaded (record { low = span_of low; high = Some (span_of high); edges = low.edges ++ high.edges })
  two_loaded =
      record {
        bounds = p.bounds;
        behind = (apart, q.bounds);
        ordered = ordered_append low.edges high.edges p.ascending q.ascending before;
        sources = All-append (λ (b : Born). ((low.lo ≤ b.edge.src.0) × (b.edge.src.0 < low.hi)) ⊎ ((high.lo ≤ b.edge.src.0) × (b.edge.src.0 < high.hi))) low.edges high.edges
            (All-weaker (λ (b : Born). (low.lo ≤ b.edge.src.0) × (b.edge.src.0 < low.hi)) (λ (b : Born). ((low.lo ≤ b.edge.src.0) × (b.edge.src.0 < low.hi)) ⊎ ((high.lo ≤ b.edge.src.0) × (b.edge.src.0 < high.hi))) (λ b h. inl h) low.edges p.within)
            (All-weaker (λ (b : Born). (high.lo ≤ b.edge.src.0) × (b.edge.src.0 < high.hi)) (λ (b : Born). ((low.lo ≤ b.edge.src.0) × (b.edge.src.0 < low.hi)) ⊎ ((high.lo ≤ b.edge.src.0) × (b.edge.src.0 < high.hi))) (λ b h. inr h) high.edges q.within);
      }

pub two_given : (low high : Part) (a b c d : ℕ) (first all : List Born) → IsPart low → IsPart high → low.hi ≤ high.lo → a ≡ low.lo → b ≡ low.hi → c ≡ high.lo → d ≡ high.hi → first ≡ low.edges → all ≡ first ++ high.edges → IsLoaded (record { low = record { lo = a; hi = b }; high = Some (record { lo = c; hi = d }); edges = all })
two_given low high a b c d first all p q apart ea eb ec ed es ef = rw (ea, eb, ec, ed, ef, es) (two_loaded low high p q apart)

-- ---- two intervals, cut where the first one ends
module _ (low high : Span) (edges : List Born) (count : ℕ) (h : IsLoaded (record { low = low; high = Some high; edges = edges })) (at : PartsEdgesAt edges low.hi count) where
  pub low_is_part : IsPart (record { lo = low.lo; hi = low.hi; edges = take count edges })
  low_is_part =
      record {
        bounds = h.bounds;
        ascending = part_ordered edges 0 count h.ordered;
        within = λ k d lt. (let l : k < count = (let e = length-take count edges in omega arith) in rw (get_or-take count edges k d l) (inside k d l));
      }
    where
      inside : (k : ℕ) (d : Born) → k < count → (low.lo ≤ (get_or edges k d).edge.src.0) × ((get_or edges k d).edge.src.0 < low.hi)
      inside k d lt =
          let b : Born = get_or edges k d in
          let below : b.edge.src.0 < low.hi = at.front.before k d lt in
          let end : count ≤ length edges = at.front.within in
          either
          (λ (i : (low.lo ≤ b.edge.src.0) × (b.edge.src.0 < low.hi)). i)
          (λ (i : (high.lo ≤ b.edge.src.0) × (b.edge.src.0 < high.hi)). absurd (let apart : low.hi ≤ high.lo = h.behind.0 in omega (arith, i.0)))
          (h.sources k d (omega arith))

  pub high_is_part : IsPart (record { lo = high.lo; hi = high.hi; edges = drop count edges })
  high_is_part =
      record {
        bounds = h.behind.1;
        ascending = drop_ordered edges count h.ordered;
        within = λ k d lt. (let l : count + k < length edges = (let e = length-drop count edges in omega arith) in rw (get_or-drop count edges k d) (inside (count + k) d (omega arith) l));
      }
    where
      inside : (k : ℕ) (d : Born) → count ≤ k → k < length edges → (high.lo ≤ (get_or edges k d).edge.src.0) × ((get_or edges k d).edge.src.0 < high.hi)
      inside k d le lt =
          let b : Born = get_or edges k d in
          let above : low.hi ≤ b.edge.src.0 = at.behind k d le lt in
          either
          (λ (i : (low.lo ≤ b.edge.src.0) × (b.edge.src.0 < low.hi)). absurd (omega (arith, i.1)))
          (λ (i : (high.lo ≤ b.edge.src.0) × (b.edge.src.0 < high.hi)). i)
          (h.sources k d lt)
