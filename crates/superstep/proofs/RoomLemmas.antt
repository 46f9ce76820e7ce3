-- The loaded edges are no more than their intervals can have.
use Rattle.std.proofs.Common.{◌≡◌, ℕ, ◌+◌, ◌<◌, ◌≤◌, ◌⊎◌, true, Option, Some, None, List, [], ◌∷◌, length, refl, arith, inl, inr}
use Rattle.std.specs.Prelude.{All, Contains, nat_lt, not, filter}
use Rattle.std.proofs.lemmas.Bool.Decides.{nat_tests}
use Rattle.std.proofs.lemmas.List.Elements.{All-contains}
use Rattle.std.proofs.lemmas.List.Filters.{length-filter_both}
use Rattle.std.proofs.lemmas.List.Kept.{AllPairs-filter}
use Rattle.graph_words.specs.declared.types.LabelId.{LabelId}
use Rattle.graph_words.specs.declared.types.PairRule.{PairRule}
use Rattle.graph_words.specs.declared.types.Rule.{Rule}
use Rattle.graph_words.specs.declared.types.Born.{Born}
use Rattle.graph_words.specs.Reach.{IsBefore, rule}
use Rattle.normal_law.specs.Closure.{HasNamedLabels, IsNamed, IsUp, itself, above}
use Rattle.normal_law.specs.Closed.{Joins}
use Rattle.normal_law.specs.NormalForm.{normal_form, all_pairs, fresh_words}
use Rattle.normal_law.proofs.PairLemmas.{pairs_left}
use Rattle.normal_form.specs.Grammar.{IsGrammar}
use Rattle.normal_form.proofs.NormalLemmas.{fresh_few}
use Rattle.closing_machine.specs.Rounds.{IsOrdered}
use Rattle.closing_machine.specs.Capacity.{IsInBox, capacity}
use Rattle.closing_machine.proofs.Members.{either, Contains-kept, passes}
use Rattle.closing_machine.proofs.Room.{capacity_bounds}
use Rattle.row_table.specs.declared.span.Span.{Span}
use Rattle.row_table.specs.Loaded.{Loaded, IsLoaded, IsRow, IsBehind, LiesInSpan, LiesInHigh}
use Rattle.superstep.specs.Room.{IsInFormat, capacity_of, capacity_of_high}

-- ---- labels of the normal form

up_known : (rules : List Rule) (b a : LabelId) (m : ℕ) → HasNamedLabels rules → 1000 ≤ m → b.0 < m → IsUp rules b a → a.0 < m
up_known rules b a m names le lt itself = lt
up_known rules b a m names le lt (above c up has) = let h = All-contains (λ (r : Rule). IsNamed r.left × All IsNamed r.right) rules (rule a (c ∷ [])) names has in let k : a.0 < 1000 = h.0 in omega arith

pub joins_known : (rules : List Rule) → IsGrammar rules → (b c a : LabelId) → Joins (normal_form rules) b c a → a.0 < 63000
joins_known rules g b c a (p, has, e, f, up) =
    let few = fresh_few rules g in
    let left = All-contains (λ (p : PairRule). p.left.0 < 1000 + length (fresh_words rules)) (all_pairs 0 rules) p (pairs_left rules g.named) has in
    up_known rules p.left a 63000 g.named (omega arith) (omega arith) up

-- ---- edges of two intervals

box : (s : Span) (b : Born) → LiesInSpan s b.edge.src.0 → IsInFormat b → IsInBox s.lo s.hi b
box s b lies f = record { above = lies.0; below = lies.1; label = f.label; vertex = f.vertex }

in_low : (low high : Span) (b : Born) → low.hi ≤ high.lo → LiesInSpan low b.edge.src.0 ⊎ LiesInSpan high b.edge.src.0 → nat_lt b.edge.src.0 low.hi ≡ true → LiesInSpan low b.edge.src.0
in_low low high b le (inl h) t = h
in_low low high b le (inr h) t = let lt : b.edge.src.0 < low.hi = grind (arith, nat_tests) in let ge : high.lo ≤ b.edge.src.0 = h.0 in absurd (omega arith)

in_high : (low high : Span) (b : Born) → low.hi ≤ high.lo → LiesInSpan low b.edge.src.0 ⊎ LiesInSpan high b.edge.src.0 → not (nat_lt b.edge.src.0 low.hi) ≡ true → LiesInSpan high b.edge.src.0
in_high low high b le (inr h) t = h
in_high low high b le (inl h) t = let lt : b.edge.src.0 < low.hi = h.1 in let f : nat_lt b.edge.src.0 low.hi ≡ true = grind (arith, nat_tests) in absurd (cc)

fits_of : (low : Span) (high : Option Span) (edges : List Born) → IsBehind low high → IsOrdered edges → ((b : Born) → Contains edges b → LiesInSpan low b.edge.src.0 ⊎ LiesInHigh high b.edge.src.0) → ((b : Born) → Contains edges b → IsInFormat b) → length edges ≤ capacity low.lo low.hi + capacity_of_high high
fits_of low None edges behind o rows format =
    let h = capacity_bounds low.lo low.hi edges o (λ b m. box low b (either (λ l. l) (λ n. absurd n) (rows b m)) (format b m)) in
    omega arith
fits_of low (Some high) edges behind o rows format =
    let le : low.hi ≤ high.lo = behind.0 in
    let p = λ (b : Born). nat_lt b.edge.src.0 low.hi in
    let q = λ (b : Born). not (nat_lt b.edge.src.0 low.hi) in
    let R = λ (x y : Born). IsBefore x.edge y.edge in
    let first : length (filter p edges) ≤ capacity low.lo low.hi = capacity_bounds low.lo low.hi (filter p edges) (AllPairs-filter R p edges o) (λ b m. box low b (in_low low high b le (rows b (Contains-kept p edges b m)) (passes p edges b m)) (format b (Contains-kept p edges b m))) in
    let second : length (filter q edges) ≤ capacity high.lo high.hi = capacity_bounds high.lo high.hi (filter q edges) (AllPairs-filter R q edges o) (λ b m. box high b (in_high low high b le (rows b (Contains-kept q edges b m)) (passes q edges b m)) (format b (Contains-kept q edges b m))) in
    omega (arith, length-filter_both p q (λ b. refl) edges)

pub fits : (l : Loaded) → IsLoaded l → All IsInFormat l.edges → length l.edges ≤ capacity_of l
fits l is format = fits_of l.low l.high l.edges is.behind is.ordered (λ b m. All-contains (λ (b : Born). IsRow l b.edge.src.0) l.edges b is.sources m) (λ b m. All-contains IsInFormat l.edges b format m)
