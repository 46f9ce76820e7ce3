-- Edges are counted, some and then others.
use Rattle.std.proofs.Common.{◌≡◌, ℕ, ◌+◌, ◌<◌, ◌≤◌, ◌==◌, max, List, [], ◌∷◌, ◌++◌, length, take, get_or, refl, sym, arith, subst, length-append, cond}
use Rattle.std.specs.Prelude.{All}
use Rattle.std.proofs.lemmas.List.{take_more}
use Rattle.std.proofs.lemmas.List.Sums.{sum_by-append}
use Rattle.std.proofs.lemmas.List.Elements.{All-head, All-tail}
use Rattle.graph_words.specs.declared.types.Edge.{Edge}
use Rattle.edge_text.specs.EdgesText.{vertex_count_of}
use Rattle.edge_text.specs.Feed.{IsNumbered}
use Rattle.import_text.specs.Degrees.{degree, AreDegrees, Counted}

pub vertex_count_of-append : (xs ys : List Edge) → vertex_count_of (xs ++ ys) ≡ max (vertex_count_of xs) (vertex_count_of ys)
vertex_count_of-append [] ys = omega arith
vertex_count_of-append (x ∷ xs) ys = let rest = vertex_count_of-append xs ys in omega arith

degree-append : (xs ys : List Edge) (v : ℕ) → degree (xs ++ ys) v ≡ degree xs v + degree ys v
degree-append xs ys v = sum_by-append (λ e. cond (e.src.0 == v) 1 0) xs ys

pub Counted-none : (d : List ℕ) → Counted [] d d
Counted-none d = record { longer = omega arith; each = λ v. omega arith; all = omega arith }

pub Counted-then : (xs ys : List Edge) (a b c : List ℕ) → Counted xs a b → Counted ys b c → Counted (xs ++ ys) a c
Counted-then xs ys a b c p q =
    record {
      longer = omega (arith, p.longer, q.longer, vertex_count_of-append xs ys);
      each = λ v. omega (arith, p.each v, q.each v, degree-append xs ys v);
      all = omega (arith, p.all, q.all, length-append xs ys);
    }

-- one edge more
pub Counted-step : (edges : List Edge) (i : ℕ) (d : Edge) (a b c : List ℕ) → i < length edges → Counted (take i edges) a b → Counted (get_or edges i d ∷ []) b c → Counted (take (i + 1) edges) a c
Counted-step edges i d a b c l p q = subst (λ (es : List Edge). Counted es a c) (sym (take_more edges i d l)) (Counted-then (take i edges) (get_or edges i d ∷ []) a b c p q)

pub AreDegrees-none : AreDegrees [] []
AreDegrees-none = record { count = refl; each = λ v. refl }

pub AreDegrees-then : (front added : List Edge) (old new : List ℕ) → AreDegrees front old → Counted added old new → AreDegrees (front ++ added) new
AreDegrees-then front added old new p q =
    record {
      count = omega (arith, p.count, q.longer, vertex_count_of-append front added);
      each = λ v. omega (arith, p.each v, q.each v, degree-append front added v);
    }

-- edges with vertices of edge files have few vertices
pub few_numbered : (n : ℕ) (edges : List Edge) → All (IsNumbered n) edges → vertex_count_of edges ≤ 16777216
few_numbered n [] all = omega arith
few_numbered n (e ∷ es) all =
    let i = All-head (IsNumbered n) e es all in
    let rest = few_numbered n es (All-tail (IsNumbered n) e es all) in
    omega (arith, i.source, i.destination, rest)
