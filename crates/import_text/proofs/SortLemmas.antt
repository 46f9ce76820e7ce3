-- Edges that are sorted and made once.
use Rattle.std.proofs.Common.{◌≡◌, ◌⊎◌, ℕ, ◌<◌, List, [], ◌∷◌, ◌&&◌, Bool, true, eqb, arith, nat_cmp, sym, ap, ◌∙◌}
use Rattle.std.specs.Prelude.{All}
use Rattle.std.specs.declared.cmp.Ordering.TheVariants.{Less}
use Rattle.std.specs.Ordering.{ordering_then, eq_by_cmp}
use Rattle.std.specs.Cmp.{IsEquivalence}
use Rattle.plain_closing.proofs.Order.{edges_are_same}
use Rattle.std.specs.List.{AllByRecursion}
use Rattle.std.specs.List.Sorted.{IsStrictlySortedBy}
use Rattle.std.proofs.lemmas.Bool.Decides.{nat_tests}
use Rattle.std.proofs.lemmas.List.Elements.{All-nil, All-cons}
use Rattle.std.proofs.lemmas.List.Kept.{AllPairs-cons}
use Rattle.graph_words.specs.declared.types.Edge.{Edge}
use Rattle.graph_words.specs.Reach.{IsBefore, IsAscending}
use Rattle.plain_closing.specs.Listed.{edge_cmp}

before : (a b c x y z : ℕ) → ordering_then (nat_cmp a x) (ordering_then (nat_cmp b y) (nat_cmp c z)) ≡ Less → (a < x) ⊎ ((a ≡ x) × ((b < y) ⊎ ((b ≡ y) × (c < z))))
before a b c x y z h = grind (arith, nat_tests)

all_behind : (x : Edge) (ys : List Edge) → AllByRecursion (λ y. edge_cmp x y ≡ Less) ys → All (IsBefore x) ys
all_behind x [] h = All-nil (IsBefore x)
all_behind x (y ∷ ys) h = All-cons (IsBefore x) y ys (before x.src.0 x.label.0 x.dst.0 y.src.0 y.label.0 y.dst.0 h.0) (all_behind x ys h.1)

pub IsAscending-from_strict : (xs : List Edge) → IsStrictlySortedBy edge_cmp xs → IsAscending xs
unfolding IsStrictlySortedBy
IsAscending-from_strict [] h = λ i j d l m. absurd (omega (arith, m))
IsAscending-from_strict (x ∷ xs) h = AllPairs-cons IsBefore x xs (all_behind x xs h.0) (IsAscending-from_strict xs h.1)

-- ---- the equality of edges
abbrev edge_eq : Edge → Edge → Bool
edge_eq x y = eqb x.src.0 y.src.0 && (eqb x.label.0 y.label.0 && eqb x.dst.0 y.dst.0)

pub edge_eq_ties : (x y : Edge) → edge_eq x y ≡ eq_by_cmp edge_cmp x y
edge_eq_ties x y = grind (arith, nat_tests)

pub edge_eq_exact : (x y : Edge) → edge_eq x y ≡ true → x ≡ y
edge_eq_exact x y h = edges_are_same x y (sym (edge_eq_ties x y) ∙ h)

pub edge_eq_equiv : IsEquivalence edge_eq
edge_eq_equiv = record { refl = λ x. grind (arith, nat_tests); symm = λ x y. grind (arith, nat_tests); congr = λ x y z h. ap (λ (e : Edge). edge_eq e z) (edge_eq_exact x y h) }
