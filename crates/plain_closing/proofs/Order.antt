-- What a sort says of edges that stand once.
use Rattle.std.proofs.Common.{sym, refl, ◌∙◌, true, ◌≡◌, ◌≢◌, ◌⊎◌, ℕ, ◌<◌, ◌≤◌, List, Bool, false, ◌&&◌, eqb, get_or, nat_cmp, is_lt, arith, rules, inl, inr}
use Rattle.std.specs.Prelude.{IsSorted, IsPermutation}
use Rattle.std.specs.Bool.{Decides}
use Rattle.std.specs.Cmp.{IsTotalOrder}
use Rattle.std.specs.Ordering.{ordering_then, is_eq}
use Rattle.std.proofs.lemmas.Bool.Decides.{nat_tests}
use Rattle.std.proofs.lemmas.Cmp.{then_total, on_total, nat_cmp_total}
use Rattle.std.proofs.lemmas.List.Sorted.{ranks_by, sorted_far}
use Rattle.std.proofs.lemmas.Map.Keys.{IsDistinct-IsPermutation}
use Rattle.std.proofs.lemmas.Map.Made.{AllPairs-from_IsDistinct, IsDistinct-from_AllPairs}
use Rattle.graph_words.specs.declared.types.Edge.{Edge}
use Rattle.graph_words.specs.Reach.{IsBefore, IsAscending}
use Rattle.plain_closing.specs.Joins.{IsOnce}
use Rattle.plain_closing.specs.Listed.{edge_cmp}

pub edge_cmp_total : IsTotalOrder edge_cmp
edge_cmp_total = then_total (on_total (λ (e : Edge). e.src.0) nat_cmp_total) (then_total (on_total (λ (e : Edge). e.label.0) nat_cmp_total) (on_total (λ (e : Edge). e.dst.0) nat_cmp_total))

abbrev edge_eq : Edge → Edge → Bool
edge_eq x y = eqb x.src.0 y.src.0 && (eqb x.label.0 y.label.0 && eqb x.dst.0 y.dst.0)

edge_eq_tells : (a b : Edge) → Decides (edge_eq a b) (a ≡ b)
edge_eq_tells a b = search rules

edge_eq_flips : (a b : Edge) → edge_eq a b ≡ edge_eq b a
edge_eq_flips a b = grind (arith, nat_tests)

not_after : (a b c x y z : ℕ) → is_lt (ordering_then (nat_cmp x a) (ordering_then (nat_cmp y b) (nat_cmp z c))) ≡ false → (a < x) ⊎ ((a ≡ x) × ((b < y) ⊎ ((b ≡ y) × (c ≤ z))))
not_after a b c x y z h = grind (arith, nat_tests)

pub IsOnce-permutation : (xs ys : List Edge) → IsPermutation xs ys → IsOnce xs → IsOnce ys
IsOnce-permutation xs ys p once = AllPairs-from_IsDistinct edge_eq_tells ys (IsDistinct-IsPermutation edge_eq edge_eq_flips xs ys p (IsDistinct-from_AllPairs edge_eq_tells xs once))

abbrev make : ℕ → ℕ → ℕ → Edge
make a b c = record { src = record { 0 = a }; label = record { 0 = b }; dst = record { 0 = c } }

same_edge : (a b c x y z : ℕ) → a ≡ x → b ≡ y → c ≡ z → make a b c ≡ make x y z
same_edge a b c x y z s l d = cc

before : (x y : Edge) → x ≢ y → is_lt (edge_cmp y x) ≡ false → IsBefore x y
before x y n h = go (not_after x.src.0 x.label.0 x.dst.0 y.src.0 y.label.0 y.dst.0 h)
  where
    go : (x.src.0 < y.src.0) ⊎ ((x.src.0 ≡ y.src.0) × ((x.label.0 < y.label.0) ⊎ ((x.label.0 ≡ y.label.0) × (x.dst.0 ≤ y.dst.0)))) → IsBefore x y
    go (inl s) = inl s
    go (inr (e, inl l)) = inr (e, inl l)
    go (inr (e, inr (f, le))) =
        let apart : x.dst.0 ≢ y.dst.0 = λ q. n (same_edge x.src.0 x.label.0 x.dst.0 y.src.0 y.label.0 y.dst.0 e f q) in
        inr (e, inr (f, omega arith))

pub IsAscending-from_sort : (xs : List Edge) → IsOnce xs → IsSorted edge_cmp xs → IsAscending xs
IsAscending-from_sort xs once up i j d l h =
    before (get_or xs i d) (get_or xs j d) (once i j d l h)
    (sorted_far (λ x y. is_lt (edge_cmp x y)) (ranks_by edge_cmp_total (λ e. e)) xs up i j d (omega arith) h)

edge_eq_by_cmp : (x y : Edge) → is_eq (edge_cmp x y) ≡ edge_eq x y
edge_eq_by_cmp x y = grind (arith, nat_tests)

-- edges that compare equal are one
pub edges_are_same : (x y : Edge) → is_eq (edge_cmp x y) ≡ true → x ≡ y
edges_are_same x y h = (edge_eq_tells x y).0 (sym (edge_eq_by_cmp x y) ∙ h)

-- an edge compares equal to itself
pub edge_is_itself : (x : Edge) → is_eq (edge_cmp x x) ≡ true
edge_is_itself x = edge_eq_by_cmp x x ∙ (edge_eq_tells x x).1 refl
