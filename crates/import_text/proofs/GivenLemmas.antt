-- Edges are added to those that are given.
use Rattle.std.proofs.Common.{◌≡◌, ◌⊎◌, ◌↔◌, ℕ, ◌+◌, ◌<◌, ◌≤◌, List, [], ◌∷◌, ◌++◌, length, take, get_or, refl, ap, sym, ◌∙◌, arith, subst, inl, inr}
use Rattle.std.specs.Prelude.{Contains}
use Rattle.std.proofs.lemmas.Bool.{cases_lt}
use Rattle.std.proofs.lemmas.List.{take_more, take_all}
use Rattle.std.proofs.lemmas.List.Elements.{Contains-append_left, Contains-append_right, Contains-append_cases, Contains-push, Contains-push_cases}
use Rattle.graph_words.specs.declared.types.Edge.{Edge}
use Rattle.graph_words.specs.declared.types.LabelId.{LabelId}
use Rattle.graph_words.specs.declared.types.Vertex.{Vertex}
use Rattle.graph_words.specs.Reach.{edge}
use Rattle.normal_law.specs.Closure.{Normal, IsUp, IsEmpty}
use Rattle.plain_closing.specs.Begin.{IsEdgeBetween}
use Rattle.import_text.specs.Given.{AddsJust, IsFrom, IsAboveIn, IsLoopIn}

pub AddsJust-none : (P : Edge → Type 0) (xs : List Edge) → ((e : Edge) → P e → ⊥) → AddsJust P xs xs
AddsJust-none P xs none e = (λ m. inl m, λ h. elim h [ inl m ↦ m | inr p ↦ absurd (none e p) ])

pub AddsJust-then : (P Q R : Edge → Type 0) (xs ys zs : List Edge) → AddsJust P xs ys → AddsJust Q ys zs → ((e : Edge) → R e ↔ (P e ⊎ Q e)) → AddsJust R xs zs
AddsJust-then P Q R xs ys zs p q r e = (
  λ m. elim ((q e).0 m) [ inl y ↦ elim ((p e).0 y) [ inl x ↦ inl x | inr h ↦ inr ((r e).1 (inl h)) ] | inr h ↦ inr ((r e).1 (inr h)) ],
  λ h. elim h [ inl x ↦ (q e).1 (inl ((p e).1 (inl x))) | inr h ↦ elim ((r e).0 h) [ inl h ↦ (q e).1 (inl ((p e).1 (inr h))) | inr h ↦ (q e).1 (inr h) ] ],
)

pub AddsJust-same : (P : Edge → Type 0) (xs ys zs : List Edge) → AddsJust P xs ys → ((e : Edge) → Contains zs e ↔ Contains ys e) → AddsJust P xs zs
AddsJust-same P xs ys zs p same e = (λ m. (p e).0 ((same e).0 m), λ h. (same e).1 ((p e).1 h))

-- ---- an edge for each label
pub between_none : (u v : Vertex) (xs : List Edge) → AddsJust (IsEdgeBetween u [] v) xs xs
between_none u v xs = AddsJust-none (IsEdgeBetween u [] v) xs (λ e b. omega (arith, b.1.1))

-- one label more
pub between_more : (u v : Vertex) (labels : List LabelId) (i : ℕ) (d : LabelId) (xs ys zs : List Edge) → i < length labels → AddsJust (IsEdgeBetween u (take i labels) v) xs ys → zs ≡ ys ++ edge u (get_or labels i d) v ∷ [] → AddsJust (IsEdgeBetween u (take (i + 1) labels) v) xs zs
between_more u v labels i d xs ys zs l p is =
    AddsJust-then (IsEdgeBetween u (take i labels) v) (λ e. edge u x v ≡ e) (IsEdgeBetween u (take (i + 1) labels) v) xs ys zs p pushed both
  where
    x : LabelId
    x = get_or labels i d

    pushed : AddsJust (λ e. edge u x v ≡ e) ys zs
    pushed = subst (λ (l : List Edge). AddsJust (λ e. edge u x v ≡ e) ys l) (sym is) (λ e. (λ m. Contains-push_cases ys (edge u x v) e m, λ h. elim h [ inl m ↦ Contains-append_left ys (edge u x v ∷ []) e m | inr same ↦ subst (λ (e : Edge). Contains (ys ++ edge u x v ∷ []) e) same (Contains-push ys (edge u x v)) ]))

    both : (e : Edge) → IsEdgeBetween u (take (i + 1) labels) v e ↔ (IsEdgeBetween u (take i labels) v e ⊎ (edge u x v ≡ e))
    both e = (
      λ b. elim (Contains-push_cases (take i labels) x b.0 (subst (λ (ls : List LabelId). Contains ls b.0) (take_more labels i d l) b.1)) [ inl m ↦ inl (b.0, m, b.2) | inr same ↦ inr (ap (λ a. edge u a v) same ∙ sym b.2) ],
      λ h. elim h [ inl b ↦ (b.0, subst (λ (ls : List LabelId). Contains ls b.0) (sym (take_more labels i d l)) (Contains-append_left (take i labels) (x ∷ []) b.0 b.1), b.2) | inr same ↦ (x, subst (λ (ls : List LabelId). Contains ls x) (sym (take_more labels i d l)) (Contains-push (take i labels) x), sym same) ],
    )

pub between_all : (u v : Vertex) (labels : List LabelId) (i : ℕ) (xs ys : List Edge) → length labels ≤ i → AddsJust (IsEdgeBetween u (take i labels) v) xs ys → AddsJust (IsEdgeBetween u labels v) xs ys
between_all u v labels i xs ys past p = subst (λ (ls : List LabelId). AddsJust (IsEdgeBetween u ls v) xs ys) (take_all i labels past) p

-- ---- the labels above the edges from an interval
pub above_none : (n : Normal) (lo hi : ℕ) (xs : List Edge) → AddsJust (IsAboveIn n lo hi []) xs xs
above_none n lo hi xs = AddsJust-none (IsAboveIn n lo hi []) xs (λ e a. omega (arith, a.1.1.1))

pub above_append : (n : Normal) (lo hi : ℕ) (xs ys : List Edge) (e : Edge) → IsAboveIn n lo hi (xs ++ ys) e ↔ (IsAboveIn n lo hi xs e ⊎ IsAboveIn n lo hi ys e)
above_append n lo hi xs ys e = (
  λ a. elim (Contains-append_cases xs ys (edge e.src a.1.0 e.dst) a.1.1) [ inl m ↦ inl (a.0, (a.1.0, m, a.1.2)) | inr m ↦ inr (a.0, (a.1.0, m, a.1.2)) ],
  λ h. elim h [ inl a ↦ (a.0, (a.1.0, Contains-append_left xs ys (edge e.src a.1.0 e.dst) a.1.1, a.1.2)) | inr a ↦ (a.0, (a.1.0, Contains-append_right xs ys (edge e.src a.1.0 e.dst) a.1.1, a.1.2)) ],
)

-- the one of a list of one
only_one : (x y : Edge) → Contains (x ∷ []) y → x ≡ y
only_one x y m = elim (Contains-push_cases [] x y m) [ inl m ↦ absurd (omega (arith, m.1)) | inr same ↦ same ]

-- an edge from elsewhere gives nothing
pub above_elsewhere : (n : Normal) (lo hi : ℕ) (x : Edge) (xs : List Edge) → (IsFrom lo hi x → ⊥) → AddsJust (IsAboveIn n lo hi (x ∷ [])) xs xs
above_elsewhere n lo hi x xs away = AddsJust-none (IsAboveIn n lo hi (x ∷ [])) xs (λ e a. away (subst (λ (y : Edge). IsFrom lo hi y) (sym (only_one x (edge e.src a.1.0 e.dst) a.1.1)) a.0))

-- and one from the interval the labels above its own
pub above_one : (n : Normal) (lo hi : ℕ) (x : Edge) (labels : List LabelId) (xs ys : List Edge) → IsFrom lo hi x → ((a : LabelId) → Contains labels a ↔ IsUp n.rules x.label a) → AddsJust (IsEdgeBetween x.src labels x.dst) xs ys → AddsJust (IsAboveIn n lo hi (x ∷ [])) xs ys
above_one n lo hi x labels xs ys from up q e = (
  λ m. elim ((q e).0 m) [ inl m ↦ inl m | inr b ↦ inr (join b) ],
  λ h. elim h [ inl m ↦ (q e).1 (inl m) | inr a ↦ (q e).1 (inr (split a (only_one x (edge e.src a.1.0 e.dst) a.1.1))) ],
)
  where
    split : (a : IsAboveIn n lo hi (x ∷ []) e) → x ≡ edge e.src a.1.0 e.dst → IsEdgeBetween x.src labels x.dst e
    split a same = (e.label, (up e.label).1 (subst (λ (b : LabelId). IsUp n.rules b e.label) (sym (ap (λ (y : Edge). y.label) same)) a.1.2), ap (λ (y : Edge). edge y.src e.label y.dst) (sym same))

    join : IsEdgeBetween x.src labels x.dst e → IsAboveIn n lo hi (x ∷ []) e
    join b = subst (λ (e : Edge). IsAboveIn n lo hi (x ∷ []) e) (sym b.2) (from, (x.label, Contains-push [] x, (up b.0).0 b.1))

-- one edge more
pub above_more : (n : Normal) (lo hi : ℕ) (edges : List Edge) (i : ℕ) (d : Edge) (xs ys zs : List Edge) → i < length edges → AddsJust (IsAboveIn n lo hi (take i edges)) xs ys → AddsJust (IsAboveIn n lo hi (get_or edges i d ∷ [])) ys zs → AddsJust (IsAboveIn n lo hi (take (i + 1) edges)) xs zs
above_more n lo hi edges i d xs ys zs l p q =
    subst (λ (es : List Edge). AddsJust (IsAboveIn n lo hi es) xs zs) (sym (take_more edges i d l))
    (AddsJust-then (IsAboveIn n lo hi (take i edges)) (IsAboveIn n lo hi (get_or edges i d ∷ [])) (IsAboveIn n lo hi (take i edges ++ get_or edges i d ∷ [])) xs ys zs p q (above_append n lo hi (take i edges) (get_or edges i d ∷ [])))

pub above_all : (n : Normal) (lo hi : ℕ) (edges : List Edge) (i : ℕ) (xs ys : List Edge) → length edges ≤ i → AddsJust (IsAboveIn n lo hi (take i edges)) xs ys → AddsJust (IsAboveIn n lo hi edges) xs ys
above_all n lo hi edges i xs ys past p = subst (λ (es : List Edge). AddsJust (IsAboveIn n lo hi es) xs ys) (take_all i edges past) p

-- ---- the loops of an interval
pub loops_none : (n : Normal) (lo : ℕ) (xs : List Edge) → AddsJust (IsLoopIn n lo lo) xs xs
loops_none n lo xs = AddsJust-none (IsLoopIn n lo lo) xs (λ e a. omega (arith, a.0.0, a.0.1))

loop_is : (e : Edge) (v : ℕ) → e.src.0 ≡ v → e.dst.0 ≡ v → e ≡ edge (record { 0 = v }) e.label (record { 0 = v })
loop_is e v here there = ap (λ n. edge (record { 0 = n }) e.label e.dst) here ∙ ap (λ n. edge (record { 0 = v }) e.label (record { 0 = n })) there

-- one vertex more
pub loops_more : (n : Normal) (lo v : ℕ) (labels : List LabelId) (xs ys zs : List Edge) → lo ≤ v → ((a : LabelId) → Contains labels a ↔ IsEmpty n a) → AddsJust (IsLoopIn n lo v) xs ys → AddsJust (IsEdgeBetween (record { 0 = v }) labels (record { 0 = v })) ys zs → AddsJust (IsLoopIn n lo (v + 1)) xs zs
loops_more n lo v labels xs ys zs l empty p q =
    AddsJust-then (IsLoopIn n lo v) (IsEdgeBetween (record { 0 = v }) labels (record { 0 = v })) (IsLoopIn n lo (v + 1)) xs ys zs p q (λ e. (split e (cases_lt e.src.0 v), join e))
  where
    split : (e : Edge) → (e.src.0 < v) ⊎ (v ≤ e.src.0) → IsLoopIn n lo (v + 1) e → IsLoopIn n lo v e ⊎ IsEdgeBetween (record { 0 = v }) labels (record { 0 = v }) e
    split e (inl below) a = inl ((a.0.0, below), a.1, a.2)
    split e (inr above) a =
        let here : e.src.0 ≡ v = omega (arith, above, a.0.1) in
        let there : e.dst.0 ≡ v = ap (λ (u : Vertex). u.0) (sym a.1) ∙ here in
        inr (e.label, (empty e.label).1 a.2, loop_is e v here there)

    join : (e : Edge) → IsLoopIn n lo v e ⊎ IsEdgeBetween (record { 0 = v }) labels (record { 0 = v }) e → IsLoopIn n lo (v + 1) e
    join e (inl a) = ((a.0.0, omega (arith, a.0.1)), a.1, a.2)
    join e (inr (a, m, is)) = subst (λ (e : Edge). IsLoopIn n lo (v + 1) e) (sym is) ((l, omega arith), refl, (empty a).0 m)
