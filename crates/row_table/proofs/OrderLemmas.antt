-- The order of edges, and parts of lists in order.
use Rattle.std.proofs.Common.{◌≡◌, ℕ, ◌+◌, ◌-◌, ◌<◌, ◌≤◌, ◌⊎◌, List, ◌++◌, length, get_or, take, drop, sym, ap, subst, ◌∙◌, arith, inl, inr}
use Rattle.std.specs.Prelude.{Contains}
use Rattle.std.proofs.lemmas.Bool.{cases_lt}
use Rattle.std.proofs.lemmas.List.{length-take, length-drop, get_or-take, get_or-drop, drop-take, take-take, take-append-drop}
use Rattle.graph_words.specs.declared.types.Edge.{Edge}
use Rattle.graph_words.specs.declared.types.Born.{Born}
use Rattle.graph_words.specs.Reach.{IsBefore}
use Rattle.closing_machine.specs.Rounds.{IsOrdered}

pub before_trans : (x y z : Edge) → IsBefore x y → IsBefore y z → IsBefore x z
before_trans x y z p q = grind (arith, p, q)

pub before_not_same : (x : Edge) → IsBefore x x → ⊥
before_not_same x p = grind (arith, p)

same_edge : (x y : Edge) → x.src.0 ≡ y.src.0 → x.label.0 ≡ y.label.0 → x.dst.0 ≡ y.dst.0 → x ≡ y
same_edge x y a b c =
    let f : ℕ → ℕ → ℕ → Edge = λ s l d. record { src = record { 0 = s }; label = record { 0 = l }; dst = record { 0 = d } } in
    ap (λ (s : ℕ). f s x.label.0 x.dst.0) a ∙ ap (λ (l : ℕ). f y.src.0 l x.dst.0) b ∙ ap (λ (d : ℕ). f y.src.0 y.label.0 d) c

-- of two edges one stands before the other, or they are the same
pub one_first : (x y : Edge) → IsBefore x y ⊎ ((x ≡ y) ⊎ IsBefore y x)
one_first x y =
    elim (cases_lt x.src.0 y.src.0) [
      | inl lt ↦ inl (inl lt)
      | inr ge ↦ elim (cases_lt y.src.0 x.src.0) [
        | inl gt ↦ inr (inr (inl gt))
        | inr le ↦ by_label (omega arith)
      ]
    ]
  where
    by_destination : x.src.0 ≡ y.src.0 → x.label.0 ≡ y.label.0 → IsBefore x y ⊎ ((x ≡ y) ⊎ IsBefore y x)
    by_destination s l =
        elim (cases_lt x.dst.0 y.dst.0) [
          | inl lt ↦ inl (inr (s, inr (l, lt)))
          | inr ge ↦ elim (cases_lt y.dst.0 x.dst.0) [
            | inl gt ↦ inr (inr (inr (sym s, inr (sym l, gt))))
            | inr le ↦ inr (inl (same_edge x y s l (omega arith)))
          ]
        ]

    by_label : x.src.0 ≡ y.src.0 → IsBefore x y ⊎ ((x ≡ y) ⊎ IsBefore y x)
    by_label s =
        elim (cases_lt x.label.0 y.label.0) [
          | inl lt ↦ inl (inr (s, inl lt))
          | inr ge ↦ elim (cases_lt y.label.0 x.label.0) [
            | inl gt ↦ inr (inr (inr (sym s, inl gt)))
            | inr le ↦ by_destination s (omega arith)
          ]
        ]

-- ---- parts of a list

module _ {X : Type 0} (xs : List X) (p n : ℕ) where
  pub part_at : (k : ℕ) (d : X) → k < length (take n (drop p xs)) → get_or (take n (drop p xs)) k d ≡ get_or xs (p + k) d
  part_at k d lt =
      let l : k < n = (let e = length-take n (drop p xs) in omega arith) in
      get_or-take n (drop p xs) k d l ∙ get_or-drop p xs k d

  pub part_within : (k : ℕ) → k < length (take n (drop p xs)) → (k < n) × (p + k < length xs)
  part_within k lt = let e = length-take n (drop p xs) in let f = length-drop p xs in (omega arith, omega arith)

  -- an element of a part stands at a place of the list
  pub place_in_part : (x : X) → Contains (take n (drop p xs)) x → (k : ℕ) × (p ≤ k) × (k < p + n) × (k < length xs) × (get_or xs k x ≡ x)
  place_in_part x m =
      let w = part_within m.0 m.1 in
      (p + m.0, omega arith, (let l : m.0 < n = w.0 in omega arith), w.1, sym (part_at m.0 x m.1) ∙ m.2)

  pub part_in_whole : (x : X) → Contains (take n (drop p xs)) x → Contains xs x
  part_in_whole x m = let w = place_in_part x m in (w.0, w.3, w.4)

pub part_ordered : (xs : List Born) (p n : ℕ) → IsOrdered xs → IsOrdered (take n (drop p xs))
part_ordered xs p n ordered i j d lt end =
    let w = part_within xs p n j end in
    let a = part_at xs p n i d (omega arith) in
    let b = part_at xs p n j d end in
    rw (a, b) (ordered (p + i) (p + j) d (omega arith) w.1)

pub drop_ordered : (xs : List Born) (p : ℕ) → IsOrdered xs → IsOrdered (drop p xs)
drop_ordered xs p ordered i j d lt end =
    let f = length-drop p xs in
    rw (get_or-drop p xs i d, get_or-drop p xs j d) (ordered (p + i) (p + j) d (omega arith) (omega arith))

pub place_in_drop : {X : Type 0} (xs : List X) (p : ℕ) (x : X) → Contains (drop p xs) x → (k : ℕ) × (p ≤ k) × (k < length xs) × (get_or xs k x ≡ x)
place_in_drop xs p x m = let f = length-drop p xs in (p + m.0, omega arith, omega (arith, m.1), sym (get_or-drop p xs m.0 x) ∙ m.2)

pub front_grows : {X : Type 0} (xs : List X) (i j : ℕ) → i ≤ j → take i xs ++ take (j - i) (drop i xs) ≡ take j xs
front_grows xs i j le =
    let e : i + (j - i) ≡ j = omega arith in
    let back : drop i (take j xs) ≡ take (j - i) (drop i xs) = subst (λ (k : ℕ). drop i (take k xs) ≡ take (j - i) (drop i xs)) e (drop-take i (j - i) xs) in
    ap (λ (l : List _). take i xs ++ l) (sym back) ∙ ap (λ (l : List _). l ++ drop i (take j xs)) (sym (take-take i j xs le)) ∙ take-append-drop i (take j xs)
