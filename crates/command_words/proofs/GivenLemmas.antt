-- Options as the code has them, and as the definitions see them.
use Rattle.std.proofs.Common.{◌≡◌, ◌≢◌, ◌<◌, ◌≤◌, ◌+◌, ℕ, zero, suc, List, [], ◌∷◌, length, map, take, drop, All, AllPairs, Contains, slice_index_or, ◌-◌, ◌∙◌, inl, inr, arith, ap, subst, sym}
use Rattle.std.proofs.lemmas.List.{get_or-drop, get_or_default, length-drop, take_all}
use Rattle.std.proofs.lemmas.List.Elements.{All-nil, All-cons, All-head, All-tail, All-map}
use Rattle.std.proofs.lemmas.List.Kept.{AllPairs-cons}
use Rattle.std.proofs.Math.Nat.{eq-or-lt_of_le}
use Rattle.command_words.specs.Command.{AreOptions}
use Rattle.command_words.specs.CutWords.{given_said}
use Rattle.command_words.specs.declared.cut_words.Given.{Given}

module _ {X : Type 0} where
  pairs-nil : (R : X → X → Type 0) → AllPairs R []
  pairs-nil R i j d l h = absurd (omega arith)

  pairs-head : (R : X → X → Type 0) (x : X) (xs : List X) → AllPairs R (x ∷ xs) → All (R x) xs
  pairs-head R x xs p k d h = p zero (suc k) d (omega arith) (omega arith)

  pairs-tail : (R : X → X → Type 0) (x : X) (xs : List X) → AllPairs R (x ∷ xs) → AllPairs R xs
  pairs-tail R x xs p i j d l h = p (suc i) (suc j) d (omega arith) (omega arith)

  all-behind : (xs : List X) (i : ℕ) → take (length xs - i) (drop i xs) ≡ drop i xs
  all-behind xs i = let len = length-drop i xs in take_all (length xs - i) (drop i xs) (omega arith)

  after : (R : X → X → Type 0) (xs : List X) (i : ℕ) (e : X) → i < length xs → AllPairs R xs → All (R (slice_index_or xs i e)) (drop (i + 1) xs)
  after R xs i e within p k d h =
      let len = length-drop (i + 1) xs in
      let one = p i (i + 1 + k) d (omega arith) (omega arith) in
      subst (λ y. R (slice_index_or xs i e) y) (sym (get_or-drop (i + 1) xs k d))
      (subst (λ y. R y (slice_index_or xs (i + 1 + k) d)) (get_or_default xs i d e within) one)

  -- what holds of each pair holds of an element and those behind it
  pub pairs-behind : (R : X → X → Type 0) (xs : List X) (i : ℕ) (e : X) → i < length xs → AllPairs R xs → All (R (slice_index_or xs i e)) (take (length xs - (i + 1)) (drop (i + 1) xs))
  pairs-behind R xs i e within p = subst (All (R (slice_index_or xs i e))) (sym (all-behind xs (i + 1))) (after R xs i e within p)

  -- one element more, of which it holds with those behind it
  pub pairs-more : (R : X → X → Type 0) (xs : List X) (i : ℕ) (e : X) → ((k j : ℕ) (d : X) → k < i → k < j → j < length xs → R (slice_index_or xs k d) (slice_index_or xs j d)) → All (R (slice_index_or xs i e)) (take (length xs - (i + 1)) (drop (i + 1) xs)) → (k j : ℕ) (d : X) → k < i + 1 → k < j → j < length xs → R (slice_index_or xs k d) (slice_index_or xs j d)
  pairs-more R xs i e before behind k j d low less within =
      let le : k ≤ i = omega arith in
      elim (eq-or-lt_of_le le) [
        | inl same ↦
            let len = length-drop (i + 1) xs in
            let at : i + 1 + (j - (i + 1)) ≡ j = omega arith in
            let all = subst (All (R (slice_index_or xs i e))) (all-behind xs (i + 1)) behind in
            let one = all (j - (i + 1)) d (omega arith) in
            let there = subst (λ y. R (slice_index_or xs i e) y) (get_or-drop (i + 1) xs (j - (i + 1)) d ∙ ap (λ n. slice_index_or xs n d) at) one in
            subst (λ n. R (slice_index_or xs n d) (slice_index_or xs j d)) (sym same)
            (subst (λ y. R y (slice_index_or xs j d)) (get_or_default xs i e d (omega arith)) there)
        | inr lower ↦ before k j d lower less within
      ]

module _ {X Y : Type 0} (f : Y → X) where
  All-unmap : (P : X → Type 0) (ys : List Y) → All P (map f ys) → All (λ y. P (f y)) ys
  All-unmap P [] h = All-nil (λ y. P (f y))
  All-unmap P (y ∷ ys) h = All-cons (λ z. P (f z)) y ys (All-head P (f y) (map f ys) h) (All-unmap P ys (All-tail P (f y) (map f ys) h))

  pairs-map : (R : X → X → Type 0) (ys : List Y) → AllPairs (λ a b. R (f a) (f b)) ys → AllPairs R (map f ys)
  pairs-map R [] p = pairs-nil R
  pairs-map R (y ∷ ys) p =
      AllPairs-cons R (f y) (map f ys) (All-map (R (f y)) f ys (pairs-head (λ a b. R (f a) (f b)) y ys p)) (pairs-map R ys (pairs-tail (λ a b. R (f a) (f b)) y ys p))

  pairs-unmap : (R : X → X → Type 0) (ys : List Y) → AllPairs R (map f ys) → AllPairs (λ a b. R (f a) (f b)) ys
  pairs-unmap R [] p = pairs-nil (λ a b. R (f a) (f b))
  pairs-unmap R (y ∷ ys) p =
      AllPairs-cons (λ a b. R (f a) (f b)) y ys (All-unmap (R (f y)) ys (pairs-head R (f y) (map f ys) p)) (pairs-unmap R ys (pairs-tail R (f y) (map f ys) p))

pub options_said : (names : List (List ℕ)) (options : List Given) → All (λ o. Contains names o.name.now) options → AllPairs (λ o p. o.name.now ≢ p.name.now) options → AreOptions names (map given_said options)
options_said names options known once = record {
  known = All-map (λ o. Contains names o.name) given_said options known;
  once = pairs-map given_said (λ o p. o.name ≢ p.name) options once;
}

pub known_of : (names : List (List ℕ)) (options : List Given) → AreOptions names (map given_said options) → All (λ o. Contains names o.name.now) options
known_of names options h = All-unmap given_said (λ o. Contains names o.name) options h.known

pub once_of : (names : List (List ℕ)) (options : List Given) → AreOptions names (map given_said options) → AllPairs (λ o p. o.name.now ≢ p.name.now) options
once_of names options h = pairs-unmap given_said (λ o p. o.name ≢ p.name) options h.once
