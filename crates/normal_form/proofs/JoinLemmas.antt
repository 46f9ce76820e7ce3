-- The joins of one label, by the second label.
use Rattle.std.proofs.Common.{◌≡◌, ◌≢◌, ℕ, zero, suc, ◌+◌, ◌<◌, ◌≤◌, ◌⊎◌, ◌↔◌, Bool, eqb, List, [], ◌∷◌, ◌++◌, length, get_or, set, take, drop, refl, sym, ◌∙◌, ap, subst, inl, inr, arith}
use Rattle.std.specs.Prelude.{Contains, IsTrue, insert, map}
use Rattle.std.specs.List.{take-map, drop-map}
use Rattle.std.proofs.Math.Seq.{map-set_same}
use Rattle.std.proofs.lemmas.Bool.{cases_lt}
use Rattle.std.proofs.lemmas.List.{get_or_default, get_or-map, length-map, map-append, take-append-drop, get_or-set_same, get_or-set_other, length-set}
use Rattle.std.proofs.lemmas.List.Elements.{Contains-get_or, Contains-append_left, Contains-append_right, Contains-append_cases}
use Rattle.graph_words.specs.declared.types.LabelId.{LabelId}
use Rattle.normal_form.specs.declared.joins.Join.{Join}
use Rattle.normal_form.specs.Rows.{AreLabelsAscending, PartsLabelsAt, AddsLabels}
use Rattle.normal_form.specs.Joins.{second_of, HasJoin, AddsJoins}
use Rattle.normal_form.proofs.RowLemmas.{IsParting, IsParting-low, IsParting-high, at_place, is_at_place, insert_ascends}

-- ---- lists that are changed at a place

pub single : {X : Type 0} (x y : X) → Contains (x ∷ []) y → x ≡ y
single x y (zero, h, e) = e
single x y (suc k, h, e) = absurd (omega arith)

module _ {X : Type 0} (xs : List X) (i : ℕ) (y : X) where
  pub Contains-set_has : i < length xs → Contains (set xs i y) y
  Contains-set_has l = (i, omega (arith, length-set {A = X}), get_or-set_same xs i y y l)

  pub Contains-set_cases : i < length xs → (x : X) → Contains (set xs i y) x → (y ≡ x) ⊎ Contains xs x
  Contains-set_cases l x (k, m, e) = go (cases_lt k i) (cases_lt i k)
    where
      within : k < length xs
      within = omega (arith, length-set {A = X})

      other : k ≢ i → (y ≡ x) ⊎ Contains xs x
      other differs = inr (k, within, sym (get_or-set_other xs i k y x differs) ∙ e)

      go : (k < i) ⊎ (i ≤ k) → (i < k) ⊎ (k ≤ i) → (y ≡ x) ⊎ Contains xs x
      go (inl a) b = other (λ s. omega arith)
      go (inr a) (inl b) = other (λ s. omega arith)
      go (inr a) (inr b) =
          let same : k ≡ i = omega arith in
          inl (sym (get_or-set_same xs i y x l) ∙ ap (λ (j : ℕ). get_or (set xs i y) j x) (sym same) ∙ e)

  pub Contains-set_keeps : i < length xs → (x : X) → Contains xs x → (get_or xs i x ≡ x) ⊎ Contains (set xs i y) x
  Contains-set_keeps l x (k, m, e) = go (cases_lt k i) (cases_lt i k)
    where
      other : k ≢ i → (get_or xs i x ≡ x) ⊎ Contains (set xs i y) x
      other differs = inr (k, omega (arith, length-set {A = X}), get_or-set_other xs i k y x differs ∙ e)

      go : (k < i) ⊎ (i ≤ k) → (i < k) ⊎ (k ≤ i) → (get_or xs i x ≡ x) ⊎ Contains (set xs i y) x
      go (inl a) b = other (λ s. omega arith)
      go (inr a) (inl b) = other (λ s. omega arith)
      go (inr a) (inr b) =
          let same : i ≡ k = omega arith in
          inl (ap (λ (j : ℕ). get_or xs j x) same ∙ e)

  whole : (x : X) → Contains (take i xs ++ drop i xs) x → Contains xs x
  whole x m = subst (λ (l : List X). Contains l x) (take-append-drop i xs) m

  pub Contains-insert_has : Contains (insert xs i y) y
  Contains-insert_has = Contains-append_right (take i xs) (y ∷ drop i xs) y (0, omega arith, refl)

  pub Contains-insert_keeps : (x : X) → Contains xs x → Contains (insert xs i y) x
  Contains-insert_keeps x m = go (Contains-append_cases (take i xs) (drop i xs) x (subst (λ (l : List X). Contains l x) (sym (take-append-drop i xs)) m))
    where
      go : Contains (take i xs) x ⊎ Contains (drop i xs) x → Contains (insert xs i y) x
      go (inl m) = Contains-append_left (take i xs) (y ∷ drop i xs) x m
      go (inr m) = Contains-append_right (take i xs) (y ∷ drop i xs) x (Contains-append_right (y ∷ []) (drop i xs) x m)

  pub Contains-insert_cases : (x : X) → Contains (insert xs i y) x → (y ≡ x) ⊎ Contains xs x
  Contains-insert_cases x m = go (Contains-append_cases (take i xs) (y ∷ drop i xs) x m)
    where
      later : Contains (y ∷ []) x ⊎ Contains (drop i xs) x → (y ≡ x) ⊎ Contains xs x
      later (inl m) = inl (single y x m)
      later (inr m) = inr (whole x (Contains-append_right (take i xs) (drop i xs) x m))

      go : Contains (take i xs) x ⊎ Contains (y ∷ drop i xs) x → (y ≡ x) ⊎ Contains xs x
      go (inl m) = inr (whole x (Contains-append_left (take i xs) (drop i xs) x m))
      go (inr m) = later (Contains-append_cases (y ∷ []) (drop i xs) x m)

-- ---- the second labels

-- the second label of the join at a place
read_second : (joins : List Join) (k : ℕ) (j : Join) (d : LabelId) → k < length joins → j ≡ get_or joins k j → get_or (map second_of joins) k d ≡ j.second
read_second joins k j d l is = get_or-map second_of joins k j d l ∙ ap second_of (sym is)

module _ (joins : List Join) (second : LabelId) (up : AreLabelsAscending (map second_of joins)) where
  pub second_low : (low high middle : ℕ) (j : Join) → IsParting (map second_of joins) second low high → middle < high → (get_or joins middle j).second.0 < second.0 → IsParting (map second_of joins) second (middle + 1) high
  second_low low high middle j p l small =
      let w = p.within in
      let there : middle < length joins = omega (arith, length-map joins second_of) in
      IsParting-low (map second_of joins) second low high middle j.second up p l (subst (λ (x : LabelId). x.0 < second.0) (sym (get_or-map second_of joins middle j j.second there)) small)

  pub second_high : (low high middle : ℕ) (j : Join) → IsParting (map second_of joins) second low high → low ≤ middle → middle < high → second.0 ≤ (get_or joins middle j).second.0 → IsParting (map second_of joins) second low middle
  second_high low high middle j p le l large =
      let w = p.within in
      let there : middle < length joins = omega (arith, length-map joins second_of) in
      IsParting-high (map second_of joins) second low high middle j.second up p le l (subst (λ (x : LabelId). second.0 ≤ x.0) (sym (get_or-map second_of joins middle j j.second there)) large)

  module _ (place : ℕ) (p : PartsLabelsAt (map second_of joins) second place) where
    pub second_there : (j : Join) (b : Bool) → place < length joins → b ≡ eqb (get_or joins place j).second.0 second.0 → IsTrue b ↔ Contains (map second_of joins) second
    second_there j b l e =
        is_at_place (map second_of joins) second place j.second b up p (omega (arith, length-map joins second_of))
        (e ∙ ap (λ (x : LabelId). eqb x.0 second.0) (sym (get_or-map second_of joins place j j.second l)))

    pub second_within : Contains (map second_of joins) second → place < length joins
    second_within m = let l = (at_place (map second_of joins) second place second up p m).0 in omega (arith, length-map joins second_of)

    -- the join at its place is the one with the second label
    pub second_is : (j : Join) → Contains (map second_of joins) second → j ≡ get_or joins place j → j.second ≡ second
    second_is j m is = sym (read_second joins place j j.second (second_within m) is) ∙ (at_place (map second_of joins) second place j.second up p m).1

    same_place : (k : ℕ) (d : LabelId) → k < length joins → Contains (map second_of joins) second → get_or (map second_of joins) k d ≡ second → k ≡ place
    same_place k d l m e = go (cases_lt k place) (cases_lt place k)
      where
        number : (get_or (map second_of joins) k d).0 ≡ second.0
        number = ap (λ (x : LabelId). x.0) e

        go : (k < place) ⊎ (place ≤ k) → (place < k) ⊎ (k ≤ place) → k ≡ place
        go (inl a) b = let h = p.below k d a in absurd (omega (arith, number))
        go (inr a) (inl b) =
            let h = up place k d b (omega (arith, length-map joins second_of)) in
            let g = p.others place d (omega arith) (omega (arith, length-map joins second_of)) in
            absurd (omega (arith, number))
        go (inr a) (inr b) = omega arith

    pub labels_at : (j : Join) → Contains (map second_of joins) second → j ≡ get_or joins place j → (a : LabelId) → Contains j.labels a ↔ HasJoin joins second a
    labels_at j m is a = (λ h. (j, subst (λ (x : Join). Contains joins x) (sym is) (Contains-get_or joins place j (second_within m)), second_is j m is, h), back)
      where
        back : HasJoin joins second a → Contains j.labels a
        back (x, (k, l, q), e, h) =
            let at : k ≡ place = same_place k x.second l m (read_second joins k x x.second l (sym q) ∙ e) in
            let same : x ≡ j = sym q ∙ ap (λ (i : ℕ). get_or joins i x) at ∙ get_or_default joins place x j (second_within m) ∙ sym is in
            subst (λ (z : Join). Contains z.labels a) same h

    pub second_put_in : (j : Join) → j.second ≡ second → (Contains (map second_of joins) second → ⊥) → AreLabelsAscending (map second_of (insert joins place j))
    second_put_in j e none = subst AreLabelsAscending (sym (seconds ∙ ap (λ (x : LabelId). insert (map second_of joins) place x) e)) (insert_ascends (map second_of joins) second place p up none)
      where
        seconds : map second_of (insert joins place j) ≡ insert (map second_of joins) place j.second
        seconds =
            map-append second_of (take place joins) (j ∷ drop place joins)
            ∙ ap (λ (l : List LabelId). l ++ j.second ∷ map second_of (drop place joins)) (sym (take-map second_of place joins))
            ∙ ap (λ (l : List LabelId). take place (map second_of joins) ++ j.second ∷ l) (sym (drop-map second_of place joins))

pub none_there : (joins : List Join) (second a : LabelId) → (Contains (map second_of joins) second → ⊥) → Contains [] a ↔ HasJoin joins second a
none_there joins second a none = (λ (k, l, e). absurd (omega arith), back)
  where
    back : HasJoin joins second a → Contains [] a
    back (x, (k, l, q), e, h) = absurd (none (k, omega (arith, length-map joins second_of), read_second joins k x second l (sym q) ∙ e))

pub second_stays : (joins : List Join) (place : ℕ) (j x : Join) → x.second ≡ j.second → j ≡ get_or joins place j → AreLabelsAscending (map second_of joins) → AreLabelsAscending (map second_of (set joins place x))
second_stays joins place j x e is up = subst AreLabelsAscending (sym (map-set_same second_of joins place x j (e ∙ ap second_of is))) up

-- more labels for a second label that is there
pub AddsJoins-set : (joins : List Join) (second : LabelId) (place : ℕ) (j x : Join) (labels : List LabelId) → place < length joins → j ≡ get_or joins place j → j.second ≡ second → x.second ≡ j.second → AddsLabels j.labels x.labels labels → AddsJoins joins (set joins place x) second labels
AddsJoins-set joins second place j x labels l is e same a =
    record {
      keeps = λ s b (z, m, q, h). kept s b z q h (Contains-set_keeps joins place x l z m);
      has = λ b m. (x, Contains-set_has joins place x l, same ∙ e, a.has b m);
      only = λ s b (z, m, q, h). from s b z q h (Contains-set_cases joins place x l z m);
    }
  where
    here : Contains joins j
    here = subst (λ (y : Join). Contains joins y) (sym is) (Contains-get_or joins place j l)

    kept : (s b : LabelId) (z : Join) → z.second ≡ s → Contains z.labels b → (get_or joins place z ≡ z) ⊎ Contains (set joins place x) z → HasJoin (set joins place x) s b
    kept s b z q h (inr m) = (z, m, q, h)
    kept s b z q h (inl at) =
        let z_is : z ≡ j = sym at ∙ get_or_default joins place z j l ∙ sym is in
        (x, Contains-set_has joins place x l, same ∙ ap second_of (sym z_is) ∙ q, a.keeps b (subst (λ (y : Join). Contains y.labels b) z_is h))

    old : (s b : LabelId) → x.second ≡ s → Contains j.labels b ⊎ Contains labels b → HasJoin joins s b ⊎ ((s ≡ second) × Contains labels b)
    old s b q (inl m) = inl (j, here, sym same ∙ q, m)
    old s b q (inr m) = inr (sym q ∙ same ∙ e, m)

    from : (s b : LabelId) (z : Join) → z.second ≡ s → Contains z.labels b → (x ≡ z) ⊎ Contains joins z → HasJoin joins s b ⊎ ((s ≡ second) × Contains labels b)
    from s b z q h (inr m) = inl (z, m, q, h)
    from s b z q h (inl at) = old s b (ap second_of at ∙ q) (a.only b (subst (λ (y : Join). Contains y.labels b) (sym at) h))

-- the first labels for a second label
pub AddsJoins-insert : (joins : List Join) (second : LabelId) (place : ℕ) (j : Join) (labels : List LabelId) → j.second ≡ second → AddsLabels [] j.labels labels → AddsJoins joins (insert joins place j) second labels
AddsJoins-insert joins second place j labels e a =
    record {
      keeps = λ s b (z, m, q, h). (z, Contains-insert_keeps joins place j z m, q, h);
      has = λ b m. (j, Contains-insert_has joins place j, e, a.has b m);
      only = λ s b (z, m, q, h). from s b z q h (Contains-insert_cases joins place j z m);
    }
  where
    new : (s b : LabelId) → j.second ≡ s → Contains [] b ⊎ Contains labels b → HasJoin joins s b ⊎ ((s ≡ second) × Contains labels b)
    new s b q (inl (k, l, x)) = absurd (omega arith)
    new s b q (inr m) = inr (sym q ∙ e, m)

    from : (s b : LabelId) (z : Join) → z.second ≡ s → Contains z.labels b → (j ≡ z) ⊎ Contains joins z → HasJoin joins s b ⊎ ((s ≡ second) × Contains labels b)
    from s b z q h (inr m) = inl (z, m, q, h)
    from s b z q h (inl at) = new s b (ap second_of at ∙ q) (a.only b (subst (λ (y : Join). Contains y.labels b) (sym at) h))
