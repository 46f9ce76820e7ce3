-- Labels in ascending order: the place of a label, and what stands there.
use Rattle.std.proofs.Common.{◌≡◌, ℕ, zero, suc, ◌+◌, ◌<◌, ◌≤◌, ◌⊎◌, List, [], ◌∷◌, ◌++◌, length, get_or, take, drop, refl, sym, ◌∙◌, ap, subst, inl, inr, arith, ◌-◌, Bool, false, eqb, ◌↔◌}
use Rattle.std.specs.Prelude.{Contains, All, insert, IsTrue}
use Rattle.std.proofs.lemmas.Bool.{false≢true, cases_lt, eqb-true, eq-eqb}
use Rattle.std.proofs.lemmas.List.{get_or_default, take_more, take_all, take-append-drop}
use Rattle.std.proofs.lemmas.List.Edits.{length-insert, get_or-insert_below, get_or-insert_at, get_or-insert_above}
use Rattle.std.proofs.lemmas.List.Elements.{All-contains, Contains-get_or, Contains-append_left, Contains-append_right, Contains-append_cases}
use Rattle.graph_words.specs.declared.types.LabelId.{LabelId}
use Rattle.normal_form.specs.Rows.{AreLabelsAscending, PartsLabelsAt, AddsLabel, AddsLabels}

-- The labels before low are below the label, and those from high on are not.
pub record IsParting (labels : List LabelId) (label : LabelId) (low high : ℕ) : Type 0 where
  pub order : low ≤ high
  pub within : high ≤ length labels
  pub below : (k : ℕ) (d : LabelId) → k < low → (get_or labels k d).0 < label.0
  pub others : (k : ℕ) (d : LabelId) → high ≤ k → k < length labels → label.0 ≤ (get_or labels k d).0

pub IsParting-start : (labels : List LabelId) (label : LabelId) → IsParting labels label 0 (length labels)
IsParting-start labels label = record { order = omega arith; within = omega arith; below = λ k d l. absurd (omega arith); others = λ k d l m. absurd (omega arith) }

-- the one element of a list
pub only_one : (x y : LabelId) → Contains (x ∷ []) y → y ≡ x
only_one x y (zero, h, e) = sym e
only_one x y (suc k, h, e) = absurd (omega arith)

-- of two labels, the later one is not below the earlier
at_least : (labels : List LabelId) → AreLabelsAscending labels → (i j : ℕ) (d : LabelId) → i ≤ j → j < length labels → (get_or labels i d).0 ≤ (get_or labels j d).0
at_least labels up i j d le lt = go (cases_lt i j)
  where
    go : (i < j) ⊎ (j ≤ i) → (get_or labels i d).0 ≤ (get_or labels j d).0
    go (inl l) = let h = up i j d l lt in omega arith
    go (inr l) =
        let same : i ≡ j = omega arith in
        let e : (get_or labels i d).0 ≡ (get_or labels j d).0 = ap (λ (k : ℕ). (get_or labels k d).0) same in
        omega arith

pub IsParting-low : (labels : List LabelId) (label : LabelId) (low high middle : ℕ) (x : LabelId) → AreLabelsAscending labels → IsParting labels label low high → middle < high → (get_or labels middle x).0 < label.0 → IsParting labels label (middle + 1) high
IsParting-low labels label low high middle x up p lt small =
    record {
      order = omega arith;
      within = p.within;
      below = λ k d l.
          let w = p.within in
          let there : middle < length labels = omega arith in
          let h = at_least labels up k middle d (omega arith) there in
          let e : (get_or labels middle d).0 ≡ (get_or labels middle x).0 = ap (λ (y : LabelId). y.0) (get_or_default labels middle d x there) in
          omega arith;
      others = p.others;
    }

pub IsParting-high : (labels : List LabelId) (label : LabelId) (low high middle : ℕ) (x : LabelId) → AreLabelsAscending labels → IsParting labels label low high → low ≤ middle → middle < high → label.0 ≤ (get_or labels middle x).0 → IsParting labels label low middle
IsParting-high labels label low high middle x up p le lt large =
    record {
      order = le;
      within = let w = p.within in omega arith;
      below = p.below;
      others = λ k d l m.
          let w = p.within in
          let there : middle < length labels = omega arith in
          let h = at_least labels up middle k d l m in
          let e : (get_or labels middle d).0 ≡ (get_or labels middle x).0 = ap (λ (y : LabelId). y.0) (get_or_default labels middle d x there) in
          omega arith;
    }

pub IsParting-end : (labels : List LabelId) (label : LabelId) (low high : ℕ) → IsParting labels label low high → high ≤ low → PartsLabelsAt labels label low
IsParting-end labels label low high p le =
    let o = p.order in
    let w = p.within in
    let same : high ≡ low = omega arith in
    record { within = omega arith; below = p.below; others = λ k d l m. p.others k d (omega arith) m }

-- labels of one number are one
pub same_label : (a b : LabelId) → a.0 ≡ b.0 → a ≡ b
same_label a b e = ap (λ k. let x : LabelId = record { 0 = k } in x) e

-- a label that is there stands at its place
pub at_place : (labels : List LabelId) (label : LabelId) (place : ℕ) (d : LabelId) → AreLabelsAscending labels → PartsLabelsAt labels label place → Contains labels label → (place < length labels) × (get_or labels place d ≡ label)
at_place labels label place d up p (k, l, e) = go (cases_lt k place)
  where
    same : (get_or labels k d).0 ≡ label.0
    same = ap (λ (x : LabelId). x.0) (get_or_default labels k d label l ∙ e)

    go : (k < place) ⊎ (place ≤ k) → (place < length labels) × (get_or labels place d ≡ label)
    go (inl m) = let h = p.below k d m in absurd (omega (arith, same))
    go (inr m) =
        let there : place < length labels = omega arith in
        let h = at_least labels up place k d m l in
        let g = p.others place d (omega arith) there in
        let number : (get_or labels place d).0 ≡ label.0 = omega (arith, same) in
        (there, same_label (get_or labels place d) label number)

-- whether what stands at the place is the label tells whether the label is there
pub is_at_place : (labels : List LabelId) (label : LabelId) (place : ℕ) (d : LabelId) (b : Bool) → AreLabelsAscending labels → PartsLabelsAt labels label place → place < length labels → b ≡ eqb (get_or labels place d).0 label.0 → IsTrue b ↔ Contains labels label
is_at_place labels label place d b up p l e =
    (λ t. subst (λ (x : LabelId). Contains labels x) (same_label (get_or labels place d) label (eqb-true (get_or labels place d).0 label.0 (sym e ∙ t))) (Contains-get_or labels place d l), λ m. e ∙ eq-eqb (get_or labels place d).0 label.0 (ap (λ (x : LabelId). x.0) (at_place labels label place d up p m).1))

pub not_past : (labels : List LabelId) (label : LabelId) (place : ℕ) → AreLabelsAscending labels → PartsLabelsAt labels label place → length labels ≤ place → Contains labels label → ⊥
not_past labels label place up p l m = let h = (at_place labels label place label up p m).0 in omega arith

-- ---- a label is put in at its place

module _ (labels : List LabelId) (label : LabelId) (place : ℕ) (p : PartsLabelsAt labels label place) where
  number_before : (k : ℕ) (d : LabelId) → k < place → (get_or (insert labels place label) k d).0 ≡ (get_or labels k d).0
  number_before k d l = ap (λ (x : LabelId). x.0) (get_or-insert_below labels place label d k l p.within)

  number_here : (k : ℕ) (d : LabelId) → k ≡ place → (get_or (insert labels place label) k d).0 ≡ label.0
  number_here k d e = ap (λ (i : ℕ). (get_or (insert labels place label) i d).0) e ∙ ap (λ (x : LabelId). x.0) (get_or-insert_at labels place label d p.within)

  number_behind : (k : ℕ) (d : LabelId) → place < k → (get_or (insert labels place label) k d).0 ≡ (get_or labels (k - 1) d).0
  number_behind k d l =
      let at : k ≡ k - 1 + 1 = omega arith in
      ap (λ (i : ℕ). (get_or (insert labels place label) i d).0) at ∙ ap (λ (x : LabelId). x.0) (get_or-insert_above labels place label d (k - 1) (omega arith) p.within)

  -- the labels from the place on are above a label that is not there
  above_it : (Contains labels label → ⊥) → (k : ℕ) (d : LabelId) → place ≤ k → k < length labels → label.0 < (get_or labels k d).0
  above_it none k d l m = go (cases_lt label.0 (get_or labels k d).0)
    where
      go : (label.0 < (get_or labels k d).0) ⊎ ((get_or labels k d).0 ≤ label.0) → label.0 < (get_or labels k d).0
      go (inl h) = h
      go (inr h) =
          let g = p.others k d l m in
          let same : (get_or labels k d).0 ≡ label.0 = omega arith in
          absurd (none (subst (λ (x : LabelId). Contains labels x) (same_label (get_or labels k d) label same) (Contains-get_or labels k d m)))

  -- three places of a number before, at and behind another
  three : (k n : ℕ) → (k < n) ⊎ ((k ≡ n) ⊎ (n < k))
  three k n = go (cases_lt k n) (cases_lt n k)
    where
      go : (k < n) ⊎ (n ≤ k) → (n < k) ⊎ (k ≤ n) → (k < n) ⊎ ((k ≡ n) ⊎ (n < k))
      go (inl a) b = inl a
      go (inr a) (inl b) = inr (inr b)
      go (inr a) (inr b) = inr (inl (omega arith))

  pub insert_ascends : AreLabelsAscending labels → (Contains labels label → ⊥) → AreLabelsAscending (insert labels place label)
  insert_ascends up none i j d lt in_range = go (three i place) (three j place)
    where
      fits : j < length labels + 1
      fits = omega (arith, length-insert labels place label p.within)

      go : (i < place) ⊎ ((i ≡ place) ⊎ (place < i)) → (j < place) ⊎ ((j ≡ place) ⊎ (place < j)) → (get_or (insert labels place label) i d).0 < (get_or (insert labels place label) j d).0
      go (inl a) (inl b) = let w = p.within in let h = up i j d lt (omega arith) in omega (arith, number_before i d a, number_before j d b)
      go (inl a) (inr (inl b)) = let h = p.below i d a in omega (arith, number_before i d a, number_here j d b)
      go (inl a) (inr (inr b)) = let h = up i (j - 1) d (omega arith) (omega (arith, fits)) in omega (arith, number_before i d a, number_behind j d b)
      go (inr (inl a)) (inl b) = absurd (omega arith)
      go (inr (inl a)) (inr (inl b)) = absurd (omega arith)
      go (inr (inl a)) (inr (inr b)) = let h = above_it none (j - 1) d (omega arith) (omega (arith, fits)) in omega (arith, number_here i d a, number_behind j d b)
      go (inr (inr a)) (inl b) = absurd (omega arith)
      go (inr (inr a)) (inr (inl b)) = absurd (omega arith)
      go (inr (inr a)) (inr (inr b)) = let h = up (i - 1) (j - 1) d (omega arith) (omega (arith, fits)) in omega (arith, number_behind i d a, number_behind j d b)

-- ---- labels that are added

-- the parts of a list at a place hold what the list holds
pub AddsLabel-insert : (labels : List LabelId) (label : LabelId) (place : ℕ) → place ≤ length labels → AddsLabel labels (insert labels place label) label
AddsLabel-insert labels label place within =
    record {
      keeps = λ x m. kept x (Contains-append_cases (take place labels) (drop place labels) x (subst (λ (l : List LabelId). Contains l x) (sym (take-append-drop place labels)) m));
      has = Contains-append_right (take place labels) (label ∷ drop place labels) label (0, omega arith, refl);
      only = λ x m. from x (Contains-append_cases (take place labels) (label ∷ drop place labels) x m);
      grows = inr (length-insert labels place label within);
    }
  where
    kept : (x : LabelId) → Contains (take place labels) x ⊎ Contains (drop place labels) x → Contains (insert labels place label) x
    kept x (inl m) = Contains-append_left (take place labels) (label ∷ drop place labels) x m
    kept x (inr m) = Contains-append_right (take place labels) (label ∷ drop place labels) x (Contains-append_right (label ∷ []) (drop place labels) x m)

    whole : (x : LabelId) → Contains (take place labels ++ drop place labels) x → Contains labels x
    whole x m = subst (λ (l : List LabelId). Contains l x) (take-append-drop place labels) m

    later : (x : LabelId) → Contains (label ∷ []) x ⊎ Contains (drop place labels) x → Contains labels x ⊎ (x ≡ label)
    later x (inl m) = inr (only_one label x m)
    later x (inr m) = inl (whole x (Contains-append_right (take place labels) (drop place labels) x m))

    from : (x : LabelId) → Contains (take place labels) x ⊎ Contains (label ∷ drop place labels) x → Contains labels x ⊎ (x ≡ label)
    from x (inl m) = inl (whole x (Contains-append_left (take place labels) (drop place labels) x m))
    from x (inr m) = later x (Contains-append_cases (label ∷ []) (drop place labels) x m)

pub AddsLabel-there : (labels : List LabelId) (label : LabelId) → Contains labels label → AddsLabel labels labels label
AddsLabel-there labels label m = record { keeps = λ x h. h; has = m; only = λ x h. inl h; grows = inl m }

pub AddsLabels-start : (labels more : List LabelId) → AddsLabels labels labels (take 0 more)
AddsLabels-start labels more = record { keeps = λ x h. h; has = λ x (k, l, e). absurd (omega arith); only = λ x h. inl h }

pub AddsLabels-step : (before now after more : List LabelId) (i : ℕ) (d : LabelId) → i < length more → AddsLabels before now (take i more) → AddsLabel now after (get_or more i d) → AddsLabels before after (take (i + 1) more)
AddsLabels-step before now after more i d l a one =
    record {
      keeps = λ x m. one.keeps x (a.keeps x m);
      has = λ x m. had x (Contains-append_cases (take i more) (get_or more i d ∷ []) x (subst (λ (t : List LabelId). Contains t x) more_is m));
      only = λ x m. from x (one.only x m);
    }
  where
    more_is : take (i + 1) more ≡ take i more ++ get_or more i d ∷ []
    more_is = take_more more i d l

    had : (x : LabelId) → Contains (take i more) x ⊎ Contains (get_or more i d ∷ []) x → Contains after x
    had x (inl m) = one.keeps x (a.has x m)
    had x (inr m) = subst (λ (y : LabelId). Contains after y) (sym (only_one (get_or more i d) x m)) one.has

    first : (x : LabelId) → Contains before x ⊎ Contains (take i more) x → Contains before x ⊎ Contains (take (i + 1) more) x
    first x (inl m) = inl m
    first x (inr m) = inr (subst (λ (t : List LabelId). Contains t x) (sym more_is) (Contains-append_left (take i more) (get_or more i d ∷ []) x m))

    from : (x : LabelId) → Contains now x ⊎ (x ≡ get_or more i d) → Contains before x ⊎ Contains (take (i + 1) more) x
    from x (inl m) = first x (a.only x m)
    from x (inr e) = inr (subst (λ (t : List LabelId). Contains t x) (sym more_is) (Contains-append_right (take i more) (get_or more i d ∷ []) x (0, omega arith, sym e)))

pub AddsLabels-end : (before now more : List LabelId) (i : ℕ) → length more ≤ i → AddsLabels before now (take i more) → AddsLabels before now more
AddsLabels-end before now more i l a = subst (AddsLabels before now) (take_all i more l) a

-- a test that fails tells that the fact does not hold
pub not_from_false : (P : Type 0) (b : Bool) → IsTrue b ↔ P → b ≡ false → P → ⊥
not_from_false P b h e p = false≢true (sym e ∙ h.1 p)

-- what holds of the labels and of one more holds of them together
pub All-added : (P : LabelId → Type 0) (before after : List LabelId) (label : LabelId) → All P before → P label → AddsLabel before after label → All P after
All-added P before after label all one a k d l = go (get_or after k d) (a.only (get_or after k d) (Contains-get_or after k d l))
  where
    go : (x : LabelId) → Contains before x ⊎ (x ≡ label) → P x
    go x (inl m) = All-contains P before x all m
    go x (inr e) = subst P (sym e) one

pub iff_trans : {A B C : Type 0} → A ↔ B → B ↔ C → A ↔ C
iff_trans p q = (λ a. q.0 (p.0 a), λ c. p.1 (q.1 c))
