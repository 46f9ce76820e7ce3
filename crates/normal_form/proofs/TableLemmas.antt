-- The table of joins is filled, pair after pair.
use Rattle.std.proofs.Common.{◌≡◌, ◌≢◌, ℕ, ◌+◌, ◌<◌, ◌≤◌, ◌⊎◌, ◌↔◌, List, [], ◌∷◌, ◌++◌, length, get_or, set, take, refl, sym, ◌∙◌, ap, subst, inl, inr, arith}
use Rattle.std.specs.Prelude.{Contains, All}
use Rattle.std.proofs.lemmas.Bool.{cases_lt}
use Rattle.std.proofs.lemmas.List.{get_or_past, get_or-set_same, get_or-set_other, length-set, take_more, take_all}
use Rattle.std.proofs.lemmas.List.Elements.{Contains-append_left, Contains-append_right, Contains-append_cases}
use Rattle.graph_words.specs.declared.types.LabelId.{LabelId}
use Rattle.graph_words.specs.declared.types.PairRule.{PairRule}
use Rattle.normal_form.specs.declared.joins.Join.{Join}
use Rattle.normal_form.specs.Joins.{HasJoin, AddsJoins, HasJoinAt, AddsAt, IsJoined, IsJoinTable}
use Rattle.normal_form.proofs.RowLemmas.{same_label}
use Rattle.normal_form.proofs.JoinLemmas.{single}

-- a row that is changed changes the table there alone
pub AddsAt-row : (table : List (List Join)) (first second : LabelId) (row : List Join) (labels : List LabelId) → first.0 < length table → AddsJoins (get_or table first.0 []) row second labels → AddsAt table (set table first.0 row) first second labels
AddsAt-row table first second row labels l a =
    record {
      rows = length-set table first.0 row;
      keeps = λ b c x h. kept b c x (cases_lt b.0 first.0) (cases_lt first.0 b.0) h;
      has = λ x m. subst (λ (r : List Join). HasJoin r second x) (sym here) (a.has x m);
      only = λ b c x h. from b c x (cases_lt b.0 first.0) (cases_lt first.0 b.0) h;
    }
  where
    here : get_or (set table first.0 row) first.0 [] ≡ row
    here = get_or-set_same table first.0 row [] l

    at : (b : LabelId) → b.0 ≡ first.0 → get_or (set table first.0 row) b.0 [] ≡ row
    at b e = ap (λ (k : ℕ). get_or (set table first.0 row) k []) e ∙ here

    other : (b : LabelId) → b.0 ≢ first.0 → get_or (set table first.0 row) b.0 [] ≡ get_or table b.0 []
    other b e = get_or-set_other table first.0 b.0 row [] e

    kept : (b c x : LabelId) → (b.0 < first.0) ⊎ (first.0 ≤ b.0) → (first.0 < b.0) ⊎ (b.0 ≤ first.0) → HasJoinAt table b c x → HasJoinAt (set table first.0 row) b c x
    kept b c x (inl m) n h = subst (λ (r : List Join). HasJoin r c x) (sym (other b (λ e. omega arith))) h
    kept b c x (inr m) (inl n) h = subst (λ (r : List Join). HasJoin r c x) (sym (other b (λ e. omega arith))) h
    kept b c x (inr m) (inr n) h =
        let e : b.0 ≡ first.0 = omega arith in
        subst (λ (r : List Join). HasJoin r c x) (sym (at b e)) (a.keeps c x (subst (λ (k : ℕ). HasJoin (get_or table k []) c x) e h))

    named : (b c x : LabelId) → b.0 ≡ first.0 → HasJoin (get_or table first.0 []) c x ⊎ ((c ≡ second) × Contains labels x) → HasJoinAt table b c x ⊎ ((b ≡ first) × (c ≡ second) × Contains labels x)
    named b c x e (inl h) = inl (subst (λ (k : ℕ). HasJoin (get_or table k []) c x) (sym e) h)
    named b c x e (inr (q, m)) = inr (same_label b first e, q, m)

    from : (b c x : LabelId) → (b.0 < first.0) ⊎ (first.0 ≤ b.0) → (first.0 < b.0) ⊎ (b.0 ≤ first.0) → HasJoinAt (set table first.0 row) b c x → HasJoinAt table b c x ⊎ ((b ≡ first) × (c ≡ second) × Contains labels x)
    from b c x (inl m) n h = inl (subst (λ (r : List Join). HasJoin r c x) (other b (λ e. omega arith)) h)
    from b c x (inr m) (inl n) h = inl (subst (λ (r : List Join). HasJoin r c x) (other b (λ e. omega arith)) h)
    from b c x (inr m) (inr n) h =
        let e : b.0 ≡ first.0 = omega arith in
        named b c x e (a.only c x (subst (λ (r : List Join). HasJoin r c x) (at b e) h))

-- a table without such a row has no such join
pub none_past : (table : List (List Join)) (b c a : LabelId) → length table ≤ b.0 → Contains [] a ↔ HasJoinAt table b c a
none_past table b c a past = (λ (k, l, e). absurd (omega arith), back)
  where
    none : HasJoin [] c a → Contains [] a
    none (j, (k, l, e), q, h) = absurd (omega arith)

    back : HasJoinAt table b c a → Contains [] a
    back h = none (subst (λ (r : List Join). HasJoin r c a) (get_or_past table b.0 [] past) h)

-- The table has the joins of the first n pairs.
pub record IsFilling (pairs : List PairRule) (above : List (List LabelId)) (rows n : ℕ) (table : List (List Join)) : Type 0 where
  pub rows_are : length table ≡ rows
  pub filled : IsJoinTable (take n pairs) above table

pub IsFilling-start : (pairs : List PairRule) (above : List (List LabelId)) (rows : ℕ) (table : List (List Join)) → length table ≡ rows → All (λ r. r ≡ []) table → IsFilling pairs above rows 0 table
IsFilling-start pairs above rows table e empty = record { rows_are = e; filled = λ b c a. (λ h. absurd (none b c a (cases_lt b.0 (length table)) h), λ (p, (k, l, x), e, q, m). absurd (omega arith)) }
  where
    no_join : (c a : LabelId) → HasJoin [] c a → ⊥
    no_join c a (j, (k, l, q), e, m) = omega arith

    none : (b c a : LabelId) → (b.0 < length table) ⊎ (length table ≤ b.0) → HasJoinAt table b c a → ⊥
    none b c a (inl l) h = no_join c a (subst (λ (r : List Join). HasJoin r c a) (empty b.0 [] l) h)
    none b c a (inr l) h = no_join c a (subst (λ (r : List Join). HasJoin r c a) (get_or_past table b.0 [] l) h)

pub IsFilling-step : (pairs : List PairRule) (above : List (List LabelId)) (rows n : ℕ) (table after : List (List Join)) (d : PairRule) → n < length pairs → IsFilling pairs above rows n table → AddsAt table after (get_or pairs n d).first (get_or pairs n d).second (get_or above (get_or pairs n d).left.0 []) → IsFilling pairs above rows (n + 1) after
IsFilling-step pairs above rows n table after d l f a = record { rows_are = a.rows ∙ f.rows_are; filled = λ b c x. (λ h. forth b c x (a.only b c x h), λ j. back b c x j) }
  where
    more_is : take (n + 1) pairs ≡ take n pairs ++ get_or pairs n d ∷ []
    more_is = take_more pairs n d l

    later : (b c x : LabelId) → IsJoined (take n pairs) above b c x → IsJoined (take (n + 1) pairs) above b c x
    later b c x (p, m, e, q, h) = (p, subst (λ (t : List PairRule). Contains t p) (sym more_is) (Contains-append_left (take n pairs) (get_or pairs n d ∷ []) p m), e, q, h)

    forth : (b c x : LabelId) → HasJoinAt table b c x ⊎ ((b ≡ (get_or pairs n d).first) × (c ≡ (get_or pairs n d).second) × Contains (get_or above (get_or pairs n d).left.0 []) x) → IsJoined (take (n + 1) pairs) above b c x
    forth b c x (inl h) = later b c x ((f.filled b c x).0 h)
    forth b c x (inr (e, q, m)) = (get_or pairs n d, subst (λ (t : List PairRule). Contains t (get_or pairs n d)) (sym more_is) (Contains-append_right (take n pairs) (get_or pairs n d ∷ []) (get_or pairs n d) (0, omega arith, refl)), sym e, sym q, m)

    back : (b c x : LabelId) → IsJoined (take (n + 1) pairs) above b c x → HasJoinAt after b c x
    back b c x (p, m, e, q, h) = go (Contains-append_cases (take n pairs) (get_or pairs n d ∷ []) p (subst (λ (t : List PairRule). Contains t p) more_is m))
      where
        go : Contains (take n pairs) p ⊎ Contains (get_or pairs n d ∷ []) p → HasJoinAt after b c x
        go (inl m) = a.keeps b c x ((f.filled b c x).1 (p, m, e, q, h))
        go (inr m) =
            let same = single (get_or pairs n d) p m in
            let has = a.has x (subst (λ (r : PairRule). Contains (get_or above r.left.0 []) x) (sym same) h) in
            let here = subst (λ (r : PairRule). HasJoinAt after r.first r.second x) same has in
            subst (λ (y : LabelId). HasJoinAt after y c x) e (subst (λ (y : LabelId). HasJoinAt after p.first y x) q here)

pub IsFilling-end : (pairs : List PairRule) (above : List (List LabelId)) (rows n : ℕ) (table : List (List Join)) → length pairs ≤ n → IsFilling pairs above rows n table → IsJoinTable pairs above table
IsFilling-end pairs above rows n table past f = subst (λ (t : List PairRule). IsJoinTable t above table) (take_all n pairs past) f.filled
