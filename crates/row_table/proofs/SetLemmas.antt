-- A set of numbers, whose table has a mark for each: the numbers with the mark of this turn.
use Rattle.std.proofs.Common.{◌≡◌, ◌↔◌, ℕ, ◌+◌, ◌-◌, ◌<◌, ◌≤◌, ◌⊎◌, Bool, true, false, eqb, List, [], ◌++◌, length, get_or, map, replicate, take, refl, sym, ap, subst, ◌∙◌, arith, inl, inr}
use Rattle.std.specs.Prelude.{All, ◌==◌}
use Rattle.std.proofs.lemmas.Bool.{cases_lt, cases_eq, false≢true}
use Rattle.std.proofs.lemmas.Bool.Decides.{nat_tests}
use Rattle.std.proofs.lemmas.List.{length-set, length-map, get_or-map, get_or_past, get_or-set_same, get_or-set_other, get_or-replicate, length-replicate, length-append, take_all, get_or_append_left, get_or-append_right}
use Rattle.std.proofs.Math.ListN.{set}
use Rattle.row_table.specs.Sieve.{HasNumber, IsEmptySet, AddsNumber}

-- the table of a turn
abbrev pub table : List ℕ → ℕ → List Bool
table marks turn = map (λ m. m == turn) marks

same_number : (a b : ℕ) → eqb a b ≡ true → a ≡ b
same_number a b h = grind (arith, nat_tests, h)

number_is_itself : (a b : ℕ) → a ≡ b → eqb a b ≡ true
number_is_itself a b h = grind (arith, nat_tests, h)

-- what the table says of a place that is there
pub said : (marks : List ℕ) (turn v : ℕ) → v < length marks → get_or (table marks turn) v false ≡ eqb (get_or marks v 0) turn
said marks turn v lt = get_or-map (λ m. m == turn) marks v 0 false lt

pub unsaid : (marks : List ℕ) (turn v : ℕ) → length marks ≤ v → get_or (table marks turn) v false ≡ false
unsaid marks turn v le = get_or_past (table marks turn) v false (let e : length (table marks turn) ≡ length marks = length-map marks (λ m. m == turn) in omega arith)

pub has_mark : (marks : List ℕ) (turn v : ℕ) → v < length marks → get_or marks v 0 ≡ turn → HasNumber (table marks turn) v
has_mark marks turn v lt e = said marks turn v lt ∙ number_is_itself (get_or marks v 0) turn e

pub mark_of : (marks : List ℕ) (turn v : ℕ) → HasNumber (table marks turn) v → (v < length marks) × (get_or marks v 0 ≡ turn)
mark_of marks turn v h =
    elim (cases_lt v (length marks)) [
      | inl lt ↦ (lt, same_number (get_or marks v 0) turn (sym (said marks turn v lt) ∙ h))
      | inr le ↦ absurd (false≢true (sym (unsaid marks turn v le) ∙ h))
    ]

-- a turn behind all marks
pub none_yet : (marks : List ℕ) (turn later : ℕ) → All (λ m. m ≤ turn) marks → turn < later → IsEmptySet (table marks later)
none_yet marks turn later all lt v h =
    let m = mark_of marks later v h in
    let le : get_or marks v 0 ≤ turn = all v 0 m.0 in
    let e : get_or marks v 0 ≡ later = m.1 in
    omega arith

pub none_at_all : (turn : ℕ) → IsEmptySet (table [] turn)
none_at_all turn v h = false≢true h

module _ (marks : List ℕ) (turn v : ℕ) (there : v < length marks) where
  -- the mark is set
  pub put_adds : AddsNumber (table marks turn) (table (set marks v turn) turn) v
  put_adds =
      record {
        keeps = λ w h. kept w (mark_of marks turn w h);
        has = has_mark (set marks v turn) turn v (let e : length (set marks v turn) ≡ length marks = length-set marks v turn in omega arith) (get_or-set_same marks v turn 0 there);
        only = λ w h. only w (mark_of (set marks v turn) turn w h);
      }
    where
      len : length (set marks v turn) ≡ length marks
      len = length-set marks v turn

      at_same : (w : ℕ) → w ≡ v → get_or (set marks v turn) w 0 ≡ turn
      at_same w e = subst (λ (u : ℕ). get_or (set marks v turn) u 0 ≡ turn) (sym e) (get_or-set_same marks v turn 0 there)

      kept : (w : ℕ) → (w < length marks) × (get_or marks w 0 ≡ turn) → HasNumber (table (set marks v turn) turn) w
      kept w m =
          elim (cases_eq w v) [
            | inl e ↦ has_mark (set marks v turn) turn w (let l : length (set marks v turn) ≡ length marks = len in omega (arith, m.0)) (at_same w e)
            | inr ne ↦ has_mark (set marks v turn) turn w (let l : length (set marks v turn) ≡ length marks = len in omega (arith, m.0)) (get_or-set_other marks v w turn 0 ne ∙ m.1)
          ]

      only : (w : ℕ) → (w < length (set marks v turn)) × (get_or (set marks v turn) w 0 ≡ turn) → HasNumber (table marks turn) w ⊎ (w ≡ v)
      only w m =
          elim (cases_eq w v) [
            | inl e ↦ inr e
            | inr ne ↦ inl (has_mark marks turn w (let l : length (set marks v turn) ≡ length marks = len in omega (arith, m.0)) (sym (get_or-set_other marks v w turn 0 ne) ∙ m.1))
          ]

  -- the mark was set
  pub there_adds : get_or marks v 0 ≡ turn → AddsNumber (table marks turn) (table marks turn) v
  there_adds e = record { keeps = λ w h. h; has = has_mark marks turn v there e; only = λ w h. inl h }

pub put_in : (marks : List ℕ) (turn v : ℕ) (s : List Bool) → table marks turn ≡ s → v < length s → AddsNumber s (table (set marks v turn) turn) v
put_in marks turn v s e lt =
    let l : length s ≡ length marks = ap length (sym e) ∙ length-map marks (λ m. m == turn) in
    subst (λ (t : List Bool). AddsNumber t (table (set marks v turn) turn) v) e (put_adds marks turn v (omega arith))

-- a longer table
abbrev zeros : ℕ → List ℕ
zeros n = replicate n 0

zero_there : (n k : ℕ) → get_or (zeros n) k 0 ≡ 0
zero_there n k = elim (cases_lt k n) [ inl lt ↦ get_or-replicate n k 0 0 lt | inr le ↦ get_or_past (zeros n) k 0 (let e : length (zeros n) ≡ n = length-replicate n 0 in omega arith) ]

module _ (marks : List ℕ) (turn n : ℕ) (pos : 0 < turn) (v : ℕ) where
  len : length (marks ++ zeros n) ≡ length marks + n
  len = length-append marks (zeros n) ∙ ap (λ (k : ℕ). length marks + k) (length-replicate n 0)

  past : length marks ≤ v → get_or (marks ++ zeros n) v 0 ≡ turn → ⊥
  past le m =
      let e : get_or (marks ++ zeros n) v 0 ≡ get_or (zeros n) (v - length marks) 0 = get_or-append_right marks (zeros n) (length marks) v 0 refl le in
      let f : get_or (zeros n) (v - length marks) 0 ≡ 0 = zero_there n (v - length marks) in
      omega arith

  to : HasNumber (table (marks ++ zeros n) turn) v → HasNumber (table marks turn) v
  to h =
      let m = mark_of (marks ++ zeros n) turn v h in
      elim (cases_lt v (length marks)) [
        | inl lt ↦ has_mark marks turn v lt (sym (get_or_append_left marks (zeros n) 0 v lt) ∙ m.1)
        | inr le ↦ absurd (past le m.1)
      ]

  back : HasNumber (table marks turn) v → HasNumber (table (marks ++ zeros n) turn) v
  back h =
      let m = mark_of marks turn v h in
      has_mark (marks ++ zeros n) turn v (let e = len in omega (arith, m.0)) (get_or_append_left marks (zeros n) 0 v m.0 ∙ m.1)

pub longer_same : (marks : List ℕ) (turn n k : ℕ) (s : List Bool) → table marks turn ≡ s → 0 < turn → (after : List ℕ) → after ≡ take n marks ++ zeros k → length marks ≤ n → (v : ℕ) → HasNumber (table after turn) v ↔ HasNumber s v
longer_same marks turn n k s e pos after is le v =
    let f : after ≡ marks ++ zeros k = is ∙ ap (λ (l : List ℕ). l ++ zeros k) (take_all n marks le) in
    subst (λ (l : List ℕ). HasNumber (table l turn) v ↔ HasNumber s v) (sym f) (subst (λ (t : List Bool). HasNumber (table (marks ++ zeros k) turn) v ↔ HasNumber t v) e (to marks turn k pos v, back marks turn k pos v))
