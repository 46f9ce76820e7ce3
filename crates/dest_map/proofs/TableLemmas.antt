-- Laws of square tables.
use Rattle.std.proofs.Common.{◌≡◌, ℕ, suc, ◌+◌, ◌-◌, ◌*◌, ◌/◌, ◌%◌, ◌<◌, ◌≤◌, ◌⊎◌, Bool, true, false, cond, List, [], ◌∷◌, ◌++◌, length, get_or, refl, sym, ap, ◌∙◌, subst, arith, inl, inr, length-append}
use Rattle.std.specs.Prelude.{◌==◌, ◌&&◌}
use Rattle.std.proofs.Math.ListN.{set}
use Rattle.std.proofs.Math.Nat.{add-mul, mul-le-mul_right, suc-mul}
use Rattle.std.proofs.Math.Seq.{get_or-append_seam}
use Rattle.std.proofs.lemmas.Bool.{cases_lt}
use Rattle.std.proofs.lemmas.Bool.Decides.{nat_tests}
use Rattle.std.proofs.lemmas.Grind.{get_or_default_zero}
use Rattle.std.proofs.lemmas.List.{get_or_append_left, get_or_past, get_or-set_same, get_or-set_other}
use Rattle.std.proofs.lemmas.Nat.{div-mul-add, mod-mul-add, mul-add-lt}
use Rattle.closing_machine.specs.Machine.{parent}
use Rattle.closing_machine.proofs.Members.{either}
use Rattle.dest_map.specs.Table.{entry, counts_of, Comes, IsFilled, IsPartOf, is_child, split_count}

pub entry_in : (s i j : ℕ) (xs : List ℕ) → j < s → entry s xs i j ≡ get_or xs (i * s + j) 0
entry_in s i j xs lt = grind (arith, nat_tests)

pub entry_right : (s i j : ℕ) (xs : List ℕ) → s ≤ j → entry s xs i j ≡ 0
entry_right s i j xs le = grind (arith, nat_tests)

pub entry_under : (s i j : ℕ) (xs : List ℕ) → length xs ≡ s * s → s ≤ i → entry s xs i j ≡ 0
entry_under s i j xs len le =
    let rows : s * s ≤ i * s = mul-le-mul_right s le in
    either (λ lt. entry_in s i j xs lt ∙ get_or_past xs (i * s + j) 0 (omega arith)) (λ ge. entry_right s i j xs ge) (cases_lt j s)

-- two places of a table are one only where row and column are
pub same_place : (s i j a b : ℕ) → j < s → b < s → i * s + j ≡ a * s + b → (i ≡ a) × (j ≡ b)
same_place s i j a b lj lb e =
    (sym (div-mul-add i s j lj) ∙ ap (λ (k : ℕ). k / s) e ∙ div-mul-add a s b lb, sym (mod-mul-add i s j lj) ∙ ap (λ (k : ℕ). k % s) e ∙ mod-mul-add a s b lb)

-- one number changed, and no other
pub entry_set : (s i j x : ℕ) (xs : List ℕ) → length xs ≡ s * s → i < s → j < s → (a b : ℕ) → entry s (set xs (i * s + j) x) a b ≡ cond (a == i && b == j) x (entry s xs a b)
entry_set s i j x xs len li lj a b = by_test (a == i && b == j) refl
  where
    place_in : i * s + j < length xs
    place_in = let h : i * s + j < s * s = mul-add-lt i s j s li lj in omega arith

    here : a ≡ i → b ≡ j → entry s (set xs (i * s + j) x) a b ≡ x
    here ea eb = rw (ea, eb) (entry_in s i j (set xs (i * s + j) x) lj ∙ get_or-set_same xs (i * s + j) x 0 place_in)

    apart : (a ≡ i → b ≡ j → ⊥) → entry s (set xs (i * s + j) x) a b ≡ entry s xs a b
    apart ne = either
        (λ lb.
        let other : get_or (set xs (i * s + j) x) (a * s + b) 0 ≡ get_or xs (a * s + b) 0 = get_or-set_other xs (i * s + j) (a * s + b) x 0 (λ e. let p = same_place s a b i j lb lj e in ne p.0 p.1) in
        entry_in s a b (set xs (i * s + j) x) lb ∙ other ∙ sym (entry_in s a b xs lb))
        (λ gb. entry_right s a b (set xs (i * s + j) x) gb ∙ sym (entry_right s a b xs gb))
        (cases_lt b s)

    by_test : (t : Bool) → (a == i && b == j) ≡ t → entry s (set xs (i * s + j) x) a b ≡ cond t x (entry s xs a b)
    by_test true e = let ea : a ≡ i = grind (arith, nat_tests) in let eb : b ≡ j = grind (arith, nat_tests) in here ea eb
    by_test false e = apart (λ ea eb. let h : (a == i && b == j) ≡ true = grind (arith, nat_tests) in absurd (cc))

-- one number raised by one, and no other
pub entry_raised : (s i j x : ℕ) (xs : List ℕ) → length xs ≡ s * s → i < s → j < s → x ≡ get_or xs (i * s + j) 0 + 1 → (a b : ℕ) → entry s (set xs (i * s + j) x) a b ≡ cond (a == i && b == j) (entry s xs a b + 1) (entry s xs a b)
entry_raised s i j x xs len li lj is a b = entry_set s i j x xs len li lj a b ∙ by_test (a == i && b == j) refl
  where
    here : a ≡ i → b ≡ j → x ≡ entry s xs a b + 1
    here ea eb =
        let old : entry s xs i j ≡ get_or xs (i * s + j) 0 = entry_in s i j xs lj in
        rw (ea, eb) (omega (arith, old, is))

    by_test : (t : Bool) → (a == i && b == j) ≡ t → cond t x (entry s xs a b) ≡ cond t (entry s xs a b + 1) (entry s xs a b)
    by_test true e = let ea : a ≡ i = grind (arith, nat_tests) in let eb : b ≡ j = grind (arith, nat_tests) in here ea eb
    by_test false e = refl

pub filled_none : (f : ℕ → ℕ → ℕ) (s : ℕ) → IsFilled f s 0 0 []
filled_none f s = record { long = omega arith; filled = λ a b lb c. either (λ lt. absurd (omega arith)) (λ h. absurd (let l : b < 0 = h.1 in omega arith)) c }

pub filled_more : (f : ℕ → ℕ → ℕ) (s i j x : ℕ) (xs : List ℕ) → j < s → IsFilled f s i j xs → x ≡ f i j → IsFilled f s i (j + 1) (xs ++ x ∷ [])
filled_more f s i j x xs lj h e =
    record {
      long = omega (arith, length-append xs (x ∷ []), h.long);
      filled = λ a b lb c. either (λ k. old a b lb k) (λ k. new a b k) (later a b c);
    }
  where
    later : (a b : ℕ) → Comes a b i (j + 1) → Comes a b i j ⊎ ((a ≡ i) × (b ≡ j))
    later a b (inl lt) = inl (inl lt)
    later a b (inr (e, lt)) = either (λ h. inl (inr (e, h))) (λ h. inr (e, let f : b ≡ j = omega arith in f)) (cases_lt b j)

    within : (a b : ℕ) → b < s → Comes a b i j → a * s + b < length xs
    within a b lb (inl lt) =
        let m : suc a * s ≤ i * s = mul-le-mul_right s (let l : suc a ≤ i = omega arith in l) in
        omega (arith, m, suc-mul a s, h.long)
    within a b lb (inr (e, lt)) = rw e (omega (arith, h.long))

    old : (a b : ℕ) → b < s → Comes a b i j → get_or (xs ++ x ∷ []) (a * s + b) 0 ≡ f a b
    old a b lb c = get_or_append_left xs (x ∷ []) 0 (a * s + b) (within a b lb c) ∙ h.filled a b lb c

    new : (a b : ℕ) → (a ≡ i) × (b ≡ j) → get_or (xs ++ x ∷ []) (a * s + b) 0 ≡ f a b
    new a b k =
        let place : a * s + b ≡ length xs = (let l : length xs ≡ i * s + j = h.long in rw (k.0, k.1) (sym l)) in
        let last : get_or (xs ++ x ∷ []) (length xs) 0 ≡ x = get_or-append_seam xs x [] 0 in
        let there : get_or (xs ++ x ∷ []) (a * s + b) 0 ≡ x = rw place last in
        there ∙ e ∙ (let same : f i j ≡ f a b = rw (k.0, k.1) refl in same)

-- a whole row
pub filled_row : (f : ℕ → ℕ → ℕ) (s i j : ℕ) (xs : List ℕ) → s ≡ j → IsFilled f s i j xs → IsFilled f s (i + 1) 0 xs
filled_row f s i j xs e h =
    record {
      long = omega (arith, add-mul i 1 s, h.long);
      filled = λ a b lb c. h.filled a b lb (back a b lb c);
    }
  where
    back : (a b : ℕ) → b < s → Comes a b (i + 1) 0 → Comes a b i j
    back a b lb c = either (λ lt. either (λ l. inl l) (λ ge. inr (let e : a ≡ i = omega arith in e, omega arith)) (cases_lt a i)) (λ h. absurd (let l : b < 0 = h.1 in omega arith)) c

-- the whole table, where f has nothing outside it
pub filled_whole : (f : ℕ → ℕ → ℕ) (s : ℕ) (xs : List ℕ) → IsFilled f s s 0 xs → ((a b : ℕ) → s ≤ a → f a b ≡ 0) → ((a b : ℕ) → s ≤ b → f a b ≡ 0) → (a b : ℕ) → entry s xs a b ≡ f a b
filled_whole f s xs h under right a b =
    either
    (λ lb. either (λ la. entry_in s a b xs lb ∙ h.filled a b lb (inl la)) (λ ga. entry_under s a b xs (omega (arith, h.long)) ga ∙ sym (under a b ga)) (cases_lt a s))
    (λ gb. entry_right s a b xs gb ∙ sym (right a b gb))
    (cases_lt b s)

-- the same of a table as contracts see it, where v is the number that stood there
pub map_raised : (s i j v : ℕ) (xs : List ℕ) (m : ℕ × List ℕ) → (s, xs) ≡ m → length xs ≡ s * s → i < m.0 → j < m.0 → v ≡ get_or xs (i * s + j) v → (a b : ℕ) → entry s (set xs (i * s + j) (v + 1)) a b ≡ cond (a == i && b == j) (counts_of m a b + 1) (counts_of m a b)
map_raised s i j v xs m e len li lj is =
    subst (λ (m : ℕ × List ℕ). i < m.0 → j < m.0 → (a b : ℕ) → entry s (set xs (i * s + j) (v + 1)) a b ≡ cond (a == i && b == j) (counts_of m a b + 1) (counts_of m a b)) e raised li lj
  where
    raised : i < s → j < s → (a b : ℕ) → entry s (set xs (i * s + j) (v + 1)) a b ≡ cond (a == i && b == j) (entry s xs a b + 1) (entry s xs a b)
    raised li lj =
        let within : i * s + j < length xs = (let h : i * s + j < s * s = mul-add-lt i s j s li lj in omega arith) in
        entry_raised s i j (v + 1) xs len li lj (ap (λ (k : ℕ). k + 1) (is ∙ get_or_default_zero xs (i * s + j) v within))

either_zero : (t : Bool) (x y : ℕ) → x ≡ 0 → y ≡ 0 → cond t x y ≡ 0
either_zero true x y e f = e
either_zero false x y e f = f

far_child : (size i a : ℕ) → i < size → size + 1 ≤ a → is_child i a ≡ false
far_child size i a li le = grind (arith, nat_tests)

pub far_parent : (size i a : ℕ) → i < size → size + 1 ≤ a → size ≤ parent i a
far_parent size i a li le = grind (arith, nat_tests)

-- nothing is counted outside a table that is cut
pub split_under : (old : ℕ → ℕ → ℕ) (size i : ℕ) (row column corner : List ℕ) → i < size → length column ≡ size → ((a b : ℕ) → size ≤ a → old a b ≡ 0) → (a b : ℕ) → size + 1 ≤ a → split_count i row column corner old a b ≡ 0
split_under old size i row column corner li long under a b le =
    let far : size ≤ parent i a = far_parent size i a li le in
    let none : get_or column (parent i a) 0 ≡ 0 = get_or_past column (parent i a) 0 (omega arith) in
    let rest : old (parent i a) i - get_or column (parent i a) 0 ≡ 0 = omega (arith, under (parent i a) i far) in
    rw (far_child size i a li le) (either_zero (is_child i b) (cond (b == i) (get_or column (parent i a) 0) (old (parent i a) i - get_or column (parent i a) 0)) (old (parent i a) (parent i b)) (either_zero (b == i) _ _ none rest) (under (parent i a) (parent i b) far))

pub split_right : (old : ℕ → ℕ → ℕ) (size i : ℕ) (row column corner : List ℕ) → i < size → length row ≡ size → ((a b : ℕ) → size ≤ b → old a b ≡ 0) → (a b : ℕ) → size + 1 ≤ b → split_count i row column corner old a b ≡ 0
split_right old size i row column corner li long right a b le =
    let far : size ≤ parent i b = far_parent size i b li le in
    let none : get_or row (parent i b) 0 ≡ 0 = get_or_past row (parent i b) 0 (omega arith) in
    let rest : old i (parent i b) - get_or row (parent i b) 0 ≡ 0 = omega (arith, right i (parent i b) far) in
    rw (far_child size i b li le) (either_zero (is_child i a) (cond (a == i) (get_or row (parent i b) 0) (old i (parent i b) - get_or row (parent i b) 0)) (old (parent i a) (parent i b)) (either_zero (a == i) _ _ none rest) (right (parent i a) (parent i b) far))

-- the table of a map that is cut, once it is filled
pub filled_split : (m : ℕ × List ℕ) (i : ℕ) (row column corner : List ℕ) (xs : List ℕ) → length m.1 ≡ m.0 * m.0 → i < m.0 → IsPartOf (counts_of m) m.0 i row column → IsFilled (split_count i row column corner (counts_of m)) (m.0 + 1) (m.0 + 1) 0 xs → (a b : ℕ) → entry (m.0 + 1) xs a b ≡ split_count i row column corner (counts_of m) a b
filled_split m i row column corner xs long li part h =
    filled_whole (split_count i row column corner (counts_of m)) (m.0 + 1) xs h
    (split_under (counts_of m) m.0 i row column corner li part.column_long (λ a b le. entry_under m.0 a b m.1 long le))
    (split_right (counts_of m) m.0 i row column corner li part.row_long (λ a b le. entry_right m.0 a b m.1 le))
