-- Sums of numbers by their places.
use Rattle.std.proofs.Common.{◌≡◌, ◌≢◌, ℕ, zero, suc, ◌+◌, ◌*◌, ◌<◌, ◌≤◌, ◌==◌, ◌⊎◌, Bool, true, false, cond, List, [], ◌∷◌, length, get_or, refl, sym, ap, ◌∙◌, arith, inl, inr}
use Rattle.std.specs.Prelude.{sum, count_by}
use Rattle.std.proofs.lemmas.Bool.{cases_lt}
use Rattle.std.proofs.lemmas.Bool.Decides.{nat_tests}
use Rattle.std.proofs.lemmas.List.Sums.{sum_by-cons}
use Rattle.graph_words.specs.declared.types.Born.{Born}
use Rattle.closing_machine.specs.Measure.{sum_below}
use Rattle.closing_machine.proofs.Members.{either}
use Rattle.dest_map.specs.Table.{counts_of, entry}
use Rattle.dest_map.proofs.TableLemmas.{entry_in}

pub sum_same : (f g : ℕ → ℕ) (k : ℕ) → ((i : ℕ) → i < k → f i ≡ g i) → sum_below f k ≡ sum_below g k
sum_same f g zero same = refl
sum_same f g (suc k) same = let h : f k ≡ g k = same k (omega arith) in let r = sum_same f g k (λ i lt. same i (omega arith)) in omega arith

pub sum_at_most : (f g : ℕ → ℕ) (k : ℕ) → ((i : ℕ) → i < k → f i ≤ g i) → sum_below f k ≤ sum_below g k
sum_at_most f g zero le = omega arith
sum_at_most f g (suc k) le = let h : f k ≤ g k = le k (omega arith) in let r = sum_at_most f g k (λ i lt. le i (omega arith)) in omega arith

pub sum_scaled : (f : ℕ → ℕ) (c k : ℕ) → sum_below (λ i. f i * c) k ≡ sum_below f k * c
sum_scaled f c zero = omega arith
sum_scaled f c (suc k) = let r = sum_scaled f c k in grind arith

pub sum_added : (f g : ℕ → ℕ) (k : ℕ) → sum_below (λ i. f i + g i) k ≡ sum_below f k + sum_below g k
sum_added f g zero = refl
sum_added f g (suc k) = let r = sum_added f g k in omega arith

-- the first number apart from the others
pub sum_front : (f : ℕ → ℕ) (k : ℕ) → sum_below f (suc k) ≡ f 0 + sum_below (λ i. f (suc i)) k
sum_front f zero = refl
sum_front f (suc k) = let r = sum_front f k in omega arith

pub sum_is : (xs : List ℕ) → sum xs ≡ sum_below (λ i. get_or xs i 0) (length xs)
sum_is [] = refl
sum_is (x ∷ xs) =
    let r = sum_is xs in
    let e : sum_below (λ i. get_or (x ∷ xs) i 0) (suc (length xs)) ≡ x + sum_below (λ i. get_or xs i 0) (length xs) = sum_front (λ i. get_or (x ∷ xs) i 0) (length xs) in
    let c : sum (x ∷ xs) ≡ x + sum xs = sum_by-cons (λ y. y) x xs in
    omega arith

sum_cut : (f : ℕ → ℕ) (n r : ℕ) → sum_below f (n + r) ≡ sum_below f n + sum_below (λ b. f (n + b)) r
sum_cut f n zero = let e : n + 0 ≡ n = omega arith in ap (λ (x : ℕ). sum_below f x) e ∙ omega arith
sum_cut f n (suc r) =
    let e : n + suc r ≡ suc (n + r) = omega arith in
    let h = sum_cut f n r in
    ap (λ (x : ℕ). sum_below f x) e ∙ omega arith

-- row after row
pub sum_rows : (f : ℕ → ℕ) (s k : ℕ) → sum_below f (k * s) ≡ sum_below (λ a. sum_below (λ b. f (a * s + b)) s) k
sum_rows f s zero = let e : 0 * s ≡ 0 = omega arith in ap (λ (x : ℕ). sum_below f x) e
sum_rows f s (suc k) =
    let e : suc k * s ≡ k * s + s = grind arith in
    let h = sum_rows f s k in
    let c = sum_cut f (k * s) s in
    ap (λ (x : ℕ). sum_below f x) e ∙ omega arith

-- one row of a table of counts
abbrev pub row_sum : ℕ × List ℕ → ℕ → ℕ → ℕ
row_sum m k a = sum_below (λ b. counts_of m a b) k

pub table_sum : (m : ℕ × List ℕ) (k : ℕ) → m.0 ≡ k → length m.1 ≡ k * k → sum m.1 ≡ sum_below (row_sum m k) k
table_sum m k size rows =
    sum_is m.1 ∙ ap (λ (x : ℕ). sum_below (λ i. get_or m.1 i 0) x) rows ∙ sum_rows (λ i. get_or m.1 i 0) k k
    ∙ sum_same (λ a. sum_below (λ b. get_or m.1 (a * k + b) 0) k) (row_sum m k) k (λ a la. sum_same (λ b. get_or m.1 (a * k + b) 0) (λ b. counts_of m a b) k (λ b lb. sym (ap (λ (s : ℕ). entry s m.1 a b) size ∙ entry_in k a b m.1 lb)))

-- one number changes
pub sum_changed : (f g : ℕ → ℕ) (k i : ℕ) → i < k → ((j : ℕ) → j < k → j ≢ i → g j ≡ f j) → sum_below g k + f i ≡ sum_below f k + g i
sum_changed f g zero i below same = absurd (omega arith)
sum_changed f g (suc k) i below same =
    either
    (λ h.
    let r = sum_changed f g k i h (λ j lt ne. same j (omega arith) ne) in
    let e : g k ≡ f k = same k (omega arith) (λ x. omega arith) in
    omega arith)
    (λ h.
    let e : i ≡ k = omega arith in
    let r : sum_below g k ≡ sum_below f k = sum_same g f k (λ j lt. same j (omega arith) (λ x. omega arith)) in
    let a : f i ≡ f k = ap (λ (x : ℕ). f x) e in
    let b : g i ≡ g k = ap (λ (x : ℕ). g x) e in
    omega arith)
    (cases_lt i k)

-- two numbers change
pub two_changed : (f g : ℕ → ℕ) (k i j : ℕ) → i < j → j < k → ((x : ℕ) → x < k → x ≢ i → x ≢ j → g x ≡ f x) → sum_below g k + (f i + f j) ≡ sum_below f k + (g i + g j)
two_changed f g k i j before below same =
    let a = sum_changed f mid k i (omega arith) (λ x lt ne. at_other x ne) in
    let b = sum_changed mid g k j below (λ x lt ne. either (λ e. ap (λ (y : ℕ). g y) e ∙ sym at_first ∙ sym (ap (λ (y : ℕ). mid y) e)) (λ n. same x lt n ne ∙ sym (at_other x n)) (is_it x i)) in
    let c : mid j ≡ f j = at_other j (λ e. omega arith) in
    let d : mid i ≡ g i = at_first in
    omega arith
  where
    mid : ℕ → ℕ
    mid x = cond (x == i) (g i) (f x)

    at_first : mid i ≡ g i
    at_first = grind (arith, nat_tests)

    at_other : (x : ℕ) → x ≢ i → mid x ≡ f x
    at_other x ne = let t : (x == i) ≡ false = grind (arith, nat_tests) in rw t refl

    is_it : (x y : ℕ) → (x ≡ y) ⊎ (x ≢ y)
    is_it x y = by_test (x == y) refl
      where
        by_test : (t : Bool) → (x == y) ≡ t → (x ≡ y) ⊎ (x ≢ y)
        by_test true e = inl (grind (arith, nat_tests))
        by_test false e = inr (λ same. let h : (x == y) ≡ true = grind (arith, nat_tests) in absurd (cc))

-- ---- edges by where they end

one_hot : (t k : ℕ) → t < k → sum_below (λ j. cond (t == j) 1 0) k ≡ 1
one_hot t zero below = absurd (omega arith)
one_hot t (suc k) below =
    either
    (λ h. let r = one_hot t k h in let e : (t == k) ≡ false = grind (arith, nat_tests) in rw e (omega arith))
    (λ h. let e : (t == k) ≡ true = grind (arith, nat_tests) in let le : k ≤ t = omega arith in let n = none_hot t k le in rw e (omega arith))
    (cases_lt t k)
  where
    none_hot : (u n : ℕ) → n ≤ u → sum_below (λ j. cond (u == j) 1 0) n ≡ 0
    none_hot u zero le = refl
    none_hot u (suc n) le = let r = none_hot u n (omega arith) in let e : (u == n) ≡ false = grind (arith, nat_tests) in rw e (omega arith)

pub sum_of_counts : (into : Born → ℕ) (k : ℕ) (edges : List Born) → ((i : ℕ) (d : Born) → i < length edges → into (get_or edges i d) < k) → sum_below (λ j. count_by (λ b. into b == j) edges) k ≡ length edges
sum_of_counts into k [] below = all_zero k
  where
    all_zero : (n : ℕ) → sum_below (λ j. 0) n ≡ 0
    all_zero zero = refl
    all_zero (suc n) = let r = all_zero n in omega arith
sum_of_counts into k (b ∷ bs) below =
    let r = sum_of_counts into k bs (λ i d lt. below (suc i) d (omega arith)) in
    let h = one_hot (into b) k (below zero b (omega arith)) in
    let a = sum_added (λ j. cond (into b == j) 1 0) (λ j. count_by (λ x. into x == j) bs) k in
    let c = sum_same (λ j. count_by (λ x. into x == j) (b ∷ bs)) (λ j. cond (into b == j) 1 0 + count_by (λ x. into x == j) bs) k (λ j lt. sum_by-cons (λ x. cond (into x == j) 1 0) b bs) in
    omega arith
