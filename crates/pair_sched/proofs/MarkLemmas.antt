-- Laws of the marks.
use Rattle.std.proofs.Common.{◌≡◌, ℕ, suc, ◌+◌, ◌-◌, ◌*◌, ◌<◌, ◌≤◌, true, false, cond, List, length, get_or, ap, ◌∙◌, subst, arith}
use Rattle.std.specs.Prelude.{◌==◌, ◌&&◌}
use Rattle.std.specs.List.{insert}
use Rattle.std.proofs.Math.ListN.{set}
use Rattle.std.proofs.lemmas.Bool.{cases_lt}
use Rattle.std.proofs.lemmas.Bool.Decides.{nat_tests}
use Rattle.std.proofs.lemmas.List.{get_or-set_same, get_or-set_other}
use Rattle.std.proofs.lemmas.List.Edits.{length-insert, get_or-insert_below, get_or-insert_at, get_or-insert_above}
use Rattle.closing_machine.specs.Machine.{parent}
use Rattle.closing_machine.proofs.Members.{either}
use Rattle.dest_map.specs.Table.{entry, IsFilled}
use Rattle.dest_map.proofs.TableLemmas.{entry_set, entry_under, entry_right, far_parent, filled_whole}
use Rattle.pair_sched.specs.Marks.{joined_of, newest_of, split_newest}

-- one mark set, as contracts see the marks
pub mark_set : (s i j x : ℕ) (xs ys : List ℕ) (m : ℕ × List ℕ × List ℕ) → (s, xs, ys) ≡ m → length xs ≡ s * s → i < m.0 → j < m.0 → (a b : ℕ) → entry s (set xs (i * s + j) x) a b ≡ cond (a == i && b == j) x (joined_of m a b)
mark_set s i j x xs ys m e len = subst (λ (m : ℕ × List ℕ × List ℕ). i < m.0 → j < m.0 → (a b : ℕ) → entry s (set xs (i * s + j) x) a b ≡ cond (a == i && b == j) x (joined_of m a b)) e (entry_set s i j x xs len)

-- the table of marks with a partition cut in two, once it is filled
pub marks_split : (m : ℕ × List ℕ × List ℕ) (i : ℕ) (xs : List ℕ) → length m.1 ≡ m.0 * m.0 → i < m.0 → IsFilled (λ a b. joined_of m (parent i a) (parent i b)) (m.0 + 1) (m.0 + 1) 0 xs → (a b : ℕ) → entry (m.0 + 1) xs a b ≡ joined_of m (parent i a) (parent i b)
marks_split m i xs long li h =
    filled_whole (λ a b. joined_of m (parent i a) (parent i b)) (m.0 + 1) xs h
    (λ a b le. entry_under m.0 (parent i a) (parent i b) m.1 long (far_parent m.0 i a li le))
    (λ a b le. entry_right m.0 (parent i a) (parent i b) m.1 (far_parent m.0 i b li le))

-- the newest births with a partition cut in two
pub newest_split : (xs : List ℕ) (i low high : ℕ) → i < length xs → (a : ℕ) → get_or (set (insert xs (i + 1) high) i low) a 0 ≡ split_newest i low high (λ a. get_or xs a 0) a
newest_split xs i low high li a = either before behind (cases_lt a i)
  where
    long : length (insert xs (i + 1) high) ≡ length xs + 1
    long = length-insert xs (i + 1) high (omega arith)

    other : (a ≡ i → ⊥) → get_or (set (insert xs (i + 1) high) i low) a 0 ≡ get_or (insert xs (i + 1) high) a 0
    other ne = get_or-set_other (insert xs (i + 1) high) i a low 0 ne

    before : a < i → get_or (set (insert xs (i + 1) high) i low) a 0 ≡ split_newest i low high (λ a. get_or xs a 0) a
    before lt =
        let t : (a == i) ≡ false = grind (arith, nat_tests) in
        let u : (a == suc i) ≡ false = grind (arith, nat_tests) in
        let p : parent i a ≡ a = grind (arith, nat_tests) in
        rw (t, u, p) (other (λ e. absurd (omega arith)) ∙ get_or-insert_below xs (i + 1) high 0 a (omega arith) (omega arith))

    first : a ≡ i → get_or (set (insert xs (i + 1) high) i low) a 0 ≡ split_newest i low high (λ a. get_or xs a 0) a
    first e =
        let t : (a == i) ≡ true = grind (arith, nat_tests) in
        rw t (rw e (get_or-set_same (insert xs (i + 1) high) i low 0 (omega (arith, long))))

    second : a ≡ suc i → get_or (set (insert xs (i + 1) high) i low) a 0 ≡ split_newest i low high (λ a. get_or xs a 0) a
    second e =
        let t : (a == i) ≡ false = grind (arith, nat_tests) in
        let u : (a == suc i) ≡ true = grind (arith, nat_tests) in
        let f : a ≡ i + 1 = omega arith in
        let at : get_or (insert xs (i + 1) high) a 0 ≡ high = ap (λ (k : ℕ). get_or (insert xs (i + 1) high) k 0) f ∙ get_or-insert_at xs (i + 1) high 0 (omega arith) in
        rw (t, u) (other (λ e. absurd (omega arith)) ∙ at)

    later : suc (suc i) ≤ a → get_or (set (insert xs (i + 1) high) i low) a 0 ≡ split_newest i low high (λ a. get_or xs a 0) a
    later le =
        let t : (a == i) ≡ false = grind (arith, nat_tests) in
        let u : (a == suc i) ≡ false = grind (arith, nat_tests) in
        let p : parent i a ≡ a - 1 = grind (arith, nat_tests) in
        let k : a ≡ (a - 1) + 1 = omega arith in
        let up : get_or (insert xs (i + 1) high) a 0 ≡ get_or xs (a - 1) 0 = ap (λ (j : ℕ). get_or (insert xs (i + 1) high) j 0) k ∙ get_or-insert_above xs (i + 1) high 0 (a - 1) (omega arith) (omega arith) in
        rw (t, u, p) (other (λ e. absurd (omega arith)) ∙ up)

    behind : i ≤ a → get_or (set (insert xs (i + 1) high) i low) a 0 ≡ split_newest i low high (λ a. get_or xs a 0) a
    behind le = either (λ lt. first (omega arith)) (λ ge. either (λ lt. second (omega arith)) later (cases_lt a (suc (suc i)))) (cases_lt a (suc i))

-- the same as contracts see the marks
pub newest_split_of : (s : ℕ) (xs ys : List ℕ) (m : ℕ × List ℕ × List ℕ) (i low high : ℕ) (zs : List ℕ) → (s, xs, ys) ≡ m → length ys ≡ s → i < m.0 → zs ≡ insert ys (i + 1) high → (a : ℕ) → get_or (set zs i low) a 0 ≡ split_newest i low high (newest_of m) a
newest_split_of s xs ys m i low high zs e len = subst (λ (m : ℕ × List ℕ × List ℕ). i < m.0 → zs ≡ insert ys (i + 1) high → (a : ℕ) → get_or (set zs i low) a 0 ≡ split_newest i low high (newest_of m) a) e seen
  where
    seen : i < s → zs ≡ insert ys (i + 1) high → (a : ℕ) → get_or (set zs i low) a 0 ≡ split_newest i low high (λ a. get_or ys a 0) a
    seen li f a = rw f (newest_split ys i low high (omega arith) a)
