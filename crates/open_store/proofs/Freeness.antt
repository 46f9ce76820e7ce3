-- How many files are used below a number.
use Rattle.std.proofs.Common.{◌≡◌, ℕ, zero, suc, ◌+◌, ◌<◌, ◌≤◌, List, [], ◌∷◌, ◌++◌, length, get_or, refl, sym, ap, subst, ◌∙◌, arith, inl, inr, length-append}
use Rattle.std.specs.Prelude.{Bool, true, false, cond, count_by, nat_lt, map, Contains}
use Rattle.std.proofs.lemmas.Bool.Decides.{nat_tests}
use Rattle.std.proofs.lemmas.List.{length-map}
use Rattle.std.proofs.Math.ListN.{get_or-map}
use Rattle.std.proofs.lemmas.List.Sums.{sum_by-cons, sum_by-le-sum_by, count_by-le-length}
use Rattle.std.proofs.lemmas.List.Elements.{Contains-append_left, Contains-append_right}
use Rattle.manifest_codec.specs.declared.types.PartEntry.{PartEntry}
use Rattle.open_store.specs.Free.{IsUsed}

abbrev pub below : ℕ → List ℕ → ℕ
below n xs = count_by (λ x. nat_lt x n) xs

at_most_one : (n x : ℕ) → cond (nat_lt x n) 1 0 ≤ cond (nat_lt x (suc n)) 1 0
at_most_one n x = grind (arith, nat_tests)

one_here : (n x : ℕ) → x ≡ n → cond (nat_lt x n) 1 0 + 1 ≤ cond (nat_lt x (suc n)) 1 0
one_here n x is = grind (arith, nat_tests)

more_from : (n : ℕ) (xs : List ℕ) (k : ℕ) → k < length xs → get_or xs k n ≡ n → below n xs + 1 ≤ below (suc n) xs
more_from n [] k low is = absurd (omega (arith, low))
more_from n (x ∷ xs) zero low is =
    omega (arith, sum_by-cons (λ (y : ℕ). cond (nat_lt y n) 1 0) x xs, sum_by-cons (λ (y : ℕ). cond (nat_lt y (suc n)) 1 0) x xs, one_here n x is, sum_by-le-sum_by (λ (y : ℕ). cond (nat_lt y n) 1 0) (λ (y : ℕ). cond (nat_lt y (suc n)) 1 0) xs (at_most_one n))
more_from n (x ∷ xs) (suc k) low is =
    omega (arith, sum_by-cons (λ (y : ℕ). cond (nat_lt y n) 1 0) x xs, sum_by-cons (λ (y : ℕ). cond (nat_lt y (suc n)) 1 0) x xs, at_most_one n x, more_from n xs k (omega (arith, low)) is)

file_of_part : (parts : List PartEntry) (p : PartEntry) (file : ℕ) → Contains parts p → p.file ≡ file → Contains (map (λ q. q.file) parts) file
file_of_part parts p file has is =
    subst (Contains (map (λ q. q.file) parts)) is
    (has.0, omega (arith, has.1, length-map parts (λ (q : PartEntry). q.file)), get_or-map (λ (q : PartEntry). q.file) parts has.0 p ∙ ap (λ (q : PartEntry). q.file) has.2)

one_more : (parts : List PartEntry) (taken : List ℕ) (file : ℕ) → IsUsed parts taken file → below file (map (λ p. p.file) parts ++ taken) + 1 ≤ below (suc file) (map (λ p. p.file) parts ++ taken)
one_more parts taken file (inl named) =
    let has = Contains-append_left (map (λ p. p.file) parts) taken file (file_of_part parts named.0 file named.1 named.2) in
    more_from file (map (λ p. p.file) parts ++ taken) has.0 has.1 has.2
one_more parts taken file (inr is) =
    let has = Contains-append_right (map (λ p. p.file) parts) taken file is in
    more_from file (map (λ p. p.file) parts ++ taken) has.0 has.1 has.2

next_below : (n : ℕ) (xs : List ℕ) → below (suc n) xs ≡ below (n + 1) xs
next_below n xs = let next : suc n ≡ n + 1 = omega arith in ap (λ (k : ℕ). below k xs) next

-- a file that is used is one more below the next number
pub one_more_used : (parts : List PartEntry) (taken : List ℕ) (file : ℕ) → IsUsed parts taken file → below file (map (λ p. p.file) parts ++ taken) + 1 ≤ below (file + 1) (map (λ p. p.file) parts ++ taken)
one_more_used parts taken file used = omega (arith, one_more parts taken file used, next_below file (map (λ p. p.file) parts ++ taken))

-- no more files are used below a number than there are
pub used_few : (parts : List PartEntry) (taken : List ℕ) (file : ℕ) → below file (map (λ p. p.file) parts ++ taken) ≤ length parts + length taken
used_few parts taken file =
    omega (arith, count_by-le-length (λ (x : ℕ). nat_lt x file) (map (λ p. p.file) parts ++ taken), length-append (map (λ p. p.file) parts) taken, length-map parts (λ (p : PartEntry). p.file))
