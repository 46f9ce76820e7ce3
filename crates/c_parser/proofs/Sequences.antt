-- One after another: it doesn't matter which two are put together first.
use Rattle.std.proofs.Common.{◌≡◌, ◌∙◌, refl, sym, ap, ℕ, ◌+◌, max, Bool, List, [], ◌∷◌, ◌++◌, length, length-append, append_assoc, arith}
use Rattle.c_tree.specs.Said.{Kind, Kept, Said, moved, ◌⨾◌}

abbrev kept_from : ℕ → Kept → Kept
kept_from n x = record { offset = n; tok = x.tok; bytes = x.bytes }

moved_both : (n : ℕ) (xs ys : List Kept) → moved n (xs ++ ys) ≡ moved n xs ++ moved n ys
moved_both n [] ys = refl
moved_both n (x ∷ xs) ys = ap (λ w. kept_from (n + x.offset) x ∷ w) (moved_both n xs ys)

further : (n m o : ℕ) → n + (m + o) ≡ n + m + o
further n m o = omega arith

moved_twice : (n m : ℕ) (xs : List Kept) → moved n (moved m xs) ≡ moved (n + m) xs
moved_twice n m [] = refl
moved_twice n m (x ∷ xs) = ap (λ o. kept_from o x ∷ moved n (moved m xs)) (further n m x.offset) ∙ ap (λ w. kept_from (n + m + x.offset) x ∷ w) (moved_twice n m xs)

abbrev said_of : (Kind → Bool) → List Kind → List Kept → ℕ → ℕ → Said
said_of g kinds kept levels strays = record { kinds = kinds; kept = kept; levels = levels; goes_on = g; strays = strays }

said_same : (g : Kind → Bool) (k k' : List Kind) (p p' : List Kept) (l l' n n' : ℕ) → k ≡ k' → p ≡ p' → l ≡ l' → n ≡ n' → said_of g k p l n ≡ said_of g k' p' l' n'
said_same g k k' p p' l l' n n' ek ep el en =
    ap (λ k. said_of g k p l n) ek ∙ ap (λ p. said_of g k' p l n) ep ∙ ap (λ l. said_of g k' p' l n) el ∙ ap (λ n. said_of g k' p' l' n) en

kept_assoc : (a b c : Said) → (a.kept ++ moved (length a.kinds) b.kept) ++ moved (length (a.kinds ++ b.kinds)) c.kept ≡ a.kept ++ moved (length a.kinds) (b.kept ++ moved (length b.kinds) c.kept)
kept_assoc a b c =
    let n = length a.kinds in
    let m = length b.kinds in
    append_assoc a.kept (moved n b.kept) (moved (length (a.kinds ++ b.kinds)) c.kept)
    ∙ ap (λ o. a.kept ++ (moved n b.kept ++ moved o c.kept)) (length-append a.kinds b.kinds)
    ∙ ap (λ w. a.kept ++ (moved n b.kept ++ w)) (sym (moved_twice n m c.kept))
    ∙ ap (λ w. a.kept ++ w) (sym (moved_both n b.kept (moved m c.kept)))

max_assoc : (a b c : ℕ) → max (max a b) c ≡ max a (max b c)
max_assoc a b c = omega arith

sum_assoc : (a b c : ℕ) → a + b + c ≡ a + (b + c)
sum_assoc a b c = omega arith

pub seq_assoc : (a b c : Said) → (a ⨾ b) ⨾ c ≡ a ⨾ (b ⨾ c)
seq_assoc a b c =
    let left = (a ⨾ b) ⨾ c in
    let right = a ⨾ (b ⨾ c) in
    said_same c.goes_on left.kinds right.kinds left.kept right.kept left.levels right.levels left.strays right.strays
    (append_assoc a.kinds b.kinds c.kinds) (kept_assoc a b c) (max_assoc a.levels b.levels c.levels) (sum_assoc a.strays b.strays c.strays)

-- what differs in its levels alone
pub levels_same : (a : Said) (n : ℕ) → a.levels ≡ n → a ≡ record a { levels = n }
levels_same a n e = ap (λ n. record a { levels = n }) e
