-- One edge more is counted.
use Rattle.std.proofs.Common.{◌≡◌, ◌≢◌, ℕ, zero, suc, ◌+◌, ◌<◌, ◌≤◌, List, [], ◌∷◌, ◌++◌, length, get_or, set, refl, sym, ap, ◌∙◌, arith, inl, inr}
use Rattle.std.specs.Prelude.{slice_index_or, slice_set, count_by, max, Bool, true, false, cond, ◌==◌, nat_eq}
use Rattle.std.proofs.lemmas.Bool.{cases_eq}
use Rattle.std.proofs.lemmas.Bool.Decides.{nat_tests}
use Rattle.std.proofs.lemmas.List.{get_or-set_same, get_or-set_other, length-set}
use Rattle.std.proofs.lemmas.List.Sums.{sum_by-append}
use Rattle.graph_words.specs.declared.types.Born.{Born}
use Rattle.closing_machine.specs.State.{greatest_birth, place, target}
use Rattle.open_store.specs.PartRead.{count_into}
use Rattle.open_store.specs.Stream.{IsTally}

pub greatest_append : (xs ys : List Born) → greatest_birth (xs ++ ys) ≡ max (greatest_birth xs) (greatest_birth ys)
greatest_append [] ys = omega arith
greatest_append (x ∷ xs) ys = let h = greatest_append xs ys in omega (arith, h)

into_append : (ends : List ℕ) (xs ys : List Born) (j : ℕ) → count_into ends (xs ++ ys) j ≡ count_into ends xs j + count_into ends ys j
into_append ends xs ys j = sum_by-append (λ (b : Born). cond (target ends b == j) 1 0) xs ys

ends_here : (ends : List ℕ) (b : Born) (j : ℕ) → target ends b ≡ j → count_into ends (b ∷ []) j ≡ 1
ends_here ends b j is = rw is (grind (arith, nat_tests))

ends_elsewhere : (ends : List ℕ) (b : Born) (j : ℕ) → target ends b ≢ j → count_into ends (b ∷ []) j ≡ 0
ends_elsewhere ends b j not = grind (arith, nat_tests)

-- the row after an edge was counted
abbrev pub counted_row : List ℕ → List ℕ → Born → List ℕ
counted_row ends row b = slice_set row (target ends b) (slice_index_or row (target ends b) 0 + 1)

one_more : (ends : List ℕ) (before : List Born) (row : List ℕ) (b : Born) (j : ℕ) → length row ≡ length ends → j < length ends → slice_index_or row j 0 ≡ count_into ends before j → slice_index_or (counted_row ends row b) j 0 ≡ count_into ends (before ++ b ∷ []) j
one_more ends before row b j size low same = elim (cases_eq j (target ends b)) [
  | inl here ↦ rw here (get_or-set_same row (target ends b) (slice_index_or row (target ends b) 0 + 1) 0 (omega (arith, here, low, size))
      ∙ omega (arith, into_append ends before (b ∷ []) (target ends b), ends_here ends b (target ends b) refl, ap (λ (k : ℕ). slice_index_or row k 0) here, ap (λ (k : ℕ). count_into ends before k) here, same))
  | inr there ↦ get_or-set_other row (target ends b) j (slice_index_or row (target ends b) 0 + 1) 0 there
      ∙ omega (arith, into_append ends before (b ∷ []) j, ends_elsewhere ends b j (λ is. there (sym is)), same)
]

-- an edge that ends in an interval
pub tally_in : (ends : List ℕ) (before : List Born) (row : List ℕ) (newest : ℕ) (b : Born) → IsTally ends before row newest → IsTally ends (before ++ b ∷ []) (counted_row ends row b) (max newest b.birth)
tally_in ends before row newest b t =
    record {
      size = length-set row (target ends b) (slice_index_or row (target ends b) 0 + 1) ∙ t.size;
      counts = λ j low. one_more ends before row b j t.size low (t.counts j low);
      newest_is = let h = greatest_append before (b ∷ []) in omega (arith, h, t.newest_is);
    }

-- and one that ends in none
pub tally_out : (ends : List ℕ) (before : List Born) (row : List ℕ) (newest : ℕ) (b : Born) → length ends ≤ target ends b → IsTally ends before row newest → IsTally ends (before ++ b ∷ []) row (max newest b.birth)
tally_out ends before row newest b past t =
    record {
      size = t.size;
      counts = λ j low. omega (arith, t.counts j low, into_append ends before (b ∷ []) j, ends_elsewhere ends b j (λ is. omega (arith, is, past, low)));
      newest_is = let h = greatest_append before (b ∷ []) in omega (arith, h, t.newest_is);
    }
