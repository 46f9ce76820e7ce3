-- A text without a fault is no longer than its limit.
use Rattle.std.proofs.Common.{◌≡◌, ℕ, ◌+◌, ◌≤◌, Bool, true, false, List, [], ◌∷◌, length, inl, inr, Option, Some, None, refl, arith}
use Rattle.std.proofs.lemmas.Bool.{cases_lt}
use Rattle.std.specs.List.{onto_first}
use Rattle.faults.specs.declared.kinds.InputKind.{InputKind}
use Rattle.io_edge.specs.Lines.{is_line_feed, segments, without_end}
use Rattle.io_edge.specs.FirstFault.{Fault, fault_or, first_fault, line_fault, with_line}
use Rattle.io_edge.proofs.FaultLemmas.{far_fault, long_fault}

abbrev total : List (List ℕ) → ℕ
total [] = 0
total (s ∷ ss) = length s + total ss

total_onto : (b : ℕ) (ss : List (List ℕ)) → total (onto_first b ss) ≡ 1 + total ss
total_onto b [] = refl
total_onto b (s ∷ ss) = omega arith

total_more : (b : ℕ) (bs : List ℕ) (t : Bool) → is_line_feed b ≡ t → total (segments bs) ≡ length bs → total (segments (b ∷ bs)) ≡ length (b ∷ bs)
total_more b bs true e all = rw e (omega (arith, all))
total_more b bs false e all = rw e (omega (arith, total_onto b (segments bs), all))

total_segments : (text : List ℕ) → total (segments text) ≡ length text
total_segments [] = refl
total_segments (b ∷ bs) = total_more b bs (is_line_feed b) refl (total_segments bs)

some_none : {T : Type 0} (x : T) (o : Option T) → o ≡ None → o ≡ Some x → ⊥
some_none x o p q = absurd (cc)

first_none : (n : ℕ) (a : Option InputKind) (b : Option Fault) → fault_or n a b ≡ None → (a ≡ None) × (b ≡ None)
first_none n (Some k) b e = absurd (cc)
first_none n None b e = (refl, e)

module _ (limit : ℕ) (kind : List (List (List ℕ)) → List (List ℕ) → Option InputKind) where
  from_none : (before : List (List (List ℕ))) (end : ℕ) (s : List ℕ) (k : InputKind) → line_fault limit kind before end s ≡ None → line_fault limit kind before end s ≡ Some k → ⊥
  from_none before end s k = some_none k (line_fault limit kind before end s)

  within : (before : List (List (List ℕ))) (end : ℕ) (s : List ℕ) → line_fault limit kind before end s ≡ None → end ≤ limit
  within before end s none = elim (cases_lt 4096 (length (without_end 10 s))) [
    | inl long ↦ absurd (from_none before end s _ none (long_fault limit kind before end s long))
    | inr short ↦ elim (cases_lt limit end) [
      | inl far ↦ absurd (from_none before end s _ none (far_fault limit kind before end s short far))
      | inr near ↦ near
    ]
  ]

  all_within : (n at : ℕ) (before : List (List (List ℕ))) (parts : List (List ℕ)) → at ≤ limit → first_fault limit kind n at before parts ≡ None → at + total parts ≤ limit
  all_within n at before [] low none = omega (arith, low)
  all_within n at before (s ∷ ss) low none =
      let both = first_none n (line_fault limit kind before (at + length s) s) (first_fault limit kind (n + 1) (at + length s) (with_line before s) ss) none in
      omega (arith, all_within (n + 1) (at + length s) (with_line before s) ss (within before (at + length s) s both.0) both.1)

  pub within_limit : (text : List ℕ) → first_fault limit kind 1 0 [] (segments text) ≡ None → length text ≤ limit
  within_limit text none = omega (arith, total_segments text, all_within 1 0 [] (segments text) (omega arith) none)
