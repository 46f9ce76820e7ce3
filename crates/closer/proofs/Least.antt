-- The least mark among two partitions.
use Rattle.std.proofs.Common.{◌≡◌, ℕ, ◌<◌, ◌≤◌, ◌⊎◌, ◌==◌, ◌||◌, Bool, true, false, List, length, refl, sym, ◌∙◌, subst, arith, inl, inr}
use Rattle.std.proofs.lemmas.Bool.Decides.{nat_tests}
use Rattle.graph_words.specs.declared.types.Born.{Born}
use Rattle.closing_machine.specs.State.{count}
use Rattle.closing_machine.specs.Machine.{is_among}
use Rattle.closing_machine.specs.Chain.{IsLeastMark}
use Rattle.closing_machine.specs.Tells.{Tells}
use Rattle.closing_machine.proofs.Members.{either}
use Rattle.dest_map.specs.Table.{counts_of}
use Rattle.pair_sched.specs.Marks.{joined_of, newest_of}
use Rattle.manifest_codec.specs.declared.types.Manifest.{Manifest}
use Rattle.store_law.specs.Listed.{ends_of, state_in}
use Rattle.closer.specs.NextManifest.{IsLeastMarkIn}

same_number : (a b : ℕ) → (a == b) ≡ true → a ≡ b
same_number a b e = grind (arith, nat_tests)

among_cases : (i j a : ℕ) → is_among i j a ≡ true → (a ≡ i) ⊎ (a ≡ j)
among_cases i j a e = by_test (a == i) (a == j) (same_number a i) (same_number a j) e
  where
    by_test : (p q : Bool) → (p ≡ true → a ≡ i) → (q ≡ true → a ≡ j) → (p || q) ≡ true → (a ≡ i) ⊎ (a ≡ j)
    by_test true q first second e = inl (first refl)
    by_test false true first second e = inr (second refl)
    by_test false false first second e = absurd (cc)

-- ---- what the tables tell of a state

pub least_told : (m : Manifest) (parts : List (List Born)) (i j mark : ℕ) → Tells (counts_of m.map) (joined_of m.marks) (newest_of m.marks) (state_in m parts) → i < length (ends_of m) → j < length (ends_of m) → IsLeastMarkIn m i j mark → IsLeastMark (state_in m parts) i j mark
least_told m parts i j mark tells li lj l =
    record {
      first = l.first;
      second = l.second;
      first_among = l.first_among;
      second_among = l.second_among;
      some = subst (λ (n : ℕ). 0 < n) (tells.count_is l.first l.second (below l.first l.first_among) (below l.second l.second_among)) l.some;
      is = l.is;
      least = λ a b ea eb some. l.least a b ea eb (subst (λ (n : ℕ). 0 < n) (sym (tells.count_is a b (below a ea) (below b eb))) some);
    }
  where
    below : (a : ℕ) → is_among i j a ≡ true → a < length (ends_of m)
    below a e = either (λ h. subst (λ (n : ℕ). n < length (ends_of m)) (sym h) li) (λ h. subst (λ (n : ℕ). n < length (ends_of m)) (sym h) lj) (among_cases i j a e)

-- ---- the least of four

-- the lower one of a mark so far and that of one more pair
pub record IsLower (m : Manifest) (a b so_far lower : ℕ) : Type 0 where
  pub least : lower ≤ so_far
  pub mark : 0 < counts_of m.map a b → lower ≤ joined_of m.marks a b
  pub one : (lower ≡ so_far) ⊎ ((0 < counts_of m.map a b) × (lower ≡ joined_of m.marks a b))

-- it is the mark of some pair with an edge
record IsFound (m : Manifest) (i j mark : ℕ) : Type 0 where
  pub first : ℕ
  pub second : ℕ
  pub first_among : is_among i j first ≡ true
  pub second_among : is_among i j second ≡ true
  pub some : 0 < counts_of m.map first second
  pub is : mark ≡ joined_of m.marks first second

still_found : (m : Manifest) (i j a b least lower : ℕ) → is_among i j a ≡ true → is_among i j b ≡ true → IsLower m a b least lower → IsFound m i j least → IsFound m i j lower
still_found m i j a b least lower ea eb l f =
    either (λ same. subst (IsFound m i j) (sym same) f) (λ here. record { first = a; second = b; first_among = ea; second_among = eb; some = here.0; is = here.1 }) l.one

module _ (m : Manifest) (i j r0 r1 r2 r3 : ℕ) (some : 0 < counts_of m.map i j) (start : r0 ≡ joined_of m.marks i j) (l1 : IsLower m j i r0 r1) (l2 : IsLower m i i r1 r2) (l3 : IsLower m j j r2 r3) where
  ei : is_among i j i ≡ true
  ei = grind (arith, nat_tests)

  ej : is_among i j j ≡ true
  ej = grind (arith, nat_tests)

  found : IsFound m i j r3
  found =
      still_found m i j j j r2 r3 ej ej l3
      (still_found m i j i i r1 r2 ei ei l2
      (still_found m i j j i r0 r1 ej ei l1 (record { first = i; second = j; first_among = ei; second_among = ej; some = some; is = start })))

  -- of each of the four pairs
  ii : 0 < counts_of m.map i i → r3 ≤ joined_of m.marks i i
  ii has = let h = l2.mark has in let k = l3.least in omega (arith, h, k)

  ij : r3 ≤ joined_of m.marks i j
  ij = let h = l1.least in let k = l2.least in let n = l3.least in omega (arith, h, k, n, start)

  ji : 0 < counts_of m.map j i → r3 ≤ joined_of m.marks j i
  ji has = let h = l1.mark has in let k = l2.least in let n = l3.least in omega (arith, h, k, n)

  jj : 0 < counts_of m.map j j → r3 ≤ joined_of m.marks j j
  jj has = l3.mark has

  abbrev AtMost : ℕ → ℕ → Type 0
  AtMost a b = 0 < counts_of m.map a b → r3 ≤ joined_of m.marks a b

  from_i : (b : ℕ) → is_among i j b ≡ true → AtMost i b
  from_i b eb = either (λ h. subst (AtMost i) (sym h) ii) (λ h. subst (AtMost i) (sym h) (λ has. ij)) (among_cases i j b eb)

  from_j : (b : ℕ) → is_among i j b ≡ true → AtMost j b
  from_j b eb = either (λ h. subst (AtMost j) (sym h) ji) (λ h. subst (AtMost j) (sym h) jj) (among_cases i j b eb)

  pub least_of_four : IsLeastMarkIn m i j r3
  least_of_four =
      record {
        first = found.first;
        second = found.second;
        first_among = found.first_among;
        second_among = found.second_among;
        some = found.some;
        is = found.is;
        least = λ a b ea eb. either (λ h. subst (λ (x : ℕ). AtMost x b) (sym h) (from_i b eb)) (λ h. subst (λ (x : ℕ). AtMost x b) (sym h) (from_j b eb)) (among_cases i j a ea);
      }
