-- The best pair so far, step by step.
use Rattle.std.proofs.Common.{◌≡◌, ℕ, ◌+◌, ◌<◌, ◌≤◌, ◌⊎◌, Option, None, Some, refl, arith, sym, subst, inl, inr}
use Rattle.std.proofs.lemmas.Bool.{cases_lt}
use Rattle.closing_machine.specs.State.{IsDirtyBy, GoesBefore, IsPick}
use Rattle.closing_machine.proofs.Members.{either}
use Rattle.dest_map.specs.Table.{Comes}
use Rattle.pair_sched.specs.Pick.{IsBest}

-- the pairs before (i, j + 1) are those before (i, j), and (i, j)
comes_more : (a b i j : ℕ) → Comes a b i (j + 1) → Comes a b i j ⊎ ((i ≡ a) × (j ≡ b))
comes_more a b i j (inl lt) = inl (inl lt)
comes_more a b i j (inr (e, lt)) = either (λ h. inl (inr (e, h))) (λ h. inr (sym e, let f : j ≡ b = omega arith in f)) (cases_lt b j)

comes_on : (a b i j : ℕ) → Comes a b i j → Comes a b i (j + 1)
comes_on a b i j (inl lt) = inl lt
comes_on a b i j (inr (e, lt)) = inr (e, omega arith)

module _ (counts joined : ℕ → ℕ → ℕ) (newest_in : ℕ → ℕ) (size : ℕ) where
  at : (i j a b : ℕ) → (i ≡ a) × (j ≡ b) → IsDirtyBy counts joined newest_in a b → IsDirtyBy counts joined newest_in i j
  at i j a b e d = subst (λ (x : ℕ). IsDirtyBy counts joined newest_in x j) (sym e.0) (subst (λ (y : ℕ). IsDirtyBy counts joined newest_in a y) (sym e.1) d)

  pub best_clean : (i j : ℕ) (best : Option (ℕ × ℕ)) → IsBest counts joined newest_in size i j best → (IsDirtyBy counts joined newest_in i j → ⊥) → IsBest counts joined newest_in size i (j + 1) best
  best_clean i j None h clean = λ a b la lb c d. either (λ k. h a b la lb k d) (λ e. clean (at i j a b e d)) (comes_more a b i j c)
  best_clean i j (Some p) h clean =
      record {
        first_below = h.first_below;
        second_below = h.second_below;
        dirty = h.dirty;
        comes = comes_on p.0 p.1 i j h.comes;
        first = λ a b la lb c d. either (λ k. h.first a b la lb k d) (λ e. absurd (clean (at i j a b e d))) (comes_more a b i j c);
      }

  pub best_first : (i j : ℕ) → i < size → j < size → IsBest counts joined newest_in size i j None → IsDirtyBy counts joined newest_in i j → IsBest counts joined newest_in size i (j + 1) (Some (i, j))
  best_first i j li lj h dirty =
      record {
        first_below = li;
        second_below = lj;
        dirty = dirty;
        comes = inr (refl, omega arith);
        first = λ a b la lb c d. either (λ k. absurd (h a b la lb k d)) (λ e. inl e) (comes_more a b i j c);
      }

  pub best_more : (i j : ℕ) (p : ℕ × ℕ) → i < size → j < size → IsBest counts joined newest_in size i j (Some p) → IsDirtyBy counts joined newest_in i j → counts p.0 p.1 < counts i j → IsBest counts joined newest_in size i (j + 1) (Some (i, j))
  best_more i j p li lj h dirty lt =
      record {
        first_below = li;
        second_below = lj;
        dirty = dirty;
        comes = inr (refl, omega arith);
        first = λ a b la lb c d. either (λ k. inr (greater a b (h.first a b la lb k d))) (λ e. inl e) (comes_more a b i j c);
      }
    where
      greater : (a b : ℕ) → ((p.0 ≡ a) × (p.1 ≡ b)) ⊎ GoesBefore counts p.0 p.1 a b → GoesBefore counts i j a b
      greater a b (inl e) = inl (subst (λ (x : ℕ). counts x b < counts i j) e.0 (subst (λ (y : ℕ). counts p.0 y < counts i j) e.1 lt))
      greater a b (inr (inl l)) = inl (omega arith)
      greater a b (inr (inr (e, _))) = inl (omega arith)

  pub best_same : (i j : ℕ) (p : ℕ × ℕ) → IsBest counts joined newest_in size i j (Some p) → counts i j ≤ counts p.0 p.1 → IsBest counts joined newest_in size i (j + 1) (Some p)
  best_same i j p h le =
      record {
        first_below = h.first_below;
        second_below = h.second_below;
        dirty = h.dirty;
        comes = comes_on p.0 p.1 i j h.comes;
        first = λ a b la lb c d. either (λ k. h.first a b la lb k d) (λ e. inr (before a b e)) (comes_more a b i j c);
      }
    where
      earlier : Comes p.0 p.1 i j → (p.0 < i) ⊎ ((p.0 ≡ i) × (p.1 < j))
      earlier c = c

      before_here : GoesBefore counts p.0 p.1 i j
      before_here = either (λ lt. inl lt) (λ ge. inr (let e : counts i j ≡ counts p.0 p.1 = omega arith in e, earlier h.comes)) (cases_lt (counts i j) (counts p.0 p.1))

      before : (a b : ℕ) → (i ≡ a) × (j ≡ b) → GoesBefore counts p.0 p.1 a b
      before a b e = subst (λ (x : ℕ). GoesBefore counts p.0 p.1 x b) e.0 (subst (λ (y : ℕ). GoesBefore counts p.0 p.1 i y) e.1 before_here)

  pub best_row : (i j : ℕ) (best : Option (ℕ × ℕ)) → size ≤ j → IsBest counts joined newest_in size i j best → IsBest counts joined newest_in size (i + 1) 0 best
  best_row i j None le h = λ a b la lb c d. h a b la lb (back a b lb c) d
    where
      back : (a b : ℕ) → b < size → Comes a b (i + 1) 0 → Comes a b i j
      back a b lb c = either (λ lt. either (λ l. inl l) (λ ge. inr (let e : a ≡ i = omega arith in e, omega arith)) (cases_lt a i)) (λ h. absurd (let l : b < 0 = h.1 in omega arith)) c
  best_row i j (Some p) le h =
      record {
        first_below = h.first_below;
        second_below = h.second_below;
        dirty = h.dirty;
        comes = on h.comes;
        first = λ a b la lb c d. h.first a b la lb (back a b lb c) d;
      }
    where
      back : (a b : ℕ) → b < size → Comes a b (i + 1) 0 → Comes a b i j
      back a b lb c = either (λ lt. either (λ l. inl l) (λ ge. inr (let e : a ≡ i = omega arith in e, omega arith)) (cases_lt a i)) (λ h. absurd (let l : b < 0 = h.1 in omega arith)) c

      on : Comes p.0 p.1 i j → Comes p.0 p.1 (i + 1) 0
      on (inl lt) = inl (omega arith)
      on (inr (e, lt)) = inl (omega arith)

  pub best_none : IsBest counts joined newest_in size 0 0 None
  best_none = λ a b la lb c d. either (λ lt. omega arith) (λ h. let l : b < 0 = h.1 in omega arith) c

  pub pick_from_best : (i : ℕ) (p : ℕ × ℕ) → size ≤ i → IsBest counts joined newest_in size i 0 (Some p) → IsPick counts joined newest_in size p.0 p.1
  pick_from_best i p le h =
      record { first_below = h.first_below; second_below = h.second_below; dirty = h.dirty; first = λ a b la lb d. h.first a b la lb (inl (omega arith)) d }

  pub none_from_best : (i : ℕ) → size ≤ i → IsBest counts joined newest_in size i 0 None → (a b : ℕ) → a < size → b < size → IsDirtyBy counts joined newest_in a b → ⊥
  none_from_best i le h a b la lb d = h a b la lb (inl (omega arith)) d
