-- Forms of vertices by their numbers, and lists that grow.
use Rattle.std.proofs.Common.{◌≡◌, ◌⊎◌, inl, inr, refl, sym, ap, ◌∙◌, ℕ, zero, suc, ◌+◌, ◌<◌, ◌≤◌, Bool, true, false, cond, List, [], ◌∷◌, ◌++◌, length, length-append, Option, Some, None, arith}
use Rattle.std.specs.Option.{option_map}
use Rattle.emit_list.specs.declared.vertex.VertexForm.{VertexForm}
use Rattle.graph_emit.specs.State.{Made, form_at, place_of}

-- the vertex with a number has this form
abbrev pub Has : List Made → ℕ → VertexForm → Type 0
Has ms k f = form_at ms k ≡ Some f

pub has_one : (ms : List Made) (k : ℕ) (f g : VertexForm) → Has ms k f → Has ms k g → f ≡ g
has_one ms k f g a b = cc

pub has_within : (ms : List Made) (k : ℕ) (f : VertexForm) → Has ms k f → k < length ms
has_within [] zero f h = absurd (cc)
has_within [] (suc k) f h = absurd (cc)
has_within (m ∷ ms) zero f h = omega arith
has_within (m ∷ ms) (suc k) f h = let more : k < length ms = has_within ms k f h in omega arith

pub has_front : (ms ns : List Made) (k : ℕ) (f : VertexForm) → Has ms k f → Has (ms ++ ns) k f
has_front [] ns zero f h = absurd (cc)
has_front [] ns (suc k) f h = absurd (cc)
has_front (m ∷ ms) ns zero f h = h
has_front (m ∷ ms) ns (suc k) f h = has_front ms ns k f h

pub has_new : (ms : List Made) (x : Made) → Has (ms ++ x ∷ []) (length ms) x.form
has_new [] x = refl
has_new (m ∷ ms) x = has_new ms x

-- a vertex of a list that got one more: one of those before, or the new one
pub has_cases : (ms : List Made) (x : Made) (k : ℕ) (f : VertexForm) → Has (ms ++ x ∷ []) k f → Has ms k f ⊎ ((k ≡ length ms) × (x.form ≡ f))
has_cases [] x zero f h = inr (refl, cc)
has_cases [] x (suc k) f h = absurd (cc)
has_cases (m ∷ ms) x zero f h = inl h
has_cases (m ∷ ms) x (suc k) f h = elim (has_cases ms x k f h) [ inl a ↦ inl a | inr (e, g) ↦ inr (ap suc e, g) ]

-- some vertex has a form, where one is found
found_step : (t : Bool) (o : Option ℕ) (k : ℕ) → cond t (Some 0) (option_map (λ n. n + 1) o) ≡ Some k → ((t ≡ true) × (k ≡ 0)) ⊎ ((t ≡ false) × ((j : ℕ) × ((o ≡ Some j) × (k ≡ suc j))))
found_step true o k h = inl (refl, cc)
found_step false None k h = absurd (cc)
found_step false (Some j) k h = inr (refl, (j, (refl, let e : j + 1 ≡ k = cc in omega arith)))

pub found_has : (p : VertexForm → Bool) (ms : List Made) (k : ℕ) → place_of p ms ≡ Some k → (f : VertexForm) × (Has ms k f × (p f ≡ true))
found_has p [] k h = absurd (cc)
found_has p (m ∷ ms) k h = elim (found_step (p m.form) (place_of p ms) k h) [
  | inl (yes_is, at) ↦ (m.form, (ap (form_at (m ∷ ms)) at, yes_is))
  | inr (no_is, (j, (found, at))) ↦
      let r = found_has p ms j found in
      (r.0, (ap (form_at (m ∷ ms)) at ∙ r.1.0, r.1.1))
]

missed_step : (t : Bool) (o : Option ℕ) → cond t (Some 0) (option_map (λ n. n + 1) o) ≡ None → (t ≡ false) × (o ≡ None)
missed_step true o h = absurd (cc)
missed_step false None h = (refl, refl)
missed_step false (Some j) h = absurd (cc)

pub missed_has : (p : VertexForm → Bool) (ms : List Made) (k : ℕ) (f : VertexForm) → place_of p ms ≡ None → Has ms k f → p f ≡ false
missed_has p [] zero f none h = absurd (cc)
missed_has p [] (suc k) f none h = absurd (cc)
missed_has p (m ∷ ms) zero f none h = let form_is : m.form ≡ f = cc in ap p (sym form_is) ∙ (missed_step (p m.form) (place_of p ms) none).0
missed_has p (m ∷ ms) (suc k) f none h = missed_has p ms k f (missed_step (p m.form) (place_of p ms) none).1 h

-- ---- lists that grow
-- what stood in a list stands in the longer one
pub record Grows (ms ns : List Made) : Type 0 where
  pub longer : length ms ≤ length ns
  pub has : (k : ℕ) (f : VertexForm) → Has ms k f → Has ns k f

pub grows_none : (ms : List Made) → Grows ms ms
grows_none ms = record { longer = omega arith; has = λ k f h. h }

pub grows_then : (ms ns os : List Made) → Grows ms ns → Grows ns os → Grows ms os
grows_then ms ns os a b = record { longer = omega (arith, a.longer, b.longer); has = λ k f h. b.has k f (a.has k f h) }

pub grows_new : (ms : List Made) (x : Made) → Grows ms (ms ++ x ∷ [])
grows_new ms x = record { longer = omega (arith, length-append ms (x ∷ [])); has = λ k f h. has_front ms (x ∷ []) k f h }
