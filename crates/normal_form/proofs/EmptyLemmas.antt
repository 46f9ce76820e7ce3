-- The least set of labels with all on the right of a rule: those that derive the empty word.
use Rattle.std.proofs.Common.{◌≡◌, ℕ, suc, ◌+◌, List, [], ◌∷◌, ◌++◌, refl, sym, subst, append-nil, Bool, true, false, ◌↔◌, ◌<◌, ◌≤◌, ◌⊎◌, inl, inr, ap, ◌∙◌, arith, get_or}
use Rattle.std.specs.Prelude.{IsTrue}
use Rattle.std.specs.Bool.{MatchBool}
use Rattle.std.proofs.lemmas.Bool.{false≢true, cases_lt}
use Rattle.std.specs.Prelude.{Contains, All}
use Rattle.std.proofs.lemmas.List.Elements.{All-nil, All-cons, All-head, All-tail, All-contains}
use Rattle.graph_words.specs.declared.types.LabelId.{LabelId}
use Rattle.graph_words.specs.declared.types.Rule.{Rule}
use Rattle.graph_words.specs.Reach.{rule, Yields, done, keep, rewrite}
use Rattle.graph_words.proofs.Derivations.{Yields-append}
use Rattle.normal_law.specs.NormalForm.{fresh_label}
use Rattle.normal_form.specs.Rows.{AddsLabel, AddsLabels}
use Rattle.normal_form.specs.Empty.{DerivesEmpty, HasLeft, IsNewEmpty, IsFreshAmong, HasFresh}

pub All-left : {X : Type 0} (P : X → Type 0) (xs ys : List X) → All P (xs ++ ys) → All P xs
All-left P [] ys h = All-nil P
All-left P (x ∷ xs) ys h = All-cons P x xs (All-head P x (xs ++ ys) h) (All-left P xs ys (All-tail P x (xs ++ ys) h))

pub All-right : {X : Type 0} (P : X → Type 0) (xs ys : List X) → All P (xs ++ ys) → All P ys
All-right P [] ys h = h
All-right P (x ∷ xs) ys h = All-right P xs ys (All-tail P x (xs ++ ys) h)

-- where each label derives the empty word, so does the list
pub list_derives : (rules : List Rule) (f : List LabelId) → All (DerivesEmpty rules) f → (k : ℕ) × Yields rules k f []
list_derives rules [] h = (0, done)
list_derives rules (a ∷ f) h =
    let first = All-head (DerivesEmpty rules) a f h in
    let rest = list_derives rules f (All-tail (DerivesEmpty rules) a f h) in
    (first.0 + rest.0, Yields-append first.1 rest.1)

pub new_derives : (rules : List Rule) (found : List LabelId) (a : LabelId) → All (DerivesEmpty rules) found → IsNewEmpty rules found a → DerivesEmpty rules a
new_derives rules found a h new =
    let right = list_derives rules new.by.right (λ k d l. All-contains (DerivesEmpty rules) found _ h (new.due.0 k d l)) in
    let y = subst (λ (l : List LabelId). Yields rules right.0 l []) (sym (append-nil new.by.right)) right.1 in
    subst (DerivesEmpty rules) new.left (suc right.0, rewrite new.by.right new.has y)

found_throughout : {rules : List Rule} {k : ℕ} {f w : List LabelId} → Yields rules k f w → w ≡ [] → (found : List LabelId) → All (HasLeft found) rules → All (Contains found) f
found_throughout done e found closed = All-nil (Contains found)
found_throughout (keep y) e found closed = absurd (cc)
found_throughout {rules = rules} (rewrite {a = a} {f = f} r m y) e found closed =
    let all = found_throughout y e found closed in
    All-cons (Contains found) a f (All-contains (HasLeft found) rules (rule a r) closed m (All-left (Contains found) r f all)) (All-right (Contains found) r f all)

pub all_found : (rules : List Rule) (found : List LabelId) → All (HasLeft found) rules → (a : LabelId) → DerivesEmpty rules a → Contains found a
all_found rules found closed a d = All-head (Contains found) a [] (found_throughout d.1 refl found closed)

-- where Q does not hold, a test of P tells whether P has yet to give Q
pub due : (P Q : Type 0) (b : Bool) → IsTrue b ↔ P → (Q → ⊥) → MatchBool b (P × (Q → ⊥)) (P → Q)
due P Q true e no_q = (e.0 refl, no_q)
due P Q false e no_q = λ p. absurd (false≢true (e.1 p))

-- what holds anyway is had
pub had : (P Q : Type 0) (b : Bool) → b ≡ false → Q → MatchBool b (P × (Q → ⊥)) (P → Q)
had P Q true e q = absurd (false≢true (sym e))
had P Q false e q = λ p. q

pub HasFresh-start : (found row : List LabelId) (words : List (List LabelId)) → AddsLabels [] row found → HasFresh found words 0 row
HasFresh-start found row words a x = (λ m. go (a.only x m), back)
  where
    go : Contains [] x ⊎ Contains found x → Contains found x ⊎ IsFreshAmong found words 0 x
    go (inl (k, l, e)) = absurd (omega arith)
    go (inr m) = inl m

    back : Contains found x ⊎ IsFreshAmong found words 0 x → Contains row x
    back (inl m) = a.has x m
    back (inr (k, l, e, h)) = absurd (omega arith)

-- one more fresh label, which may be left out
module _ (found : List LabelId) (words : List (List LabelId)) (n : ℕ) where
  more : (x : LabelId) → Contains found x ⊎ IsFreshAmong found words n x → Contains found x ⊎ IsFreshAmong found words (n + 1) x
  more x (inl m) = inl m
  more x (inr (k, l, e, h)) = inr (k, (let m : k < n + 1 = omega arith in m), e, h)

  pub HasFresh-skip : (row : List LabelId) → HasFresh found words n row → (All (Contains found) (get_or words n []) → ⊥) → HasFresh found words (n + 1) row
  HasFresh-skip row h unlike x = (λ m. more x ((h x).0 m), back)
    where
      less : (k : ℕ) → k < n + 1 → x ≡ fresh_label k → All (Contains found) (get_or words k []) → (k < n) ⊎ (n ≤ k) → Contains row x
      less k l e all (inl m) = (h x).1 (inr (k, m, e, all))
      less k l e all (inr m) = absurd (unlike (subst (λ (i : ℕ). All (Contains found) (get_or words i [])) (let s : k ≡ n = omega arith in s) all))

      back : Contains found x ⊎ IsFreshAmong found words (n + 1) x → Contains row x
      back (inl m) = (h x).1 (inl m)
      back (inr (k, l, e, all)) = less k l e all (cases_lt k n)

  pub HasFresh-take : (row after : List LabelId) → HasFresh found words n row → All (Contains found) (get_or words n []) → AddsLabel row after (fresh_label n) → HasFresh found words (n + 1) after
  HasFresh-take row after h here a x = (λ m. forth (a.only x m), back)
    where
      forth : Contains row x ⊎ (x ≡ fresh_label n) → Contains found x ⊎ IsFreshAmong found words (n + 1) x
      forth (inl m) = more x ((h x).0 m)
      forth (inr e) = inr (n, (let m : n < n + 1 = omega arith in m), e, here)

      less : (k : ℕ) → k < n + 1 → x ≡ fresh_label k → All (Contains found) (get_or words k []) → (k < n) ⊎ (n ≤ k) → Contains after x
      less k l e all (inl m) = a.keeps x ((h x).1 (inr (k, m, e, all)))
      less k l e all (inr m) =
          let s : k ≡ n = omega arith in
          subst (λ (y : LabelId). Contains after y) (sym (e ∙ ap fresh_label s)) a.has

      back : Contains found x ⊎ IsFreshAmong found words (n + 1) x → Contains after x
      back (inl m) = a.keeps x ((h x).1 (inl m))
      back (inr (k, l, e, all)) = less k l e all (cases_lt k n)
