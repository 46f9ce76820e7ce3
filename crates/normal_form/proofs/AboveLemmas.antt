-- The labels above one.
use Rattle.std.proofs.Common.{◌≡◌, ℕ, ◌+◌, ◌<◌, ◌≤◌, ◌↔◌, ◌⊎◌, Bool, List, [], ◌∷◌, ◌++◌, length, get_or, refl, sym, ◌∙◌, ap, subst, inl, inr, arith, eqb, append_assoc, append-nil, length-append}
use Rattle.std.specs.Prelude.{IsTrue, Contains, All}
use Rattle.std.specs.List.{AllWithin}
use Rattle.std.proofs.lemmas.Bool.{eqb-true, eq-eqb, cases_lt}
use Rattle.std.proofs.lemmas.List.{get_or_append_left, get_or_default}
use Rattle.std.proofs.lemmas.List.Elements.{All-nil, All-append, All-push, All-weaker, All-contains, AllWithin-none, AllWithin-more, at_read, Contains-get_or, Contains-push, Contains-append_left}
use Rattle.graph_words.specs.declared.types.LabelId.{LabelId}
use Rattle.graph_words.specs.declared.types.Rule.{Rule}
use Rattle.graph_words.specs.Reach.{rule}
use Rattle.normal_law.specs.Closure.{IsUp, itself, above}
use Rattle.normal_form.specs.Rows.{AddsLabels}
use Rattle.normal_form.specs.Above.{AddsLeft, AddsAbove, IsUpRow}
use Rattle.normal_form.proofs.RowLemmas.{same_label}

-- a word of one label, by its test
pub alone : (right : List LabelId) (d label : LabelId) (b : Bool) → length right ≡ 1 → b ≡ eqb (get_or right 0 d).0 label.0 → IsTrue b ↔ (right ≡ label ∷ [])
alone [] d label b one e = absurd (omega arith)
alone (x ∷ []) d label b one e =
    (λ t. ap (λ (y : LabelId). y ∷ []) (same_label x label (eqb-true x.0 label.0 (sym e ∙ t))), λ s. let same : x ≡ label = cc in e ∙ eq-eqb x.0 label.0 (ap (λ (y : LabelId). y.0) same))
alone (x ∷ y ∷ r) d label b one e = absurd (omega arith)

pub not_alone : (right : List LabelId) (label : LabelId) → (length right ≡ 1 → ⊥) → right ≡ label ∷ [] → ⊥
not_alone right label h e = h (ap length e)

pub AddsLeft-not : (r : Rule) (label : LabelId) (found : List LabelId) → (r.right ≡ label ∷ [] → ⊥) → AddsLeft r label found found
AddsLeft-not r label found h = record { cases = inl refl; has = λ e. absurd (h e) }

pub AddsLeft-there : (r : Rule) (label : LabelId) (found : List LabelId) → Contains found r.left → AddsLeft r label found found
AddsLeft-there r label found m = record { cases = inl refl; has = λ e. m }

pub AddsLeft-new : (r : Rule) (label : LabelId) (found after : List LabelId) → r.right ≡ label ∷ [] → after ≡ found ++ r.left ∷ [] → AddsLeft r label found after
AddsLeft-new r label found after e is =
    record { cases = inr (is, e); has = λ e. subst (λ (l : List LabelId). Contains l r.left) (sym is) (Contains-push found r.left) }

-- Of the first i rules, the left sides above the label are there.
pub record IsRaising (rules : List Rule) (i : ℕ) (label : LabelId) (before now : List LabelId) : Type 0 where
  pub added : List LabelId
  pub at_end : now ≡ before ++ added
  pub each : All (λ a. Contains rules (rule a (label ∷ []))) added
  pub has : AllWithin (λ (r : Rule). r.right ≡ label ∷ [] → Contains now r.left) rules 0 i

pub IsRaising-start : (rules : List Rule) (label : LabelId) (found : List LabelId) → IsRaising rules 0 label found found
IsRaising-start rules label found =
    record {
      added = [];
      at_end = sym (append-nil found);
      each = All-nil (λ a. Contains rules (rule a (label ∷ [])));
      has = AllWithin-none (λ (r : Rule). r.right ≡ label ∷ [] → Contains found r.left) rules 0;
    }

module _ (rules : List Rule) (label : LabelId) (before now after : List LabelId) where
  abbrev Up : LabelId → Type 0
  Up a = Contains rules (rule a (label ∷ []))

  abbrev Has : List LabelId → Rule → Type 0
  Has found r = r.right ≡ label ∷ [] → Contains found r.left

  pub IsRaising-step : (i : ℕ) (r : Rule) → i < length rules → r ≡ get_or rules i r → IsRaising rules i label before now → AddsLeft r label now after → IsRaising rules (i + 1) label before after
  IsRaising-step i r l is g a = go a.cases
    where
      here : Contains rules r
      here = subst (λ (x : Rule). Contains rules x) (sym is) (Contains-get_or rules i r l)

      go : (after ≡ now) ⊎ ((after ≡ now ++ r.left ∷ []) × (r.right ≡ label ∷ [])) → IsRaising rules (i + 1) label before after
      go (inl e) =
          record {
            added = g.added;
            at_end = e ∙ g.at_end;
            each = g.each;
            has = AllWithin-more (Has after) rules 0 i (subst (λ (f : List LabelId). AllWithin (Has f) rules 0 i) (sym e) g.has) (at_read rules (Has after) i r l is a.has);
          }
      go (inr (e, s)) =
          record {
            added = g.added ++ r.left ∷ [];
            at_end = e ∙ ap (λ (f : List LabelId). f ++ r.left ∷ []) g.at_end ∙ append_assoc before g.added (r.left ∷ []);
            each = All-push Up g.added r.left g.each (subst (λ (w : List LabelId). Contains rules (record { left = r.left; right = w })) s here);
            has = AllWithin-more (Has after) rules 0 i (λ k d le lt q. subst (λ (f : List LabelId). Contains f (get_or rules k d).left) (sym e) (Contains-append_left now (r.left ∷ []) (get_or rules k d).left (g.has k d le lt q))) (at_read rules (Has after) i r l is a.has);
          }

pub IsRaising-end : (rules : List Rule) (i : ℕ) (label : LabelId) (before now : List LabelId) → length rules ≤ i → IsRaising rules i label before now → AddsAbove rules label before now
IsRaising-end rules i label before now past g =
    record {
      added = g.added;
      at_end = g.at_end;
      each = g.each;
      has = λ a m. All-contains (λ (r : Rule). r.right ≡ label ∷ [] → Contains now r.left) rules (rule a (label ∷ [])) (λ k d l. g.has k d (omega arith) (omega arith)) m refl;
    }

-- The labels are above one, and the first i of them have the labels just above them.
pub record IsRising (rules : List Rule) (label : LabelId) (i : ℕ) (found : List LabelId) : Type 0 where
  pub all : All (IsUp rules label) found
  pub first : Contains found label
  pub within : i ≤ length found
  pub closed : (k : ℕ) (d a : LabelId) → k < i → Contains rules (rule a (get_or found k d ∷ [])) → Contains found a

pub IsRising-start : (rules : List Rule) (label : LabelId) → IsRising rules label 0 (label ∷ [])
IsRising-start rules label =
    record { all = one; first = (0, omega arith, refl); within = omega arith; closed = λ k d a l. absurd (omega arith) }
  where
    one : All (IsUp rules label) (label ∷ [])
    one = All-push (IsUp rules label) [] label (All-nil (IsUp rules label)) itself

pub IsRising-step : (rules : List Rule) (label : LabelId) (i : ℕ) (found after : List LabelId) (d : LabelId) → i < length found → IsRising rules label i found → AddsAbove rules (get_or found i d) found after → IsRising rules label (i + 1) after
IsRising-step rules label i found after d l g a =
    record {
      all = subst (All (IsUp rules label)) (sym a.at_end) (All-append (IsUp rules label) found a.added g.all (All-weaker (λ (x : LabelId). Contains rules (rule x (next ∷ []))) (IsUp rules label) (λ x m. above next (g.all i d l) m) a.added a.each));
      first = keeps label g.first;
      within = let n = ap length a.at_end in omega (arith, n, length-append found a.added);
      closed = λ k e x lt m. go k e x (cases_lt k i) lt m;
    }
  where
    next : LabelId
    next = get_or found i d

    keeps : (x : LabelId) → Contains found x → Contains after x
    keeps x m = subst (λ (f : List LabelId). Contains f x) (sym a.at_end) (Contains-append_left found a.added x m)

    same : (k : ℕ) (e : LabelId) → k < length found → get_or after k e ≡ get_or found k e
    same k e lt = ap (λ (f : List LabelId). get_or f k e) a.at_end ∙ get_or_append_left found a.added e k lt

    go : (k : ℕ) (e x : LabelId) → (k < i) ⊎ (i ≤ k) → k < i + 1 → Contains rules (rule x (get_or after k e ∷ [])) → Contains after x
    go k e x (inl lt) b m = keeps x (g.closed k e x lt (subst (λ (y : LabelId). Contains rules (rule x (y ∷ []))) (same k e (omega arith)) m))
    go k e x (inr le) b m =
        let at : k ≡ i = omega arith in
        let read : get_or after k e ≡ next = same k e (omega arith) ∙ ap (λ (j : ℕ). get_or found j e) at ∙ get_or_default found i e d l in
        a.has x (subst (λ (y : LabelId). Contains rules (rule x (y ∷ []))) read m)

above_found : (rules : List Rule) (label : LabelId) (i : ℕ) (found : List LabelId) (a c : LabelId) → length found ≤ i → IsRising rules label i found → Contains rules (rule a (c ∷ [])) → Contains found c → Contains found a
above_found rules label i found a c past g m (k, l, e) = g.closed k c a (omega arith) (subst (λ (y : LabelId). Contains rules (rule a (y ∷ []))) (sym e) m)

all_found : (rules : List Rule) (label : LabelId) (i : ℕ) (found : List LabelId) → length found ≤ i → IsRising rules label i found → {a : LabelId} → IsUp rules label a → Contains found a
all_found rules label i found past g itself = g.first
all_found rules label i found past g (above {a = a} c u m) = above_found rules label i found a c past g m (all_found rules label i found past g u)

pub IsRising-end : (rules : List Rule) (label : LabelId) (i : ℕ) (found : List LabelId) → length found ≤ i → IsRising rules label i found → IsUpRow rules label found
IsRising-end rules label i found past g a = (λ m. All-contains (IsUp rules label) found a g.all m, λ u. all_found rules label i found past g u)

-- the same labels in another list
pub IsUpRow-added : (rules : List Rule) (label : LabelId) (found row : List LabelId) → IsUpRow rules label found → AddsLabels [] row found → IsUpRow rules label row
IsUpRow-added rules label found row up a x = (λ m. (up x).0 (go (a.only x m)), λ u. a.has x ((up x).1 u))
  where
    go : Contains [] x ⊎ Contains found x → Contains found x
    go (inl (k, l, e)) = absurd (omega arith)
    go (inr m) = m
