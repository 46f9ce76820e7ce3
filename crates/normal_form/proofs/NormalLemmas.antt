-- The parts of a normal form.
use Rattle.std.proofs.Common.{◌≡◌, ℕ, suc, ◌+◌, ◌-◌, ◌<◌, ◌≤◌, ◌⊎◌, ◌↔◌, List, [], ◌∷◌, ◌++◌, length, get_or, take, drop, refl, sym, ◌∙◌, ap, subst, inl, inr, arith, append-nil}
use Rattle.std.specs.Prelude.{Contains, All}
use Rattle.std.proofs.lemmas.Bool.{cases_lt}
use Rattle.std.proofs.lemmas.List.{get_or_append_left, length_push, get_or_push, drop_more}
use Rattle.std.proofs.lemmas.List.Elements.{All-nil, All-cons, All-contains}
use Rattle.graph_words.specs.declared.types.LabelId.{LabelId}
use Rattle.graph_words.specs.declared.types.Rule.{Rule}
use Rattle.graph_words.specs.Reach.{Yields, done, keep, rewrite}
use Rattle.normal_law.specs.Closure.{IsNamed, IsLabelOf, IsUp, itself, above, IsEmpty, HasNamedLabels}
use Rattle.normal_law.specs.NormalForm.{fresh_label, fresh_words, all_pairs, stands_for, normal_form}
use Rattle.normal_law.proofs.Sound.{left_is_named, single_is_named}
use Rattle.normal_law.proofs.Chains.{stands_for-named, stands_for-fresh, fresh_again}
use Rattle.graph_words.specs.declared.types.PairRule.{PairRule}
use Rattle.normal_law.specs.Closed.{Joins}
use Rattle.normal_law.proofs.PairLemmas.{pairs_left}
use Rattle.normal_law.proofs.FreshLemmas.{few_fresh}
use Rattle.normal_form.specs.declared.joins.Join.{Join}
use Rattle.normal_form.specs.Grammar.{IsGrammar}
use Rattle.normal_form.specs.Joins.{HasJoinAt, IsJoined, IsJoinTable}
use Rattle.normal_form.specs.Rows.{AddsLabel}
use Rattle.normal_form.specs.Above.{IsUpRow}
use Rattle.normal_form.specs.Empty.{DerivesEmpty, IsFreshAmong, HasFresh}
use Rattle.normal_form.specs.Parts.{AreNamed, AreAbove}
use Rattle.normal_form.proofs.EmptyLemmas.{list_derives, All-left, All-right}

-- ---- labels by their numbers

-- The first n labels stand at their numbers.
pub record IsCounting (n : ℕ) (named : List LabelId) : Type 0 where
  pub count : length named ≡ n
  pub each : (l : LabelId) → l.0 < n → get_or named l.0 l ≡ l

pub IsCounting-start : IsCounting 0 []
IsCounting-start = record { count = refl; each = λ l m. absurd (omega arith) }

pub IsCounting-step : (n : ℕ) (named after : List LabelId) (x : LabelId) → IsCounting n named → x.0 ≡ n → after ≡ named ++ x ∷ [] → IsCounting (n + 1) after
IsCounting-step n named after x c number is =
    record { count = ap length is ∙ length_push named x ∙ ap (λ (k : ℕ). k + 1) c.count; each = λ l m. ap (λ (t : List LabelId). get_or t l.0 l) is ∙ at l m (cases_lt l.0 n) }
  where
    at : (l : LabelId) → l.0 < n + 1 → (l.0 < n) ⊎ (n ≤ l.0) → get_or (named ++ x ∷ []) l.0 l ≡ l
    at l m (inl lt) = get_or_append_left named (x ∷ []) l l.0 (omega (arith, c.count)) ∙ c.each l lt
    at l m (inr le) =
        let place : l.0 ≡ length named = omega (arith, c.count) in
        let same : x.0 ≡ l.0 = omega arith in
        ap (λ (k : ℕ). get_or (named ++ x ∷ []) k l) place ∙ get_or_push named x l (length named) refl ∙ ap (λ (k : ℕ). let y : LabelId = record { 0 = k } in y) same

-- The labels above the first n stand at their numbers.
pub record IsStacking (rules : List Rule) (n : ℕ) (rows : List (List LabelId)) : Type 0 where
  pub count : length rows ≡ n
  pub each : (l : LabelId) → l.0 < n → IsUpRow rules l (get_or rows l.0 [])

pub IsStacking-start : (rules : List Rule) → IsStacking rules 0 []
IsStacking-start rules = record { count = refl; each = λ l m. absurd (omega arith) }

pub IsStacking-step : (rules : List Rule) (n : ℕ) (rows after : List (List LabelId)) (x : LabelId) (row : List LabelId) → IsStacking rules n rows → x.0 ≡ n → IsUpRow rules x row → after ≡ rows ++ row ∷ [] → IsStacking rules (n + 1) after
IsStacking-step rules n rows after x row c number up is =
    record { count = ap length is ∙ length_push rows row ∙ ap (λ (k : ℕ). k + 1) c.count; each = λ l m. subst (λ (t : List (List LabelId)). IsUpRow rules l (get_or t l.0 [])) (sym is) (at l m (cases_lt l.0 n)) }
  where
    at : (l : LabelId) → l.0 < n + 1 → (l.0 < n) ⊎ (n ≤ l.0) → IsUpRow rules l (get_or (rows ++ row ∷ []) l.0 [])
    at l m (inl lt) = subst (IsUpRow rules l) (sym (get_or_append_left rows (row ∷ []) [] l.0 (omega (arith, c.count)))) (c.each l lt)
    at l m (inr le) =
        let place : l.0 ≡ length rows = omega (arith, c.count) in
        let same : x.0 ≡ l.0 = omega arith in
        let x_is : x ≡ l = ap (λ (k : ℕ). let y : LabelId = record { 0 = k } in y) same in
        subst (IsUpRow rules l) (sym (ap (λ (k : ℕ). get_or (rows ++ row ∷ []) k []) place ∙ get_or_push rows row [] (length rows) refl)) (subst (λ (y : LabelId). IsUpRow rules y row) x_is up)

pub IsStacking-end : (rules : List Rule) (n : ℕ) (rows : List (List LabelId)) → IsStacking rules n rows → AreAbove rules rows
IsStacking-end rules n rows s = record { each = λ l m. s.each l (omega (arith, s.count)) }

-- ---- a fresh label is above itself alone

fresh_alone : {rules : List Rule} {b a : LabelId} → IsUp rules b a → HasNamedLabels rules → 1000 ≤ b.0 → a ≡ b
fresh_alone itself names h = refl
fresh_alone {rules = rules} {b = b} (above {a = a} c up m) names h =
    let same = fresh_alone up names h in
    let named = single_is_named rules a c names m in
    let number : c.0 ≡ b.0 = ap (λ (x : LabelId). x.0) same in
    absurd (omega arith)

pub IsUpRow-fresh : (rules : List Rule) (l : LabelId) (row : List LabelId) → HasNamedLabels rules → 1000 ≤ l.0 → AddsLabel [] row l → IsUpRow rules l row
IsUpRow-fresh rules l row names h a x = (λ m. go (a.only x m), λ up. subst (λ (y : LabelId). Contains row y) (sym (fresh_alone up names h)) a.has)
  where
    go : Contains [] x ⊎ (x ≡ l) → IsUp rules l x
    go (inl (k, m, e)) = absurd (omega arith)
    go (inr e) = subst (λ (y : LabelId). IsUp rules l y) (sym e) itself

-- ---- the labels that stand for words which yield the empty word

-- each label of a list that yields the empty word derives it
derives_throughout : {rules : List Rule} {k : ℕ} {f w : List LabelId} → Yields rules k f w → w ≡ [] → All (DerivesEmpty rules) f
derives_throughout {rules = rules} done e = All-nil (DerivesEmpty rules)
derives_throughout (keep y) e = absurd (cc)
derives_throughout {rules = rules} (rewrite {a = a} {f = f} r m y) e =
    let all = derives_throughout y e in
    let right = list_derives rules r (All-left (DerivesEmpty rules) r f all) in
    let one : DerivesEmpty rules a = (suc right.0, rewrite r m (subst (λ (l : List LabelId). Yields rules right.0 l []) (sym (append-nil r)) right.1)) in
    All-cons (DerivesEmpty rules) a f one (All-right (DerivesEmpty rules) r f all)

-- a label that derives the empty word is a left side
derives_named : (rules : List Rule) (a : LabelId) → HasNamedLabels rules → DerivesEmpty rules a → IsNamed a
derives_named rules a names (k, y) = go y refl refl
  where
    go : {k : ℕ} {f w : List LabelId} → Yields rules k f w → f ≡ a ∷ [] → w ≡ [] → IsNamed a
    go done e q = absurd (cc)
    go (keep y) e q = absurd (cc)
    go (rewrite {a = b} r m y) e q =
        let same : b ≡ a = cc in
        subst IsNamed same (left_is_named rules b r names m)

pub IsEmpty-found : (rules : List Rule) (found row : List LabelId) → HasNamedLabels rules → All (DerivesEmpty rules) found → ((a : LabelId) → DerivesEmpty rules a → Contains found a) → HasFresh found (fresh_words rules) (length (fresh_words rules)) row → (a : LabelId) → Contains row a ↔ IsEmpty (normal_form rules) a
IsEmpty-found rules found row names sound whole h a = (λ m. forth ((h a).0 m), λ e. (h a).1 (back e.0 e.1))
  where
    fresh_empty : (k : ℕ) → k < length (fresh_words rules) → All (Contains found) (get_or (fresh_words rules) k []) → IsEmpty (normal_form rules) (fresh_label k)
    fresh_empty k l all =
        let y = list_derives rules (get_or (fresh_words rules) k []) (λ i d m. All-contains (DerivesEmpty rules) found (get_or (get_or (fresh_words rules) k []) i d) sound (all i d m)) in
        (inr (omega arith, omega arith), (y.0, subst (λ (f : List LabelId). Yields rules y.0 f []) (sym (stands_for-fresh (fresh_words rules) k)) y.1))

    forth : Contains found a ⊎ IsFreshAmong found (fresh_words rules) (length (fresh_words rules)) a → IsEmpty (normal_form rules) a
    forth (inl m) =
        let d = All-contains (DerivesEmpty rules) found a sound m in
        let n = derives_named rules a names d in
        (inl n, (d.0, subst (λ (f : List LabelId). Yields rules d.0 f []) (sym (stands_for-named (fresh_words rules) a n)) d.1))
    forth (inr (k, l, e, all)) = subst (λ (x : LabelId). IsEmpty (normal_form rules) x) (sym e) (fresh_empty k l all)

    back : IsLabelOf (normal_form rules) a → (k : ℕ) × Yields rules k (stands_for (fresh_words rules) a) [] → Contains found a ⊎ IsFreshAmong found (fresh_words rules) (length (fresh_words rules)) a
    back (inl n) (k, y) = inl (whole a (k, subst (λ (f : List LabelId). Yields rules k f []) (stands_for-named (fresh_words rules) a n) y))
    back (inr n) (k, y) =
        let i = a.0 - 1000 in
        let at = fresh_again a n.0 in
        let word : stands_for (fresh_words rules) a ≡ get_or (fresh_words rules) (a.0 - 1000) [] = ap (λ (l : LabelId). stands_for (fresh_words rules) l) (sym at) ∙ stands_for-fresh (fresh_words rules) i in
        let all = derives_throughout (subst (λ (f : List LabelId). Yields rules k f []) word y) refl in
        let within : a.0 - 1000 < length (fresh_words rules) = (let u = n.1 in let v = n.0 in omega arith) in
        inr (i, within, sym at, λ j d m. whole (get_or (get_or (fresh_words rules) i []) j d) (all j d m))

-- a grammar has at most 62,000 fresh labels
pub fresh_few : (rules : List Rule) → IsGrammar rules → length (fresh_words rules) ≤ 62000
fresh_few rules g = omega (arith, few_fresh rules g.short, g.few)

-- ---- what the parts answer

-- one label of a list, as a list
pub one_at : (named : List LabelId) (l : LabelId) → l.0 < length named → get_or named l.0 l ≡ l → take (l.0 + 1 - l.0) (drop l.0 named) ≡ l ∷ []
one_at named l lt e =
    let one : l.0 + 1 - l.0 ≡ 1 = omega arith in
    ap (λ (n : ℕ). take n (drop l.0 named)) one ∙ ap (take 1) (drop_more named l.0 l lt) ∙ ap (λ (x : LabelId). x ∷ take 0 (drop (l.0 + 1) named)) e

pub stands-named : (rules : List Rule) (named : List LabelId) (l : LabelId) → AreNamed named → l.0 < 1000 → take (l.0 + 1 - l.0) (drop l.0 named) ≡ stands_for (fresh_words rules) l
stands-named rules named l n lt = one_at named l (omega (arith, n.count)) (n.each l lt) ∙ sym (stands_for-named (fresh_words rules) l lt)

pub stands-fresh : (rules : List Rule) (l : LabelId) → 1000 ≤ l.0 → stands_for (fresh_words rules) l ≡ get_or (fresh_words rules) (l.0 - 1000) []
stands-fresh rules l h = ap (λ (x : LabelId). stands_for (fresh_words rules) x) (sym (fresh_again l h)) ∙ stands_for-fresh (fresh_words rules) (l.0 - 1000)

-- the labels above the left sides of the rules with two labels on the right are those of their joins
pub joins_from_table : (rules : List Rule) (rows : List (List LabelId)) (joins : List (List Join)) → HasNamedLabels rules → length rows ≡ 1000 + length (fresh_words rules) → AreAbove rules rows → IsJoinTable (all_pairs 0 rules) rows joins → (b c a : LabelId) → HasJoinAt joins b c a ↔ Joins (normal_form rules) b c a
joins_from_table rules rows joins names count up table b c a = (λ h. forth ((table b c a).0 h), λ j. (table b c a).1 (back j))
  where
    left_known : (p : PairRule) → Contains (all_pairs 0 rules) p → p.left.0 < length rows
    left_known p m = let h = All-contains (λ (p : PairRule). p.left.0 < 1000 + length (fresh_words rules)) (all_pairs 0 rules) p (pairs_left rules names) m in omega (arith, count)

    forth : IsJoined (all_pairs 0 rules) rows b c a → Joins (normal_form rules) b c a
    forth (p, m, e, q, h) = (p, m, e, q, (up.each p.left (left_known p m) a).0 h)

    back : Joins (normal_form rules) b c a → IsJoined (all_pairs 0 rules) rows b c a
    back (p, m, e, q, h) = (p, m, e, q, (up.each p.left (left_known p m) a).1 h)
