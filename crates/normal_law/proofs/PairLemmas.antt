-- The labels of the pairs of a normal form.
use Rattle.std.proofs.Common.{◌≡◌, ℕ, ◌+◌, ◌<◌, ◌≤◌, ◌⊎◌, List, [], ◌∷◌, ◌++◌, length, get_or, arith, inl, inr}
use Rattle.std.specs.Prelude.{Contains, All}
use Rattle.std.proofs.lemmas.Bool.{cases_lt}
use Rattle.std.proofs.lemmas.List.Elements.{All-nil, All-cons, All-head, All-tail, All-append, Contains-get_or}
use Rattle.graph_words.specs.declared.types.LabelId.{LabelId}
use Rattle.graph_words.specs.declared.types.PairRule.{PairRule}
use Rattle.graph_words.specs.declared.types.Rule.{Rule}
use Rattle.graph_words.specs.Reach.{rule}
use Rattle.normal_law.specs.Closure.{IsNamed, IsFreshLabel, IsLabelOf, HasNamedLabels}
use Rattle.normal_law.specs.NormalForm.{pair, fresh_label, suffixes, fresh_words, pairs_from, all_pairs, stands_for, normal_form}
use Rattle.normal_law.proofs.Chains.{IsNormalForm-normal_form}

-- the first label of each pair is one of the right side
pub chain_first : (right : List LabelId) (next : ℕ) (a : LabelId) → All IsNamed right → All (λ p. IsNamed p.first) (pairs_from next a right)
chain_first [] next a names = All-nil (λ (p : PairRule). IsNamed p.first)
chain_first (x ∷ []) next a names = All-nil (λ (p : PairRule). IsNamed p.first)
chain_first (x ∷ y ∷ []) next a names = All-cons (λ (p : PairRule). IsNamed p.first) (pair a x y) [] (All-head IsNamed x (y ∷ []) names) (All-nil (λ (p : PairRule). IsNamed p.first))
chain_first (x ∷ y ∷ z ∷ r) next a names =
    All-cons (λ (p : PairRule). IsNamed p.first) (pair a x (fresh_label next)) (pairs_from (next + 1) (fresh_label next) (y ∷ z ∷ r)) (All-head IsNamed x (y ∷ z ∷ r) names)
    (chain_first (y ∷ z ∷ r) (next + 1) (fresh_label next) (All-tail IsNamed x (y ∷ z ∷ r) names))

-- the first label of each pair is a named one
pub pairs_first : (rules : List Rule) (next : ℕ) → HasNamedLabels rules → All (λ p. IsNamed p.first) (all_pairs next rules)
pairs_first [] next names = All-nil (λ (p : PairRule). IsNamed p.first)
pairs_first (r ∷ rs) next names =
    All-append (λ (p : PairRule). IsNamed p.first) (pairs_from next r.left r.right) (all_pairs (next + length (suffixes r.right)) rs)
    (chain_first r.right next r.left (All-head (λ (x : Rule). IsNamed x.left × All IsNamed x.right) r rs names).1)
    (pairs_first rs (next + length (suffixes r.right)) (All-tail (λ (x : Rule). IsNamed x.left × All IsNamed x.right) r rs names))

-- a label below the end of the fresh ones is named or fresh, and back
pub label_below : (rules : List Rule) (l : LabelId) → IsLabelOf (normal_form rules) l → l.0 < 1000 + length (fresh_words rules)
label_below rules l (inl h) = omega arith
label_below rules l (inr h) = h.1

-- the left label of each pair is named or fresh
pub pairs_left : (rules : List Rule) → HasNamedLabels rules → All (λ p. p.left.0 < 1000 + length (fresh_words rules)) (all_pairs 0 rules)
pairs_left rules names k d l = go (get_or (all_pairs 0 rules) k d) ((IsNormalForm-normal_form rules names).only (get_or (all_pairs 0 rules) k d) (Contains-get_or (all_pairs 0 rules) k d l))
  where
    go : (p : PairRule) → (IsNamed p.left × Contains rules (rule p.left (stands_for (fresh_words rules) p.first ++ stands_for (fresh_words rules) p.second))) ⊎ (IsFreshLabel (normal_form rules) p.left × (stands_for (fresh_words rules) p.left ≡ stands_for (fresh_words rules) p.first ++ stands_for (fresh_words rules) p.second)) → p.left.0 < 1000 + length (fresh_words rules)
    go p (inl h) = label_below rules p.left (inl h.0)
    go p (inr h) = label_below rules p.left (inr h.0)

-- a label whose number is below the end of the fresh ones
pub label_known : (rules : List Rule) (l : LabelId) → l.0 < 1000 + length (fresh_words rules) → IsLabelOf (normal_form rules) l
label_known rules l h = go (cases_lt l.0 1000)
  where
    go : (l.0 < 1000) ⊎ (1000 ≤ l.0) → IsLabelOf (normal_form rules) l
    go (inl m) = inl m
    go (inr m) = inr (m, h)
