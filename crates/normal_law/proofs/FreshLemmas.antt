-- Each rule has its own fresh labels.
use Rattle.std.proofs.Common.{◌≡◌, ℕ, zero, suc, ◌+◌, ◌-◌, ◌*◌, ◌<◌, ◌≤◌, ◌⊎◌, List, [], ◌∷◌, ◌++◌, length, get_or, take, drop, refl, sym, ◌↔◌, ◌∙◌, ap, subst, inl, inr, arith, length-append}
use Rattle.std.specs.Prelude.{All, Contains, sum_by, slice_get, Some}
use Rattle.std.proofs.lemmas.Bool.{cases_lt}
use Rattle.std.proofs.lemmas.List.Sums.{sum_by-cons, sum_by_more}
use Rattle.std.proofs.lemmas.List.{get_or_append_left, get_or-append-add}
use Rattle.std.proofs.lemmas.List.Elements.{All-head, All-tail, Contains-append_left, Contains-append_right, Contains-append_cases}
use Rattle.std.proofs.lemmas.Option.{slice_get_within, get_or_from_slice_get}
use Rattle.graph_words.specs.declared.types.LabelId.{LabelId}
use Rattle.graph_words.specs.declared.types.PairRule.{PairRule}
use Rattle.graph_words.specs.declared.types.Rule.{Rule}
use Rattle.normal_law.specs.Closure.{IsNamed, IsFreshLabel, HasNamedLabels}
use Rattle.normal_law.specs.NormalForm.{pair, fresh_label, suffixes, fresh_words, pairs_from, all_pairs, normal_form}
use Rattle.normal_law.specs.Fresh.{fresh_of, fresh_before, IsFreshOf}

pub length-suffixes : (right : List LabelId) → length (suffixes right) ≡ length right - 2
length-suffixes [] = refl
length-suffixes (x ∷ []) = refl
length-suffixes (x ∷ y ∷ []) = refl
length-suffixes (x ∷ y ∷ z ∷ r) = omega (arith, length-suffixes (y ∷ z ∷ r))

-- the fresh labels of a grammar are those of its rules together
pub length-fresh_words : (rules : List Rule) → length (fresh_words rules) ≡ sum_by fresh_of rules
length-fresh_words [] = refl
length-fresh_words (r ∷ rs) = omega (arith, length-append (suffixes r.right) (fresh_words rs), length-suffixes r.right, length-fresh_words rs, sum_by-cons fresh_of r rs)

-- right sides of at most 64 labels leave at most 62 fresh labels a rule
pub few_fresh : (rules : List Rule) → All (λ r. length r.right ≤ 64) rules → length (fresh_words rules) ≤ 62 * length rules
few_fresh [] short = omega arith
few_fresh (r ∷ rs) short =
    let one = All-head (λ (x : Rule). length x.right ≤ 64) r rs short in
    let more = few_fresh rs (All-tail (λ (x : Rule). length x.right ≤ 64) r rs short) in
    omega (arith, length-append (suffixes r.right) (fresh_words rs), length-suffixes r.right, one, more)

-- more rules have at least as many
fresh_before-more : (rules : List Rule) (i j : ℕ) → i ≤ j → fresh_before rules i ≤ fresh_before rules j
fresh_before-more rules zero j le = omega arith
fresh_before-more [] (suc i) zero le = absurd (omega arith)
fresh_before-more [] (suc i) (suc j) le = omega arith
fresh_before-more (r ∷ rs) (suc i) zero le = absurd (omega arith)
fresh_before-more (r ∷ rs) (suc i) (suc j) le = let h = fresh_before-more rs i j (omega arith) in omega (arith, sum_by-cons fresh_of r (take i rs), sum_by-cons fresh_of r (take j rs))

-- no two rules share a fresh label
pub IsFreshOf-one : (rules : List Rule) (i j : ℕ) (l : LabelId) → IsFreshOf rules i l → IsFreshOf rules j l → i ≡ j
IsFreshOf-one rules i j l p q = go (cases_lt i j) (cases_lt j i)
  where
    apart : (a b : ℕ) → a < b → l.0 < 1000 + fresh_before rules (a + 1) → 1000 + fresh_before rules b ≤ l.0 → ⊥
    apart a b lt high low = let h = fresh_before-more rules (a + 1) b (omega arith) in omega arith

    go : (i < j) ⊎ (j ≤ i) → (j < i) ⊎ (i ≤ j) → i ≡ j
    go (inl m) n = absurd (apart i j m p.high q.low)
    go (inr m) (inl n) = absurd (apart j i n q.high p.low)
    go (inr m) (inr n) = omega arith

-- a number below what all rules have lies among those of one rule
place_of : (rules : List Rule) (k : ℕ) → k < sum_by fresh_of rules → (i : ℕ) × (i < length rules) × (fresh_before rules i ≤ k) × (k < fresh_before rules (i + 1))
place_of [] k l = absurd (omega arith)
place_of (r ∷ rs) k l = go (λ m. place_of rs (k - fresh_of r) (omega (arith, sum_by-cons fresh_of r rs))) (cases_lt k (fresh_of r))
  where
    go : (fresh_of r ≤ k → (i : ℕ) × (i < length rs) × (fresh_before rs i ≤ k - fresh_of r) × (k - fresh_of r < fresh_before rs (i + 1))) → (k < fresh_of r) ⊎ (fresh_of r ≤ k) → (i : ℕ) × (i < length (r ∷ rs)) × (fresh_before (r ∷ rs) i ≤ k) × (k < fresh_before (r ∷ rs) (i + 1))
    go later (inl m) = (0, omega arith, omega arith, first m)
      where
        first : k < fresh_of r → k < fresh_before (r ∷ rs) (0 + 1)
        first m = omega (arith, sum_by-cons fresh_of r (take 0 rs))
    go later (inr m) = next (later m)
      where
        next : (i : ℕ) × (i < length rs) × (fresh_before rs i ≤ k - fresh_of r) × (k - fresh_of r < fresh_before rs (i + 1)) → (i : ℕ) × (i < length (r ∷ rs)) × (fresh_before (r ∷ rs) i ≤ k) × (k < fresh_before (r ∷ rs) (i + 1))
        next (i, a, b, c) = (suc i, omega arith, omega (arith, sum_by-cons fresh_of r (take i rs)), subst (λ (n : ℕ). k < fresh_before (r ∷ rs) n) (let s : suc (i + 1) ≡ suc i + 1 = omega arith in s) (omega (arith, sum_by-cons fresh_of r (take (i + 1) rs))))

-- each fresh label is one of some rule
pub IsFreshOf-some : (rules : List Rule) (l : LabelId) → IsFreshLabel (normal_form rules) l → (i : ℕ) × IsFreshOf rules i l
IsFreshOf-some rules l h =
    let p = place_of rules (l.0 - 1000) (omega (arith, length-fresh_words rules)) in
    (p.0, record { known = p.1; low = omega arith; high = omega arith })

-- the suffixes of a right side in their order
suffix_at : (right : List LabelId) (k : ℕ) → k < length right - 2 → get_or (suffixes right) k [] ≡ drop (k + 1) right
suffix_at [] k l = absurd (omega arith)
suffix_at (x ∷ []) k l = absurd (omega arith)
suffix_at (x ∷ y ∷ []) k l = absurd (omega arith)
suffix_at (x ∷ y ∷ z ∷ r) zero l = refl
suffix_at (x ∷ y ∷ z ∷ r) (suc k) l =
    let at : suc (k + 1) ≡ suc k + 1 = omega arith in
    suffix_at (y ∷ z ∷ r) k (omega arith) ∙ ap (λ (n : ℕ). drop n (x ∷ y ∷ z ∷ r)) at

-- the fresh label of a rule with the number k, counted from 0, stands for what is left after k + 1 labels
pub fresh_word_at : (rules : List Rule) (i k : ℕ) (r : Rule) → slice_get rules i ≡ Some r → k < fresh_of r → get_or (fresh_words rules) (fresh_before rules i + k) [] ≡ drop (k + 1) r.right
fresh_word_at [] i k r e l = absurd (cc)
fresh_word_at (q ∷ qs) zero k r e l =
    let same : q ≡ r = cc in
    let at : 0 + k ≡ k = omega arith in
    ap (λ (j : ℕ). get_or (suffixes q.right ++ fresh_words qs) j []) at
    ∙ get_or_append_left (suffixes q.right) (fresh_words qs) [] k (omega (arith, length-suffixes q.right, ap fresh_of same))
    ∙ ap (λ (x : Rule). get_or (suffixes x.right) k []) same
    ∙ suffix_at r.right k l
fresh_word_at (q ∷ qs) (suc i) k r e l =
    let at : fresh_before (q ∷ qs) (suc i) + k ≡ length (suffixes q.right) + (fresh_before qs i + k) = omega (arith, length-suffixes q.right, sum_by-cons fresh_of q (take i qs)) in
    ap (λ (j : ℕ). get_or (suffixes q.right ++ fresh_words qs) j []) at
    ∙ get_or-append-add (suffixes q.right) (fresh_words qs) (fresh_before qs i + k) []
    ∙ fresh_word_at qs i k r e l

-- ---- which rules of two labels use a fresh label

-- the label has a number from low to below high, counted from 1,000
abbrev IsBetween : ℕ → ℕ → LabelId → Type 0
IsBetween low high l = (1000 + low ≤ l.0) × (l.0 < 1000 + high)

-- a pair of a right side has on its left the rule's own left side or one of the side's fresh labels, and second a named label or one of these
abbrev IsWithinChain : ℕ → ℕ → LabelId → PairRule → Type 0
IsWithinChain low high a p = ((p.left ≡ a) ⊎ IsBetween low high p.left) × (IsNamed p.second ⊎ IsBetween low high p.second)

first_of_chain : (x y : PairRule) → Contains (x ∷ []) y → x ≡ y
first_of_chain x y (zero, h, e) = e
first_of_chain x y (suc k, h, e) = absurd (omega arith)

wider : (low high : ℕ) (a : LabelId) (p : PairRule) → low < high → IsWithinChain (low + 1) high (fresh_label low) p → IsWithinChain low high a p
wider low high a p lt (l, s) = (left l, second s)
  where
    left : (p.left ≡ fresh_label low) ⊎ IsBetween (low + 1) high p.left → (p.left ≡ a) ⊎ IsBetween low high p.left
    left (inl e) = let n : p.left.0 ≡ 1000 + low = ap (λ (x : LabelId). x.0) e in inr (omega arith, omega arith)
    left (inr b) = inr (omega arith, b.1)

    second : IsNamed p.second ⊎ IsBetween (low + 1) high p.second → IsNamed p.second ⊎ IsBetween low high p.second
    second (inl n) = inl n
    second (inr b) = inr (omega arith, b.1)

within_chain : (right : List LabelId) (next high : ℕ) (a : LabelId) → All IsNamed right → next + length (suffixes right) ≡ high → (p : PairRule) → Contains (pairs_from next a right) p → IsWithinChain next high a p
within_chain [] next high a names e p (k, l, q) = absurd (omega arith)
within_chain (x ∷ []) next high a names e p (k, l, q) = absurd (omega arith)
within_chain (x ∷ y ∷ []) next high a names e p m =
    subst (IsWithinChain next high a) (first_of_chain (pair a x y) p m) (inl refl, inl (All-head IsNamed y [] (All-tail IsNamed x (y ∷ []) names)))
within_chain (x ∷ y ∷ z ∷ r) next high a names e p m =
    go (within_chain (y ∷ z ∷ r) (next + 1) high (fresh_label next) (All-tail IsNamed x (y ∷ z ∷ r) names) (omega arith) p)
    (Contains-append_cases (pair a x (fresh_label next) ∷ []) (pairs_from (next + 1) (fresh_label next) (y ∷ z ∷ r)) p m)
  where
    go : (Contains (pairs_from (next + 1) (fresh_label next) (y ∷ z ∷ r)) p → IsWithinChain (next + 1) high (fresh_label next) p) → Contains (pair a x (fresh_label next) ∷ []) p ⊎ Contains (pairs_from (next + 1) (fresh_label next) (y ∷ z ∷ r)) p → IsWithinChain next high a p
    go later (inl one) = subst (IsWithinChain next high a) (first_of_chain (pair a x (fresh_label next)) p one) (inl refl, inr (omega arith, omega arith))
    go later (inr m) = wider next high a p (omega arith) (later m)

-- the rules of two labels for a rule use no fresh label but its own
pub own_fresh : (rules : List Rule) (i : ℕ) (r : Rule) (p : PairRule) (l : LabelId) → HasNamedLabels rules → slice_get rules i ≡ Some r → Contains (pairs_from (fresh_before rules i) r.left r.right) p → 1000 ≤ l.0 → (p.left ≡ l) ⊎ (p.second ≡ l) → IsFreshOf rules i l
own_fresh rules i r p l names e m fresh used = go used
  where
    known : i < length rules
    known = slice_get_within rules i r e

    labels : IsNamed r.left × All IsNamed r.right
    labels = subst (λ (q : Rule). IsNamed q.left × All IsNamed q.right) (get_or_from_slice_get rules i r r e) (names i r known)

    many : fresh_before rules (i + 1) ≡ fresh_before rules i + length (suffixes r.right)
    many = sum_by_more fresh_of rules i r known ∙ ap (λ (q : Rule). fresh_before rules i + fresh_of q) (get_or_from_slice_get rules i r r e) ∙ ap (λ (k : ℕ). fresh_before rules i + k) (sym (length-suffixes r.right))

    chain : IsWithinChain (fresh_before rules i) (fresh_before rules (i + 1)) r.left p
    chain = within_chain r.right (fresh_before rules i) (fresh_before rules (i + 1)) r.left labels.1 (sym many) p m

    mine : IsBetween (fresh_before rules i) (fresh_before rules (i + 1)) l → IsFreshOf rules i l
    mine b = record { known = known; low = b.0; high = b.1 }

    left : (p.left ≡ r.left) ⊎ IsBetween (fresh_before rules i) (fresh_before rules (i + 1)) p.left → p.left ≡ l → IsFreshOf rules i l
    left (inl s) q = let h = labels.0 in let n : r.left.0 ≡ l.0 = ap (λ (x : LabelId). x.0) (sym s ∙ q) in absurd (omega arith)
    left (inr b) q = mine (subst (IsBetween (fresh_before rules i) (fresh_before rules (i + 1))) q b)

    second : IsNamed p.second ⊎ IsBetween (fresh_before rules i) (fresh_before rules (i + 1)) p.second → p.second ≡ l → IsFreshOf rules i l
    second (inl n) q = let s : p.second.0 ≡ l.0 = ap (λ (x : LabelId). x.0) q in absurd (omega arith)
    second (inr b) q = mine (subst (IsBetween (fresh_before rules i) (fresh_before rules (i + 1))) q b)

    go : (p.left ≡ l) ⊎ (p.second ≡ l) → IsFreshOf rules i l
    go (inl q) = left chain.0 q
    go (inr q) = second chain.1 q

-- ---- the rules of two labels, rule by rule

abbrev IsOfRule : ℕ → List Rule → PairRule → Type 0
IsOfRule next rules p = (i : ℕ) × (r : Rule) × (slice_get rules i ≡ Some r) × Contains (pairs_from (next + fresh_before rules i) r.left r.right) p

to_rule : (rules : List Rule) (next : ℕ) (p : PairRule) → Contains (all_pairs next rules) p → IsOfRule next rules p
to_rule [] next p (k, l, e) = absurd (omega arith)
to_rule (q ∷ qs) next p m =
    go (to_rule qs (next + length (suffixes q.right)) p) (Contains-append_cases (pairs_from next q.left q.right) (all_pairs (next + length (suffixes q.right)) qs) p m)
  where
    go : (Contains (all_pairs (next + length (suffixes q.right)) qs) p → IsOfRule (next + length (suffixes q.right)) qs p) → Contains (pairs_from next q.left q.right) p ⊎ Contains (all_pairs (next + length (suffixes q.right)) qs) p → IsOfRule next (q ∷ qs) p
    go later (inl h) =
        let at : next ≡ next + fresh_before (q ∷ qs) 0 = omega arith in
        (0, q, refl, subst (λ (n : ℕ). Contains (pairs_from n q.left q.right) p) at h)
    go later (inr h) = next_rule (later h)
      where
        next_rule : IsOfRule (next + length (suffixes q.right)) qs p → IsOfRule next (q ∷ qs) p
        next_rule (i, r, e, h) =
            let at : next + length (suffixes q.right) + fresh_before qs i ≡ next + fresh_before (q ∷ qs) (suc i) = omega (arith, length-suffixes q.right, sum_by-cons fresh_of q (take i qs)) in
            (suc i, r, e, subst (λ (n : ℕ). Contains (pairs_from n r.left r.right) p) at h)

from_rule : (rules : List Rule) (next i : ℕ) (r : Rule) (p : PairRule) → slice_get rules i ≡ Some r → Contains (pairs_from (next + fresh_before rules i) r.left r.right) p → Contains (all_pairs next rules) p
from_rule [] next i r p e m = absurd (cc)
from_rule (q ∷ qs) next zero r p e m =
    let same : q ≡ r = cc in
    let at : next + fresh_before (q ∷ qs) 0 ≡ next = omega arith in
    Contains-append_left (pairs_from next q.left q.right) (all_pairs (next + length (suffixes q.right)) qs) p
    (subst (λ (x : Rule). Contains (pairs_from next x.left x.right) p) (sym same) (subst (λ (n : ℕ). Contains (pairs_from n r.left r.right) p) at m))
from_rule (q ∷ qs) next (suc i) r p e m =
    let at : next + fresh_before (q ∷ qs) (suc i) ≡ next + length (suffixes q.right) + fresh_before qs i = omega (arith, length-suffixes q.right, sum_by-cons fresh_of q (take i qs)) in
    Contains-append_right (pairs_from next q.left q.right) (all_pairs (next + length (suffixes q.right)) qs) p
    (from_rule qs (next + length (suffixes q.right)) i r p e (subst (λ (n : ℕ). Contains (pairs_from n r.left r.right) p) at m))

-- the rules of two labels are those for some rule
pub pairs_by_rule : (rules : List Rule) (p : PairRule) → Contains (all_pairs 0 rules) p ↔ ((i : ℕ) × (r : Rule) × (slice_get rules i ≡ Some r) × Contains (pairs_from (fresh_before rules i) r.left r.right) p)
pairs_by_rule rules p = (λ m. forth (to_rule rules 0 p m), back)
  where
    zero_first : (n : ℕ) → 0 + n ≡ n
    zero_first n = omega arith

    forth : IsOfRule 0 rules p → (i : ℕ) × (r : Rule) × (slice_get rules i ≡ Some r) × Contains (pairs_from (fresh_before rules i) r.left r.right) p
    forth (i, r, e, m) = (i, r, e, subst (λ (n : ℕ). Contains (pairs_from n r.left r.right) p) (zero_first (fresh_before rules i)) m)

    back : (i : ℕ) × (r : Rule) × (slice_get rules i ≡ Some r) × Contains (pairs_from (fresh_before rules i) r.left r.right) p → Contains (all_pairs 0 rules) p
    back (i, r, e, m) = from_rule rules 0 i r p e (subst (λ (n : ℕ). Contains (pairs_from n r.left r.right) p) (sym (zero_first (fresh_before rules i))) m)
