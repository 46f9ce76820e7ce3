-- What rounds make of loaded partitions.
use Rattle.std.proofs.Common.{ℕ, zero, suc, ◌+◌, ◌<◌, ◌≤◌, ◌⊎◌, List, [], ◌∷◌, ◌++◌, length, get_or, sym, subst, arith, inl, inr}
use Rattle.std.specs.Prelude.{All, Contains}
use Rattle.std.proofs.lemmas.List.Elements.{All-contains, Contains-append_cases}
use Rattle.graph_words.specs.declared.types.Born.{Born}
use Rattle.graph_words.specs.declared.types.LabelId.{LabelId}
use Rattle.graph_words.specs.declared.types.Rule.{Rule}
use Rattle.graph_words.specs.Reach.{rule}
use Rattle.normal_law.specs.Closure.{IsFreshLabel, IsUp, Normal, itself, above}
use Rattle.normal_law.specs.Closed.{Joins}
use Rattle.normal_law.specs.NormalForm.{normal_form}
use Rattle.normal_law.proofs.Chains.{IsNormalForm-normal_form}
use Rattle.normal_form.specs.Grammar.{IsGrammar}
use Rattle.closing_machine.specs.State.{EndsCut}
use Rattle.closing_machine.specs.Rounds.{Rounds}
use Rattle.closing_machine.proofs.Members.{either}
use Rattle.closing_machine.proofs.Rounding.{rounds_births, rounds_cases, rounds_keep}

-- ---- labels

-- a label of the rules by their numbers, or a fresh one
abbrev pub IsKnown : Normal → ℕ → LabelId → Type 0
IsKnown n named l = (l.0 < named) ⊎ IsFreshLabel n l

up_known : (rules : List Rule) (fresh : LabelId → Type 0) (named : ℕ) (b a : LabelId) → All (λ r. r.left.0 < named) rules → (b.0 < named) ⊎ fresh b → IsUp rules b a → (a.0 < named) ⊎ fresh a
up_known rules fresh named b a lefts k itself = k
up_known rules fresh named b a lefts k (above c up has) = inl (All-contains (λ (r : Rule). r.left.0 < named) rules (rule a (c ∷ [])) lefts has)

pub joins_known : (rules : List Rule) (named : ℕ) → IsGrammar rules → All (λ r. r.left.0 < named) rules → (b c a : LabelId) → Joins (normal_form rules) b c a → IsKnown (normal_form rules) named a
joins_known rules named g lefts b c a (p, has, e, f, up) =
    up_known rules (IsFreshLabel (normal_form rules)) named p.left a lefts
    (either (λ h. inl (All-contains (λ (r : Rule). r.left.0 < named) rules (rule p.left _) lefts h.1)) (λ h. inr h.0) ((IsNormalForm-normal_form rules g.named).only p has)) up

-- ---- the edges after the rounds

module _ (n : Normal) (start : List Born) (since round k last : ℕ) (rows : List Born) (r : Rounds n start since round k rows last) where
  pub born_before : ((b : Born) → Contains start b → b.birth < round) → (b : Born) → Contains rows b → b.birth < round + k
  born_before old = rounds_births n start since round r old

  pub old_one : (b : Born) → b.birth < round → Contains rows b → Contains start b
  old_one b lt m = either (λ h. h) (λ h. absurd (let ge : round ≤ b.birth = h.0 in omega arith)) (rounds_cases n start since round r b m)

  pub vertices_stay : (top : ℕ) → ((b : Born) → Contains start b → b.edge.dst.0 < top) → (b : Born) → Contains rows b → b.edge.dst.0 < top
  vertices_stay top old = rounds_keep n start since round (λ b. b.edge.dst.0 < top) (λ x y e b hx hy j. subst (λ v. v.0 < top) (sym j.destination) hy) old r

  pub labels_stay : (P : LabelId → Type 0) → ((b c a : LabelId) → Joins n b c a → P a) → ((b : Born) → Contains start b → P b.edge.label) → (b : Born) → Contains rows b → P b.edge.label
  labels_stay P joins old = rounds_keep n start since round (λ b. P b.edge.label) (λ x y e b hx hy j. joins x.edge.label y.edge.label e.label j.label) old r

-- ---- where the edges of two partitions stand

cut_low : (from : ℕ) (ends : List ℕ) (to : ℕ) (j : ℕ) → EndsCut from ends to → j ≤ length ends → from ≤ get_or (from ∷ ends) j 0
cut_low from ends to zero cut le = omega arith
cut_low from [] to (suc j) cut le = absurd (omega arith)
cut_low from (e ∷ es) to (suc j) cut le = let r = cut_low e es to j cut.1 (omega arith) in let h : from < e = cut.0 in omega arith

-- one interval ends where a later one begins, or before
pub cut_apart : (from : ℕ) (ends : List ℕ) (to : ℕ) (i j : ℕ) → EndsCut from ends to → i < j → j ≤ length ends → get_or ends i 0 ≤ get_or (from ∷ ends) j 0
cut_apart from [] to i j cut lt le = absurd (omega arith)
cut_apart from (e ∷ es) to zero zero cut lt le = absurd (omega arith)
cut_apart from (e ∷ es) to zero (suc j) cut lt le = cut_low e es to j cut.1 (omega arith)
cut_apart from (e ∷ es) to (suc i) zero cut lt le = absurd (omega arith)
cut_apart from (e ∷ es) to (suc i) (suc j) cut lt le = cut_apart e es to i j cut.1 (omega arith) (omega arith)

abbrev pub Lies : ℕ → ℕ → List Born → Type 0
Lies lo hi edges = (b : Born) → Contains edges b → (lo ≤ b.edge.src.0) × (b.edge.src.0 < hi)

-- of two lists with sources apart, what one made of both has in the first interval is in its first part
pub in_first : (lo hi lo' hi' : ℕ) (q : List Born) (b : Born) (p : List Born) → hi ≤ lo' → Lies lo' hi' q → b.edge.src.0 < hi → Contains (p ++ q) b → Contains p b
in_first lo hi lo' hi' q b p apart second here m =
    either (λ h. h) (λ h. absurd (let s = second b h in omega (arith, s, here, apart))) (Contains-append_cases p q b m)

pub in_second : (lo hi lo' hi' : ℕ) (p : List Born) (b : Born) (q : List Born) → hi ≤ lo' → Lies lo hi p → lo' ≤ b.edge.src.0 → Contains (p ++ q) b → Contains q b
in_second lo hi lo' hi' p b q apart first here m =
    either (λ h. absurd (let s = first b h in omega (arith, s, here, apart))) (λ h. h) (Contains-append_cases p q b m)
