-- The rules of a text whose lines say them.
use Rattle.std.proofs.Common.{◌≡◌, ◌≢◌, ◌++◌, ◌+◌, ◌<◌, ◌≤◌, ℕ, arith, List, [], ◌∷◌, length, map, sym, ap, ◌∙◌, subst, refl, Some, None}
use Rattle.std.specs.Prelude.{All, AllPairs, slice_get}
use Rattle.std.proofs.lemmas.List.{length-map}
use Rattle.std.proofs.lemmas.List.Elements.{All-nil, All-cons, All-head, All-tail, All-weaker}
use Rattle.std.specs.List.{filter_map, cons_option}
use Rattle.graph_words.specs.declared.types.LabelId.{LabelId}
use Rattle.graph_words.specs.declared.types.Rule.{Rule}
use Rattle.graph_words.specs.Text.{distinct, said, with_names}
use Rattle.graph_words.specs.Reach.{rule}
use Rattle.graph_words.proofs.NameLemmas.{Grown, distinct-append, distinct-once, place_of-number, with_names-grown}
use Rattle.grammar_norm.proofs.NumberLemmas.{rules_stay}
use Rattle.std.proofs.lemmas.Option.{slice_get_within}
use Rattle.io_edge.specs.Lines.{lines}
use Rattle.grammar_norm.specs.GrammarText.{grammar_names, IsShort, Numbers, ReadsGrammar, grammar_fault, label_of, labels, rule_of_words}
use Rattle.normal_law.specs.Closure.{IsNamed}
use Rattle.normal_form.specs.Grammar.{IsGrammar, IsWithin}

module _ (names : List (List ℕ)) (once : AllPairs (λ x y. x ≢ y) names) where
  label_is : (l : LabelId) (w : List ℕ) → slice_get names l.0 ≡ Some w → label_of names w ≡ l
  label_is l w e = ap (λ (n : ℕ). let r : LabelId = record { 0 = n } in r) (place_of-number names once l.0 w e)

  labels_are : (ls : List LabelId) (ws : List (List ℕ)) → map (λ l. slice_get names l.0) ls ≡ map Some ws → map (label_of names) ws ≡ ls
  labels_are [] [] e = refl
  labels_are [] (w ∷ ws) e = absurd (cc)
  labels_are (l ∷ ls) [] e = absurd (cc)
  labels_are (l ∷ ls) (w ∷ ws) e =
      let here : slice_get names l.0 ≡ Some w = cc in
      let rest : map (λ l. slice_get names l.0) ls ≡ map Some ws = cc in
      ap (λ x. x ∷ map (label_of names) ws) (label_is l w here) ∙ ap (λ xs. l ∷ xs) (labels_are ls ws rest)

  rule_is : (r : Rule) (ws : List (List ℕ)) → map (λ l. slice_get names l.0) (labels r) ≡ map Some ws → rule_of_words names ws ≡ Some r
  rule_is r [] e = absurd (cc)
  rule_is r (w ∷ ws) e =
      let here : slice_get names r.left.0 ≡ Some w = cc in
      let rest : map (λ l. slice_get names l.0) r.right ≡ map Some ws = cc in
      ap (λ x. Some (rule x (map (label_of names) ws))) (label_is r.left w here) ∙ ap (λ xs. Some (rule r.left xs)) (labels_are r.right ws rest)

  rules_are : (rules : List Rule) (words : List (List (List ℕ))) → map (λ r. map (λ l. slice_get names l.0) (labels r)) rules ≡ map (map Some) words → filter_map (rule_of_words names) words ≡ rules
  rules_are [] [] e = refl
  rules_are [] (ws ∷ words) e = absurd (cc)
  rules_are (r ∷ rules) [] e = absurd (cc)
  rules_are (r ∷ rules) (ws ∷ words) e =
      let here : map (λ l. slice_get names l.0) (labels r) ≡ map Some ws = cc in
      let rest : map (λ r. map (λ l. slice_get names l.0) (labels r)) rules ≡ map (map Some) words = cc in
      ap (λ o. cons_option o (filter_map (rule_of_words names) words)) (rule_is r ws here) ∙ ap (λ l. r ∷ l) (rules_are rules words rest)

-- each left side has a name
lefts_named : (names : List (List ℕ)) (rules : List Rule) (words : List (List (List ℕ))) → map (λ r. map (λ l. slice_get names l.0) (labels r)) rules ≡ map (map Some) words → All (λ r. r.left.0 < length names) rules
lefts_named names [] words e = All-nil (λ (r : Rule). r.left.0 < length names)
lefts_named names (r ∷ rules) [] e = absurd (cc)
lefts_named names (r ∷ rules) ([] ∷ words) e = absurd (cc)
lefts_named names (r ∷ rules) ((w ∷ ws) ∷ words) e =
    let here : slice_get names r.left.0 ≡ Some w = cc in
    let rest : map (λ r. map (λ l. slice_get names l.0) (labels r)) rules ≡ map (map Some) words = cc in
    All-cons (λ (r : Rule). r.left.0 < length names) r rules (slice_get_within names r.left.0 w here) (lefts_named names rules words rest)

-- a rule line has a word for each label of its rule
length_is : (names : List (List ℕ)) (r : Rule) (ws : List (List ℕ)) → map (λ l. slice_get names l.0) (labels r) ≡ map Some ws → length ws ≡ length r.right + 1
length_is names r ws e = omega (arith, length-map (labels r) (λ l. slice_get names l.0), length-map ws Some, ap length e)

-- labels that have a name have one of the first 1,000 numbers
labels_named : (names : List (List ℕ)) (ls : List LabelId) (ws : List (List ℕ)) → length names ≤ 1000 → map (λ l. slice_get names l.0) ls ≡ map Some ws → All IsNamed ls
labels_named names [] ws few e = All-nil IsNamed
labels_named names (l ∷ ls) [] few e = absurd (cc)
labels_named names (l ∷ ls) (w ∷ ws) few e =
    let here : slice_get names l.0 ≡ Some w = cc in
    let rest : map (λ l. slice_get names l.0) ls ≡ map Some ws = cc in
    let within = slice_get_within names l.0 w here in
    All-cons IsNamed l ls (omega arith) (labels_named names ls ws few rest)

-- the limits of one rule
within_limits : (names : List (List ℕ)) (r : Rule) (ws : List (List ℕ)) → length names ≤ 1000 → length ws ≤ 65 → map (λ l. slice_get names l.0) (labels r) ≡ map Some ws → IsWithin r
within_limits names r ws few short e =
    let all = labels_named names (labels r) ws few e in
    (let l = length_is names r ws e in omega arith, All-head IsNamed r.left r.right all, All-tail IsNamed r.left r.right all)

-- and of each
each_within : (names : List (List ℕ)) (rules : List Rule) (words : List (List (List ℕ))) → length names ≤ 1000 → All (λ ws. length ws ≤ 65) words → map (λ r. map (λ l. slice_get names l.0) (labels r)) rules ≡ map (map Some) words → All IsWithin rules
each_within names [] words few short e = All-nil IsWithin
each_within names (r ∷ rules) [] few short e = absurd (cc)
each_within names (r ∷ rules) (ws ∷ words) few short e =
    let here : map (λ l. slice_get names l.0) (labels r) ≡ map Some ws = cc in
    let rest : map (λ r. map (λ l. slice_get names l.0) (labels r)) rules ≡ map (map Some) words = cc in
    All-cons IsWithin r rules (within_limits names r ws few (All-head (λ ws. length ws ≤ 65) ws words short) here)
    (each_within names rules words few (All-tail (λ ws. length ws ≤ 65) ws words short) rest)

-- rules that few and short lines say are within the limits of a grammar
pub IsGrammar-from_numbers : (said : List (List (List ℕ))) (rules : List Rule) (names : List (List ℕ)) → Numbers said rules names → IsShort said → IsGrammar rules
IsGrammar-from_numbers said rules names n s =
    let each = each_within names rules said n.short s.short n.numbered in
    let count : length rules ≡ length said = sym (length-map rules (λ r. map (λ l. slice_get names l.0) (labels r))) ∙ ap length n.numbered ∙ length-map said (map Some) in
    record {
      few = omega (arith, s.few);
      short = All-weaker IsWithin (λ (r : Rule). length r.right ≤ 64) (λ r h. h.0) rules each;
      named = All-weaker IsWithin (λ (r : Rule). IsNamed r.left × All IsNamed r.right) (λ r h. (h.1, h.2)) rules each;
    }

-- what was read of a text without a fault
pub ReadsGrammar-from_numbers : (text : List ℕ) (rules : List Rule) (names : List (List ℕ)) → Numbers (said (lines text)) rules names → IsShort (said (lines text)) → grammar_fault text ≡ None → ReadsGrammar text rules names
ReadsGrammar-from_numbers text rules names n short whole =
    record {
      whole = whole;
      names_are = n.table;
      short = n.short;
      rules_are = λ later.
          let all = distinct (grammar_names text ++ later) in
          let grown = subst (λ (t : List (List ℕ)). Grown names t) (sym (distinct-append (grammar_names text) later ∙ ap (λ t. with_names t later) (sym n.table))) (with_names-grown names later) in
          sym (rules_are all (distinct-once _) rules (said (lines text)) (rules_stay names all grown rules (said (lines text)) n.numbered));
      numbered = lefts_named names rules (said (lines text)) n.numbered;
      limits = IsGrammar-from_numbers (said (lines text)) rules names n short;
    }
