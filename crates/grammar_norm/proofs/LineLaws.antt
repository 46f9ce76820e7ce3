-- The lines of a grammar's text without a fault.
use Rattle.std.proofs.Common.{◌≡◌, ◌⊎◌, inl, inr, ℕ, ◌<◌, ◌≤◌, ◌++◌, Bool, cond, subst, length-append, true, false, List, [], ◌∷◌, length, sym, ◌∙◌, ap, refl, arith, Option, Some, None}
use Rattle.std.specs.Prelude.{All, nat_lt, nat_le}
use Rattle.std.specs.List.{list_all}
use Rattle.std.specs.Option.{option_or}
use Rattle.std.proofs.lemmas.Bool.Decides.{nat_tests}
use Rattle.std.proofs.lemmas.List.Elements.{All-map, All-push, All-weaker}
use Rattle.graph_words.specs.Text.{IsLabel, is_label_word, is_skipped, words}
use Rattle.graph_words.proofs.TestLemmas.{labels_from_test}
use Rattle.faults.specs.declared.kinds.InputKind.{InputKind}
use Rattle.io_edge.specs.FirstFault.{line_fault, with_line}
use Rattle.io_edge.specs.Lines.{line, lines, segments}
use Rattle.io_edge.proofs.FaultLemmas.{IsFaultless, each_is_faultless, faultless_words}
use Rattle.grammar_norm.specs.GrammarText.{grammar_fault, rule_fault, shape_fault, IsShort, SaysRule}
use Rattle.grammar_norm.proofs.ShapeLemmas.{by_tests}

-- words without a fault of their shape are labels, and not too many, behind few enough others
shape_none : (rules : ℕ) (ws : List (List ℕ)) → shape_fault rules ws ≡ None → (list_all is_label_word ws ≡ true) × (length ws ≤ 65) × (rules < 1000)
shape_none rules ws e = go (list_all is_label_word ws) (nat_lt 65 (length ws)) (nat_le 1000 rules) refl refl refl
  where
    go : (a b c : Bool) → list_all is_label_word ws ≡ a → nat_lt 65 (length ws) ≡ b → nat_le 1000 rules ≡ c → (list_all is_label_word ws ≡ true) × (length ws ≤ 65) × (rules < 1000)
    go false b c p q r = let h = sym (by_tests rules ws false b c p q r) ∙ e in absurd (cc)
    go true true c p q r = let h = sym (by_tests rules ws true true c p q r) ∙ e in absurd (cc)
    go true false true p q r = let h = sym (by_tests rules ws true false true p q r) ∙ e in absurd (cc)
    go true false false p q r = (p, grind (arith, nat_tests), grind (arith, nat_tests))

first_none : (a b : Option InputKind) → option_or a b ≡ None → a ≡ None
first_none (Some k) b e = absurd (cc)
first_none None b e = refl

rule_line : (l : List ℕ) (ws : List (List ℕ)) → words l ≡ ws → is_skipped (words l) ≡ false → All IsLabel ws → length ws ≤ 65 → SaysRule l
rule_line l [] e said labels short = let h = sym said ∙ ap is_skipped e in absurd (cc)
rule_line l (left ∷ right) e said labels short = inr (left, right, record { said = said; spelled = e; labels = labels; short = omega arith })

segment_says : (s : List ℕ) → IsFaultless 16777216 rule_fault s → SaysRule (line s)
segment_says s f = go (faultless_words 16777216 rule_fault s f)
  where
    go : (is_skipped (words (line s)) ≡ true) ⊎ ((is_skipped (words (line s)) ≡ false) × (rule_fault f.before (words (line s)) ≡ None)) → SaysRule (line s)
    go (inl skipped) = inl skipped
    go (inr h) =
        let shape = shape_none (length f.before) (words (line s)) (first_none _ _ h.1) in
        rule_line (line s) (words (line s)) refl h.0 (labels_from_test (words (line s)) shape.0) shape.1

pub lines_say_rules : (text : List ℕ) → grammar_fault text ≡ None → All SaysRule (lines text)
lines_say_rules text none =
    All-map SaysRule line (segments text) (All-weaker (IsFaultless 16777216 rule_fault) (λ s. SaysRule (line s)) segment_says (segments text) (each_is_faultless 16777216 rule_fault 1 0 [] (segments text) none))

-- one line more without a fault leaves them few and short
pub IsShort-more : (before : List (List (List ℕ))) (end : ℕ) (s : List ℕ) → line_fault 16777216 rule_fault before end s ≡ None → IsShort before → IsShort (with_line before s)
IsShort-more before end s none short = go (faultless_words 16777216 rule_fault s (record { before = before; end = end; none = none }))
  where
    go : (is_skipped (words (line s)) ≡ true) ⊎ ((is_skipped (words (line s)) ≡ false) × (rule_fault before (words (line s)) ≡ None)) → IsShort (with_line before s)
    go (inl skipped) = subst (λ (t : Bool). IsShort (cond t before (before ++ words (line s) ∷ []))) (sym skipped) short
    go (inr h) =
        let shape = shape_none (length before) (words (line s)) (first_none _ _ h.1) in
        subst (λ (t : Bool). IsShort (cond t before (before ++ words (line s) ∷ []))) (sym h.0)
        (record {
          few = omega (arith, length-append before (words (line s) ∷ []), shape.2);
          short = All-push (λ ws. length ws ≤ 65) before (words (line s)) short.short shape.1;
        })
