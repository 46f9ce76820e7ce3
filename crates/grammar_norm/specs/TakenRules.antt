use Rattle.std.specs.Prelude.{◌≡◌, ◌⊎◌, ℕ, ◌<◌, ◌≤◌, true, false, List, [], ◌∷◌, ◌++◌, length, map, slice_get, Some, None}
use Rattle.graph_words.specs.declared.types.Rule.{Rule}
use Rattle.graph_words.specs.Text.{words, is_skipped, with_names}
use Rattle.faults.specs.declared.kinds.InputKind.{InputKind}
use Rattle.faults.specs.declared.kinds.InputKind.TheVariants.{TooManyLabels}
use Rattle.grammar_norm.specs.GrammarText.{shape_fault, labels}

-- the rule of a line is added, and its names
pub record AddsRule (ws : List (List ℕ)) (rules : List Rule) (names : List (List ℕ)) (rules' : List Rule) (names' : List (List ℕ)) : Type 0 where
  pub said : is_skipped ws ≡ false
  pub shape : shape_fault (length rules) ws ≡ None
  pub table : names' ≡ with_names names ws
  pub short : length names' ≤ 1000
  pub rule : Rule
  pub added : rules' ≡ rules ++ rule ∷ []
  pub numbers : map (λ l. slice_get names' l.0) (labels rule) ≡ map Some ws

-- what a line without a fault changes
abbrev pub TakesLine : List ℕ → List Rule → List (List ℕ) → List Rule → List (List ℕ) → Type 0
TakesLine line rules names rules' names' = ((is_skipped (words line) ≡ true) × (rules' ≡ rules) × (names' ≡ names))
    ⊎ AddsRule (words line) rules names rules' names'

-- the words of a line have this fault
abbrev pub RefusesLine : List ℕ → ℕ → List (List ℕ) → InputKind → Type 0
RefusesLine line rules names kind = (is_skipped (words line) ≡ false)
    × ((shape_fault rules (words line) ≡ Some kind)
    ⊎ ((shape_fault rules (words line) ≡ None) × (kind ≡ TooManyLabels)
    × (1000 < length (with_names names (words line)))))
