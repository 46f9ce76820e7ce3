use Rattle.std.specs.Prelude.{◌≡◌, ◌↔◌, ◌⊎◌, List, [], ◌∷◌, ◌++◌, All, Contains}
use Rattle.graph_words.specs.declared.types.LabelId.{LabelId}
use Rattle.graph_words.specs.declared.types.Rule.{Rule}
use Rattle.graph_words.specs.Reach.{rule}
use Rattle.normal_law.specs.Closure.{IsUp}

-- the rule's left side is there after, where the label stands alone on its right
pub record AddsLeft (r : Rule) (label : LabelId) (before after : List LabelId) : Type 0 where
  pub cases : (after ≡ before) ⊎ ((after ≡ before ++ r.left ∷ []) × (r.right ≡ label ∷ []))
  pub has : r.right ≡ label ∷ [] → Contains after r.left

-- the left side of each rule on whose right the label stands alone is there after, and nothing else came
pub record AddsAbove (rules : List Rule) (label : LabelId) (before after : List LabelId) : Type 0 where
  pub added : List LabelId
  pub at_end : after ≡ before ++ added
  pub each : All (λ a. Contains rules (rule a (label ∷ []))) added
  pub has : (a : LabelId) → Contains rules (rule a (label ∷ [])) → Contains after a

-- the labels are those above one by rules with one label on the right
abbrev pub IsUpRow : List Rule → LabelId → List LabelId → Type 0
IsUpRow rules label row = (a : LabelId) → Contains row a ↔ IsUp rules label a
