use Rattle.std.specs.Prelude.{◌≡◌, ◌↔◌, ◌⊎◌, ℕ, ◌<◌, List, [], ◌∷◌, slice_index_or, All, Contains}
use Rattle.graph_words.specs.declared.types.LabelId.{LabelId}
use Rattle.graph_words.specs.declared.types.Rule.{Rule}
use Rattle.graph_words.specs.Reach.{Yields}
use Rattle.normal_law.specs.NormalForm.{fresh_label}

-- the label derives the empty word
abbrev pub DerivesEmpty : List Rule → LabelId → Type 0
DerivesEmpty rules a = (k : ℕ) × Yields rules k (a ∷ []) []

-- a rule whose right side is found throughout has its left side found
abbrev pub HasLeft : List LabelId → Rule → Type 0
HasLeft found r = All (Contains found) r.right → Contains found r.left

-- the rule's right side is found throughout, and its left side is not found
abbrev pub IsDue : List LabelId → Rule → Type 0
IsDue found r = All (Contains found) r.right × (Contains found r.left → ⊥)

-- a label that some rule adds to those found
pub record IsNewEmpty (rules : List Rule) (found : List LabelId) (a : LabelId) : Type 0 where
  pub by : Rule
  pub has : Contains rules by
  pub left : by.left ≡ a
  pub due : IsDue found by

-- one of the first n fresh labels, whose word has only the found labels
abbrev pub IsFreshAmong : List LabelId → List (List LabelId) → ℕ → LabelId → Type 0
IsFreshAmong found words n a = (k : ℕ) × (k < n) × (a ≡ fresh_label k) × All (Contains found) (slice_index_or words k [])

-- the found labels, and the fresh ones among the first n whose words have only these
abbrev pub HasFresh : List LabelId → List (List LabelId) → ℕ → List LabelId → Type 0
HasFresh found words n row = (a : LabelId) → Contains row a ↔ (Contains found a ⊎ IsFreshAmong found words n a)
