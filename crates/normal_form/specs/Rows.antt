use Rattle.std.specs.Prelude.{◌≡◌, ℕ, ◌+◌, ◌<◌, ◌≤◌, ◌⊎◌, List, length, slice_index_or, AllPairs, Contains}
use Rattle.graph_words.specs.declared.types.LabelId.{LabelId}

-- the labels ascend by number, so none stands twice
abbrev pub AreLabelsAscending : List LabelId → Type 0
AreLabelsAscending labels = AllPairs (λ a b. a.0 < b.0) labels

-- the place parts the labels: those before it are below the label, and the others are not
pub record PartsLabelsAt (labels : List LabelId) (label : LabelId) (place : ℕ) : Type 0 where
  pub within : place ≤ length labels
  pub below : (k : ℕ) (d : LabelId) → k < place → (slice_index_or labels k d).0 < label.0
  pub others : (k : ℕ) (d : LabelId) → place ≤ k → k < length labels → label.0 ≤ (slice_index_or labels k d).0

-- the list has one more label, unless it was there
pub record AddsLabel (before after : List LabelId) (label : LabelId) : Type 0 where
  pub keeps : (x : LabelId) → Contains before x → Contains after x
  pub has : Contains after label
  pub only : (x : LabelId) → Contains after x → Contains before x ⊎ (x ≡ label)
  pub grows : Contains before label ⊎ (length after ≡ length before + 1)

-- the list has these labels too
pub record AddsLabels (before after labels : List LabelId) : Type 0 where
  pub keeps : (x : LabelId) → Contains before x → Contains after x
  pub has : (x : LabelId) → Contains labels x → Contains after x
  pub only : (x : LabelId) → Contains after x → Contains before x ⊎ Contains labels x
