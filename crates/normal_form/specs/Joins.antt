use Rattle.std.specs.Prelude.{◌≡◌, ◌↔◌, ◌⊎◌, List, [], length, slice_index_or, Contains}
use Rattle.graph_words.specs.declared.types.LabelId.{LabelId}
use Rattle.graph_words.specs.declared.types.PairRule.{PairRule}
use Rattle.normal_form.specs.declared.joins.Join.{Join}

-- the second label of a join
abbrev pub second_of : Join → LabelId
second_of j = j.second

-- the row has the label for this second label
abbrev pub HasJoin : List Join → LabelId → LabelId → Type 0
HasJoin row second a = (j : Join) × Contains row j × (j.second ≡ second) × Contains j.labels a

-- the row has these labels for this second label too, and else what it had
pub record AddsJoins (before after : List Join) (second : LabelId) (labels : List LabelId) : Type 0 where
  pub keeps : (s a : LabelId) → HasJoin before s a → HasJoin after s a
  pub has : (a : LabelId) → Contains labels a → HasJoin after second a
  pub only : (s a : LabelId) → HasJoin after s a → HasJoin before s a ⊎ ((s ≡ second) × Contains labels a)

-- the row of the first label has the label for this second label
abbrev pub HasJoinAt : List (List Join) → LabelId → LabelId → LabelId → Type 0
HasJoinAt table first second a = HasJoin (slice_index_or table first.0 []) second a

-- the table has these labels for the two labels too, and else what it had
pub record AddsAt (before after : List (List Join)) (first second : LabelId) (labels : List LabelId) : Type 0 where
  pub rows : length after ≡ length before
  pub keeps : (b c a : LabelId) → HasJoinAt before b c a → HasJoinAt after b c a
  pub has : (a : LabelId) → Contains labels a → HasJoinAt after first second a
  pub only : (b c a : LabelId) → HasJoinAt after b c a → HasJoinAt before b c a ⊎ ((b ≡ first) × (c ≡ second) × Contains labels a)

-- some rule of two labels on the right has these two there, and the label above its left side
abbrev pub IsJoined : List PairRule → List (List LabelId) → LabelId → LabelId → LabelId → Type 0
IsJoined pairs above b c a = (p : PairRule) × Contains pairs p × (p.first ≡ b) × (p.second ≡ c) × Contains (slice_index_or above p.left.0 []) a

-- the table has the labels of each join, and no others
abbrev pub IsJoinTable : List PairRule → List (List LabelId) → List (List Join) → Type 0
IsJoinTable pairs above table = (b c a : LabelId) → HasJoinAt table b c a ↔ IsJoined pairs above b c a
