-- A set of numbers as a table that tells of each number whether it is there.
use Rattle.std.specs.Prelude.{◌≡◌, ◌⊎◌, ℕ, Bool, false, IsTrue, List, slice_index_or}

abbrev pub HasNumber : List Bool → ℕ → Type 0
HasNumber s v = IsTrue (slice_index_or s v false)

abbrev pub IsEmptySet : List Bool → Type 0
IsEmptySet s = (v : ℕ) → HasNumber s v → ⊥

-- v is there now too, and no other
pub record AddsNumber (before after : List Bool) (v : ℕ) : Type 0 where
  pub keeps : (w : ℕ) → HasNumber before w → HasNumber after w
  pub has : HasNumber after v
  pub only : (w : ℕ) → HasNumber after w → HasNumber before w ⊎ (w ≡ v)
