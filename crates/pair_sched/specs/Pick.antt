-- The choice of a pair with work left, as far as a walk over the pairs has come.
use Rattle.std.specs.Prelude.{◌≡◌, ℕ, ◌<◌, ◌⊎◌}
use Rattle.std.specs.Prelude.{Option, None, Some}
use Rattle.closing_machine.specs.State.{IsDirtyBy, GoesBefore}
use Rattle.dest_map.specs.Table.{Comes}

-- of the pairs below size that have work left, it is the first one, row after row
pub record IsLeastDirty (counts joined : ℕ → ℕ → ℕ) (newest_in : ℕ → ℕ) (size i j : ℕ) : Type 0 where
  pub first_below : i < size
  pub second_below : j < size
  pub dirty : IsDirtyBy counts joined newest_in i j
  pub first : (a b : ℕ) → a < size → b < size → IsDirtyBy counts joined newest_in a b → ((i ≡ a) × (j ≡ b)) ⊎ Comes i j a b

-- no pair below size has work left
abbrev pub IsClean : (ℕ → ℕ → ℕ) → (ℕ → ℕ → ℕ) → (ℕ → ℕ) → ℕ → Type 0
IsClean counts joined newest_in size = (i j : ℕ) → i < size → j < size → IsDirtyBy counts joined newest_in i j → ⊥

-- no pair before (i, j) has work left
abbrev pub IsCleanBefore : (ℕ → ℕ → ℕ) → (ℕ → ℕ → ℕ) → (ℕ → ℕ) → ℕ → ℕ → ℕ → Type 0
IsCleanBefore counts joined newest_in size i j = (a b : ℕ) → a < size → b < size → Comes a b i j → IsDirtyBy counts joined newest_in a b → ⊥

-- p is the pick among the pairs before (i, j)
pub record IsBestPair (counts joined : ℕ → ℕ → ℕ) (newest_in : ℕ → ℕ) (size i j : ℕ) (p : ℕ × ℕ) : Type 0 where
  pub first_below : p.0 < size
  pub second_below : p.1 < size
  pub dirty : IsDirtyBy counts joined newest_in p.0 p.1
  pub comes : Comes p.0 p.1 i j
  pub first : (a b : ℕ) → a < size → b < size → Comes a b i j → IsDirtyBy counts joined newest_in a b
      → ((p.0 ≡ a) × (p.1 ≡ b)) ⊎ GoesBefore counts p.0 p.1 a b

-- or none of them has work left
abbrev pub IsBest : (ℕ → ℕ → ℕ) → (ℕ → ℕ → ℕ) → (ℕ → ℕ) → ℕ → ℕ → ℕ → Option (ℕ × ℕ) → Type 0
IsBest counts joined newest_in size i j None = IsCleanBefore counts joined newest_in size i j
IsBest counts joined newest_in size i j (Some p) = IsBestPair counts joined newest_in size i j p
