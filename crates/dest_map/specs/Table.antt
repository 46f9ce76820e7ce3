-- Square tables of numbers, kept row after row.
use Rattle.std.specs.Prelude.{◌≡◌, ℕ, suc, ◌+◌, ◌-◌, ◌*◌, ◌<◌, ◌≤◌, ◌==◌, ◌||◌, ◌⊎◌, nat_lt, Bool, List, length, slice_index_or, if◌then◌else◌}
use Rattle.closing_machine.specs.Machine.{parent}

-- the number in row i and column j, and 0 where the table has no such place
abbrev pub entry : ℕ → List ℕ → ℕ → ℕ → ℕ
entry size xs i j = if nat_lt j size then slice_index_or xs (i * size + j) 0 else 0

-- the counts that a map tells
abbrev pub counts_of : ℕ × List ℕ → ℕ → ℕ → ℕ
counts_of m i j = entry m.0 m.1 i j

-- the place (a, b) stands before (i, j), row after row
abbrev pub Comes : ℕ → ℕ → ℕ → ℕ → Type 0
Comes a b i j = (a < i) ⊎ ((a ≡ i) × (b < j))

-- the table of the numbers f is filled up to before (i, j)
pub record IsFilled (f : ℕ → ℕ → ℕ) (size i j : ℕ) (xs : List ℕ) : Type 0 where
  pub long : length xs ≡ i * size + j
  pub filled : (a b : ℕ) → b < size → Comes a b i j → slice_index_or xs (a * size + b) 0 ≡ f a b

-- whether a is one of the two children of partition i
abbrev pub is_child : ℕ → ℕ → Bool
is_child i a = a == i || a == suc i

-- of a whole, the low child of partition i has its part, and the high child has the rest
abbrev pub share : ℕ → ℕ → ℕ → ℕ → ℕ
share i a low whole = if a == i then low else whole - low

-- the counts after partition i is cut in two. Between the two children the corner tells them; from a child or into one
-- they are its share of its parent's; all others stay, under the partitions' new numbers
abbrev pub split_count : ℕ → List ℕ → List ℕ → List ℕ → (ℕ → ℕ → ℕ) → ℕ → ℕ → ℕ
split_count i row column corner old a b =
    if is_child i a
    then (if is_child i b then slice_index_or corner (2 * (a - i) + (b - i)) 0
    else share i a (slice_index_or row (parent i b) 0) (old i (parent i b)))
    else (if is_child i b then share i b (slice_index_or column (parent i a) 0) (old (parent i a) i) else old (parent i a) (parent i b))

-- the low child's row and column have a number for each partition, and but for partition i none exceeds its parent's count
pub record IsPartOf (old : ℕ → ℕ → ℕ) (size i : ℕ) (row column : List ℕ) : Type 0 where
  pub row_long : length row ≡ size
  pub column_long : length column ≡ size
  pub row_within : (j : ℕ) → j < size → (j ≡ i → ⊥) → slice_index_or row j 0 ≤ old i j
  pub column_within : (j : ℕ) → j < size → (j ≡ i → ⊥) → slice_index_or column j 0 ≤ old j i
