-- How many edges lead from each partition into each.
use Rattle.std.specs.Prelude.{◌≡◌, ℕ, ◌+◌, ◌*◌, ◌<◌, ◌==◌, ◌&&◌, List, ◌∷◌, ◌++◌, length, take, drop, slice_index_or, count_by}
use Rattle.graph_words.specs.declared.types.Born.{Born}
use Rattle.closing_machine.specs.State.{part, target}
use Rattle.closing_machine.specs.Machine.{high}
use Rattle.dest_map.specs.Table.{counts_of}

-- how many of the edges lead from partition i into partition j
abbrev pub count_of : List ℕ → List Born → ℕ → ℕ → ℕ
count_of ends edges i j = count_by (λ b. part ends b == i && target ends b == j) edges

-- the map tells the counts of the edges over the intervals with these ends
pub record IsCountsOf (ends : List ℕ) (edges : List Born) (map : ℕ × List ℕ) : Type 0 where
  pub size : map.0 ≡ length ends
  pub counts : (i j : ℕ) → i < length ends → j < length ends → counts_of map i j ≡ count_of ends edges i j

-- the ends where partition i is cut in two before the vertex at
abbrev pub cut_ends : List ℕ → ℕ → ℕ → List ℕ
cut_ends ends i at = take i ends ++ at ∷ drop i ends

-- row and column tell the edges of the low child into the other partitions and theirs into it, the corner those between the children
pub record AreShares (ends : List ℕ) (edges : List Born) (i at : ℕ) (row column corner : List ℕ) : Type 0 where
  pub there : i < length ends
  pub below : at < high ends i
  pub row_is : (j : ℕ) → j < length ends → (j ≡ i → ⊥)
      → slice_index_or row j 0 ≡ count_by (λ b. part (cut_ends ends i at) b == i && target ends b == j) edges
  pub column_is : (j : ℕ) → j < length ends → (j ≡ i → ⊥)
      → slice_index_or column j 0 ≡ count_by (λ b. part ends b == j && target (cut_ends ends i at) b == i) edges
  pub corner_is : (a b : ℕ) → a < 2 → b < 2 → slice_index_or corner (2 * a + b) 0 ≡ count_of (cut_ends ends i at) edges (i + a) (i + b)
