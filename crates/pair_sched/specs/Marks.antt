-- The marks of the pairs of partitions and the newest births, as contracts see them.
use Rattle.std.specs.Prelude.{ℕ, suc, ◌==◌, List, slice_index_or, if◌then◌else◌}
use Rattle.closing_machine.specs.Machine.{parent}
use Rattle.dest_map.specs.Table.{entry}

-- the birth below which the edges of partitions i and j are joined with one another
abbrev pub joined_of : ℕ × List ℕ × List ℕ → ℕ → ℕ → ℕ
joined_of m i j = entry m.0 m.1 i j

-- the greatest birth in partition i
abbrev pub newest_of : ℕ × List ℕ × List ℕ → ℕ → ℕ
newest_of m i = slice_index_or m.2 i 0

-- the newest births after partition i is cut in two: the children have their own, and all others stay, under the partitions' new numbers
abbrev pub split_newest : ℕ → ℕ → ℕ → (ℕ → ℕ) → ℕ → ℕ
split_newest i low high old a = if a == i then low else (if a == suc i then high else old (parent i a))
