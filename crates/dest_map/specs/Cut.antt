-- The counts after a cut, as the code hands the cut on.
use Rattle.std.specs.Prelude.{ℕ}
use Rattle.dest_map.specs.declared.map.Cut.{Cut}
use Rattle.dest_map.specs.Table.{split_count}

-- each count after this cut, from those before it
abbrev pub after_cut : Cut → (ℕ → ℕ → ℕ) → ℕ → ℕ → ℕ
after_cut cut counts = split_count cut.i cut.low_row.now cut.low_column.now cut.corner counts
