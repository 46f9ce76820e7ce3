use Rattle.std.proofs.Common.{◌≡◌, ◌<◌, ℕ, slice_index_or}
use Rattle.dest_map.specs.Table.{counts_of}
use Rattle.open_store.proofs.store.Store.tells.Given as goal

abbrev pub invariant-loop-j : goal.invariant-loop-j
invariant-loop-j l = (k : ℕ) → k < l.j → counts_of l.self.manifest.map l.i k ≡ slice_index_or l.tally.row.items k 0
