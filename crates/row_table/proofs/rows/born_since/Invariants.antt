use Rattle.std.proofs.Common.{◌≡◌, take}
use Rattle.row_table.specs.Loaded.{newer_edges}
use Rattle.row_table.proofs.rows.born_since.Given as goal

abbrev pub invariant-loop-born : goal.invariant-loop-born
invariant-loop-born l = l.newer.items ≡ newer_edges l.since (take l.born-index l.edges)
