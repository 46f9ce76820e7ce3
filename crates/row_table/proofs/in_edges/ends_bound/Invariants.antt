use Rattle.std.proofs.Common.{◌<◌, take}
use Rattle.std.specs.Prelude.{All}
use Rattle.row_table.proofs.in_edges.ends_bound.Given as goal

abbrev pub invariant-loop-born : goal.invariant-loop-born
invariant-loop-born l = All (λ b. b.edge.dst.0 < l.bound) (take l.born-index l.edges)
