use Rattle.std.proofs.Common.{◌<◌, ◌≤◌}
use Rattle.row_table.specs.Joined.{AppendsCentres}
use Rattle.row_table.proofs.centres.add_centres.Given as goal

abbrev pub invariant-loop-vertex : goal.invariant-loop-vertex
invariant-loop-vertex l = AppendsCentres l.rows.edges (λ v. (l.fn.span.lo ≤ v) × (v < l.vertex)) l.initial.centres.items l.centres.items
