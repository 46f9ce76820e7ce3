use Rattle.std.proofs.Common.{◌<◌, ◌≤◌}
use Rattle.normal_law.specs.NormalForm.{normal_form}
use Rattle.row_table.specs.Joined.{AppendsJoins, IsJoinOf}
use Rattle.row_table.proofs.round.join_span.Given as goal

abbrev pub invariant-loop-vertex : goal.invariant-loop-vertex
invariant-loop-vertex l = AppendsJoins l.snapshot.rows.now.edges (IsJoinOf (normal_form l.snapshot.normal.now) l.snapshot.rows.now.edges l.snapshot.since) (λ v. (l.fn.span.lo ≤ v) × (v < l.vertex)) l.initial.out.items l.out.items
