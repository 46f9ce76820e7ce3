use Rattle.std.proofs.Common.{◌-◌, length, []}
use Rattle.normal_law.specs.NormalForm.{normal_form}
use Rattle.closing_machine.specs.Rounds.{IsCandidate}
use Rattle.row_table.specs.Chains.{AtSource, BeginsBehind}
use Rattle.row_table.specs.Joined.{AppendsJoins}
use Rattle.row_table.proofs.centre_joins.join_sources.Given as goal

abbrev pub invariant-loop-place : goal.invariant-loop-place
invariant-loop-place l =
    AtSource l.centre.rows.now.edges l.centre.vertex l.place × AppendsJoins l.centre.rows.now.edges (IsCandidate (normal_form l.centre.normal.now) l.centre.rows.now.edges l.centre.since l.centre.vertex) (BeginsBehind l.centre.rows.now.edges l.place) [] l.out.items

abbrev pub decreases-loop-place : goal.decreases-loop-place
decreases-loop-place l = length l.centre.rows.now.edges - l.place
