use Rattle.std.proofs.Common.{◌-◌, length, []}
use Rattle.normal_law.specs.NormalForm.{normal_form}
use Rattle.row_table.proofs.SourceLemmas.{Walk}
use Rattle.row_table.proofs.ThroughLemmas.{AddsBetween}
use Rattle.row_table.proofs.centre_joins.set_source_blocks.Given as goal

abbrev pub invariant-loop-place : goal.invariant-loop-place
invariant-loop-place l =
    Walk l.centre.rows.now.edges l.centre.vertex l.fn.place l.place × AddsBetween (normal_form l.centre.normal.now) l.centre.since l.centre.vertex l.centre.row.now l.centre.newer.now l.centre.rows.now.edges l.fn.place l.place [] l.blocks.items

abbrev pub decreases-loop-place : goal.decreases-loop-place
decreases-loop-place l = length l.centre.rows.now.edges - l.place
