use Rattle.std.proofs.Common.{◌≤◌, ◌-◌, length, take}
use Rattle.normal_law.specs.NormalForm.{normal_form}
use Rattle.row_table.specs.Joined.{AddsRows}
use Rattle.row_table.proofs.blocks.add_rows.Given as goal

abbrev pub invariant-loop-start : goal.invariant-loop-start
invariant-loop-start l = (l.start ≤ length l.firsts) × AddsRows (normal_form l.seconds.normal.now) l.seconds.every l.seconds.since (take l.start l.firsts) l.seconds.rows.now.edges l.initial.blocks.items l.blocks.items

abbrev pub decreases-loop-start : goal.decreases-loop-start
decreases-loop-start l = length l.firsts - l.start
