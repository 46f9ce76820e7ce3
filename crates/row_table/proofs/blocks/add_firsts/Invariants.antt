use Rattle.std.proofs.Common.{take}
use Rattle.normal_law.specs.NormalForm.{normal_form}
use Rattle.row_table.specs.Joined.{AddsRows}
use Rattle.row_table.proofs.blocks.add_firsts.Given as goal

abbrev pub invariant-loop-born : goal.invariant-loop-born
invariant-loop-born l = AddsRows (normal_form l.seconds.normal.now) l.seconds.every l.seconds.since (take l.born-index l.firsts) l.seconds.rows.now.edges l.initial.blocks.items l.blocks.items
