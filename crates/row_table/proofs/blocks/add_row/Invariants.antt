use Rattle.std.proofs.Common.{take}
use Rattle.normal_law.specs.NormalForm.{normal_form}
use Rattle.row_table.proofs.BlockLemmas.{AddsSome}
use Rattle.row_table.proofs.blocks.add_row.Given as goal

abbrev pub invariant-loop-label : goal.invariant-loop-label
invariant-loop-label l = AddsSome (normal_form l.normal) l.first l.row (take l.label-index l.labels) l.initial.blocks.items l.blocks.items
