use Rattle.std.proofs.Common.{take}
use Rattle.row_table.specs.Joined.{HasLabels}
use Rattle.row_table.proofs.blocks.mark_labels.Given as goal

abbrev pub invariant-loop-born : goal.invariant-loop-born
invariant-loop-born l = HasLabels (take l.born-index l.edges) l.labels
