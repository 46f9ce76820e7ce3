use Rattle.std.proofs.Common.{take}
use Rattle.row_table.proofs.BlockLemmas.{GivesLabels}
use Rattle.row_table.proofs.blocks.add_run.Given as goal

abbrev pub invariant-loop-joined : goal.invariant-loop-joined
invariant-loop-joined l = GivesLabels l.initial.blocks.items l.blocks.items (take l.joined-index l.joined-items) l.run
