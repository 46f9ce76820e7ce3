use Rattle.std.proofs.lemmas.List.{take_all}
use Rattle.row_table.proofs.BlockLemmas.{no_labels, one_label_more}
use Rattle.row_table.proofs.blocks.mark_labels.Goals as goal

pub loop-born-init : goal.loop-born-init
loop-born-init c = no_labels c.args.labels.now

pub loop-born-preserved : goal.loop-born-preserved
loop-born-preserved c = one_label_more c.args.edges.now c.loop-born.born-index _ c.loop-born-test.true c.loop-born.labels _ c.loop-born.invariant (rw c.from.ensures at c.in_ok-add.ensures.added)

pub returns : goal.returns
returns c = rw (take_all c.loop-born.born-index c.args.edges.now c.loop-born-test.false) at c.loop-born.invariant
