use Rattle.std.proofs.Common.{subst}
use Rattle.graph_words.specs.declared.types.LabelId.{LabelId}
use Rattle.normal_law.specs.Closed.{Joins}
use Rattle.normal_law.specs.NormalForm.{normal_form}
use Rattle.std.proofs.lemmas.List.{take_all}
use Rattle.row_table.proofs.BlockLemmas.{firsts_more}
use Rattle.row_table.proofs.blocks.add_firsts.Goals as goal

pub add_first-requires : goal.add_first-requires
add_first-requires c = λ s a m j. c.requires.labels s a m (subst (λ (l : LabelId). Joins (normal_form c.args.seconds.now.normal.now) l s.edge.label a) (c.requires.run c.loop-born.born-index _ c.loop-born-test.true) j)

pub loop-born-preserved : goal.loop-born-preserved
loop-born-preserved c = firsts_more (normal_form c.args.seconds.now.normal.now) c.args.seconds.now.every c.args.seconds.now.since c.args.firsts.now c.args.seconds.now.rows.now.edges c.loop-born.born-index _ c.args.blocks.now.items c.loop-born.blocks.items _ c.loop-born-test.true c.loop-born.invariant c.in_ok-add_first.ensures

pub returns : goal.returns
returns c = rw (take_all c.loop-born.born-index c.args.firsts.now c.loop-born-test.false) at c.loop-born.invariant
