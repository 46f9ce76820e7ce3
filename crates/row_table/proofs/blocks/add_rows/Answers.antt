use Rattle.std.proofs.Common.{◌<◌, arith}
use Rattle.std.proofs.lemmas.List.{take_all}
use Rattle.normal_law.specs.NormalForm.{normal_form}
use Rattle.row_table.proofs.BlockLemmas.{firsts_run}
use Rattle.row_table.proofs.blocks.add_rows.Goals as goal

pub add_firsts_if-requires-clause-labels : goal.add_firsts_if-requires-clause-labels
add_firsts_if-requires-clause-labels c = rw c.deref.ensures.value c.in_ok-set_labels.ensures

pub loop-start-preserved : goal.loop-start-preserved
loop-start-preserved c =
    let lt : c.loop-start.start < c.run_end-end.result = c.run_end-end.ensures.some in
    (c.run_end-end.ensures.within, firsts_run (normal_form c.args.seconds.now.normal.now) c.args.seconds.now.every c.args.seconds.now.since c.args.firsts.now c.args.seconds.now.rows.now.edges c.loop-start.start c.run_end-end.result c.args.blocks.now.items c.loop-start.blocks.items _ (omega arith) c.loop-start.invariant.1 (rw c.part.ensures at c.in_ok-add_firsts_if.ensures))

pub returns : goal.returns
returns c = rw (take_all c.loop-start.start c.args.firsts.now c.loop-start-test.false) at c.loop-start.invariant.1
