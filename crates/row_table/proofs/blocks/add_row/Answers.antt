use Rattle.normal_law.specs.NormalForm.{normal_form}
use Rattle.row_table.proofs.BlockLemmas.{some_none, some_more, some_all}
use Rattle.row_table.proofs.blocks.add_row.Goals as goal

pub loop-label-init : goal.loop-label-init
loop-label-init c = some_none (normal_form c.args.normal.now) c.args.first c.args.row.now c.args.blocks.now.items

pub loop-label-preserved : goal.loop-label-preserved
loop-label-preserved c =
    some_more (normal_form c.args.normal.now) c.args.first c.args.row.now c.args.labels.now c.loop-label.label-index _ c.args.blocks.now.items c.loop-label.blocks.items _ c.loop-label-test.true c.loop-label.invariant c.in_ok-add_second.ensures

pub returns : goal.returns
returns c =
    some_all (normal_form c.args.normal.now) c.args.first c.args.row.now c.args.labels.now c.loop-label.label-index c.args.blocks.now.items c.loop-label.blocks.items c.requires.labels c.loop-label-test.false c.loop-label.invariant
