use Rattle.normal_law.specs.NormalForm.{normal_form}
use Rattle.row_table.proofs.BlockLemmas.{firsts_idle, is_nil}
use Rattle.row_table.proofs.blocks.add_firsts_if.Goals as goal

pub returns-then-is_empty : goal.returns-then-is_empty
returns-then-is_empty c =
    firsts_idle (normal_form c.args.seconds.now.normal.now) c.args.seconds.now.every c.args.seconds.now.since c.args.firsts.now c.args.seconds.now.rows.now.edges c.args.label c.args.labels.now c.args.blocks.now.items c.requires.run c.requires.labels (is_nil c.is_empty.result c.args.labels.now c.is_empty.ensures c.if-is_empty.true)
