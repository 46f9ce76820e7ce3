use Rattle.normal_law.specs.NormalForm.{normal_form}
use Rattle.std.proofs.Common.{refl}
use Rattle.row_table.proofs.BlockLemmas.{labels_more, labels_all}
use Rattle.row_table.proofs.blocks.add_run.Goals as goal

pub loop-joined-preserved : goal.loop-joined-preserved
loop-joined-preserved c =
    rw c.in_ok-push.ensures.items (labels_more c.args.blocks.now.items c.loop-joined.blocks.items c.pair-joined-items.result.now c.loop-joined.joined-index _ _ c.loop-joined-test.true refl c.args.run.now refl c.loop-joined.invariant)

pub returns : goal.returns
returns c =
    labels_all (normal_form c.args.normal.now) c.args.first c.args.label c.args.blocks.now.items c.loop-joined.blocks.items c.pair-joined-items.result.now c.args.run.now c.pair-joined-items.ensures.each c.requires c.loop-joined.joined-index c.loop-joined-test.false c.loop-joined.invariant
