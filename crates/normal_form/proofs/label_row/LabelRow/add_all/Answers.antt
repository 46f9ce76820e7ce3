use Rattle.normal_form.proofs.RowLemmas.{AddsLabels-step}
use Rattle.normal_form.proofs.label_row.LabelRow.add_all.Goals as goal

pub loop-label-preserved : goal.loop-label-preserved
loop-label-preserved c = AddsLabels-step c.args.self.now c.loop-label.self c.add.new.self c.args.labels.now c.loop-label.label-index _ c.loop-label-test.true c.loop-label.invariant c.in_ok-add.ensures.ok
