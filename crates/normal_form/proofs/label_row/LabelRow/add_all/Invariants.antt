use Rattle.std.proofs.Common.{take}
use Rattle.normal_form.specs.Rows.{AddsLabels}
use Rattle.normal_form.proofs.label_row.LabelRow.add_all.Given as goal

abbrev pub invariant-loop-label : goal.invariant-loop-label
invariant-loop-label l = AddsLabels l.fn.self l.self (take l.label-index l.labels)
