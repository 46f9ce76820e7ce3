use Rattle.std.proofs.Common.{List, subst}
use Rattle.graph_words.specs.declared.types.LabelId.{LabelId}
use Rattle.normal_form.specs.Rows.{AddsLabel}
use Rattle.normal_form.proofs.NormalLemmas.{IsUpRow-fresh}
use Rattle.normal_form.proofs.above.row_of.Goals as goal

pub returns : goal.returns
returns c =
    IsUpRow-fresh c.args.rules.now c.args.label c.add.new.self c.requires c.if-label-lt-FIRST_FRESH.false
    (subst (λ (l : List LabelId). AddsLabel l c.add.new.self c.args.label) c.new-row.ensures c.in_ok-add.ensures.ok)
