use Rattle.std.proofs.Common.{List, subst}
use Rattle.graph_words.specs.declared.types.LabelId.{LabelId}
use Rattle.normal_form.specs.Rows.{AddsLabels}
use Rattle.normal_form.proofs.AboveLemmas.{IsUpRow-added}
use Rattle.normal_form.proofs.above.up_row.Goals as goal

pub returns : goal.returns
returns c =
    IsUpRow-added c.args.rules.now c.args.label c.in_ok-found.found.items c.add_all.new.self c.in_ok-found.ensures
    (subst (λ (l : List LabelId). AddsLabels l c.add_all.new.self c.in_ok-found.found.items) c.new-row.ensures
    (subst (λ (l : List LabelId). AddsLabels c.new-row.result c.add_all.new.self l) c.deref.ensures.value c.in_ok-add_all.ensures))
