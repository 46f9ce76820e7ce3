use Rattle.std.proofs.Common.{List, length, ap, arith, sym, subst}
use Rattle.graph_words.specs.declared.types.LabelId.{LabelId}
use Rattle.normal_form.specs.Rows.{AreLabelsAscending, PartsLabelsAt, AddsLabel}
use Rattle.std.specs.Prelude.{Contains}
use Rattle.normal_form.proofs.RowLemmas.{insert_ascends, AddsLabel-insert, not_from_false}
use Rattle.normal_form.proofs.label_row.LabelRow.add.Goals as goal

pub invariant_of-self-2 : goal.invariant_of-self-2
invariant_of-self-2 c =
    let items = c.self.inside.labels.items in
    let place = c.place_of-place.result in
    let parts = subst (λ (l : List LabelId). PartsLabelsAt l c.args.label place) c.as_slice.ensures c.place_of-place.ensures in
    let none = λ (m : Contains items c.args.label). not_from_false (Contains c.as_slice-2.result.now c.args.label) c.is_at.result c.is_at.ensures c.if-is_at.false (subst (λ (l : List LabelId). Contains l c.args.label) (sym c.as_slice-2.ensures) m) in
    subst AreLabelsAscending (sym c.in_ok-insert.ensures.ok) (insert_ascends items c.args.label place parts c.self.invariant none)

pub returns-clause-ok : goal.returns-clause-ok
returns-clause-ok c =
    subst (λ (l : List LabelId). AddsLabel l c.insert.new.self.items c.args.label) c.self.view_is
    (subst (λ (l : List LabelId). AddsLabel c.self.inside.labels.items l c.args.label) (sym c.in_ok-insert.ensures.ok) (AddsLabel-insert c.self.inside.labels.items c.args.label c.place_of-place.result (let w = c.place_of-place.ensures.within in omega (arith, ap length c.as_slice.ensures))))
