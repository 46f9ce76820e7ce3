use Rattle.std.proofs.Common.{◌≡◌, ℕ, List, length, arith, subst}
use Rattle.graph_words.specs.declared.types.LabelId.{LabelId}
use Rattle.normal_form.specs.Rows.{AddsLabels}
use Rattle.normal_form.specs.Empty.{HasFresh}
use Rattle.normal_form.proofs.EmptyLemmas.{HasFresh-start}
use Rattle.normal_form.proofs.empties.with_fresh.Goals as goal

pub loop-number-init : goal.loop-number-init
loop-number-init c =
    HasFresh-start c.args.found.now c.add_all.new.self c.args.fresh.now
    (subst (λ (l : List LabelId). AddsLabels l c.add_all.new.self c.args.found.now) c.new-row.ensures
    (subst (λ (l : List LabelId). AddsLabels c.new-row.result c.add_all.new.self l) c.as_slice.ensures.value c.in_ok-add_all.ensures))

pub returns : goal.returns
returns c =
    let all : c.loop-number.number ≡ length c.args.fresh.now = omega arith in
    subst (λ (n : ℕ). HasFresh c.args.found.now c.args.fresh.now n c.loop-number.row) all c.loop-number.invariant
