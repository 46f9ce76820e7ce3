use Rattle.normal_form.proofs.RowLemmas.{is_at_place}
use Rattle.normal_form.proofs.label_row.is_at.Goals as goal

pub returns-then-place-labels : goal.returns-then-place-labels
returns-then-place-labels c = is_at_place c.args.labels.now c.args.label c.args.place _ c.eq.result c.requires.ascending c.requires.place c.if-place-labels.true c.eq.ensures
