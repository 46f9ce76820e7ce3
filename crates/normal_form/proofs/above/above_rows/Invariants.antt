use Rattle.normal_form.proofs.NormalLemmas.{IsStacking}
use Rattle.normal_form.proofs.above.above_rows.Given as goal

abbrev pub invariant-loop-number : goal.invariant-loop-number
invariant-loop-number l = IsStacking l.rules l.number l.rows.items
