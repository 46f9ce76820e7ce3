use Rattle.normal_form.proofs.AboveLemmas.{IsRaising}
use Rattle.normal_form.proofs.above.add_above.Given as goal

abbrev pub invariant-loop-rule : goal.invariant-loop-rule
invariant-loop-rule l = IsRaising l.rules l.rule-index l.label l.fn.found.items l.found.items
