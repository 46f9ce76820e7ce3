use Rattle.normal_form.proofs.ApartLemmas.{IsListed}
use Rattle.normal_form.proofs.apart.normal_lists.Given as goal

abbrev pub invariant-loop-rule : goal.invariant-loop-rule
invariant-loop-rule l = IsListed l.rules l.rule-index l.pairs.items l.fresh.items
