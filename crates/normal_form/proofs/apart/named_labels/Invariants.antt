use Rattle.normal_form.proofs.NormalLemmas.{IsCounting}
use Rattle.normal_form.proofs.apart.named_labels.Given as goal

abbrev pub invariant-loop-number : goal.invariant-loop-number
invariant-loop-number l = IsCounting l.number l.named.items
