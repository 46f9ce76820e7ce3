use Rattle.normal_form.specs.Empty.{HasFresh}
use Rattle.normal_form.proofs.empties.with_fresh.Given as goal

abbrev pub invariant-loop-number : goal.invariant-loop-number
invariant-loop-number l = HasFresh l.found l.fresh l.number l.row
