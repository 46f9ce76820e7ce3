use Rattle.std.proofs.Common.{arith}
use Rattle.normal_form.proofs.ApartLemmas.{IsApart-few, IsApart-fresh}
use Rattle.normal_form.proofs.apart.take_apart.Goals as goal

pub returns-else-rest-eq2-clause-pairs : goal.returns-else-rest-eq2-clause-pairs
returns-else-rest-eq2-clause-pairs c = IsApart-few _ _ _ _ _ _ c.loop-rest.left c.loop-rest.rest.now c.loop-rest.invariant (omega arith)

pub returns-else-rest-eq2-clause-fresh : goal.returns-else-rest-eq2-clause-fresh
returns-else-rest-eq2-clause-fresh c = IsApart-fresh _ _ _ _ _ _ c.loop-rest.left c.loop-rest.rest.now c.loop-rest.invariant (omega arith)
