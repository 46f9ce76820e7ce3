use Rattle.store_law.proofs.Fresh.{one_fresh}
use Rattle.store_law.proofs.fresh_stores_are_alike.Goals as goal

pub returns : goal.returns
returns c = one_fresh
