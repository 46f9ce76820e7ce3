use Rattle.store_law.proofs.Exact.{exact_store}
use Rattle.store_law.proofs.finished_stores_are_exact.Goals as goal

pub returns : goal.returns
returns c = exact_store
