use Rattle.closer.proofs.LawLemmas.{store_after}
use Rattle.closer.proofs.laws.steps_keep_a_store.Goals as goal

pub returns : goal.returns
returns c = store_after
