use Rattle.closer.proofs.LawLemmas.{left_further, retains_store}
use Rattle.closer.proofs.laws.stops_leave_a_store.Goals as goal

pub returns : goal.returns
returns c = record { kept = retains_store; further = left_further }
