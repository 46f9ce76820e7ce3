use Rattle.store_law.proofs.Keeping.{keeps_left, made_store, stays_left, stays_store, switch_left}
use Rattle.store_law.proofs.a_switch_leaves_a_store.Goals as goal

pub returns-clause-kept : goal.returns-clause-kept
returns-clause-kept c = stays_store

pub returns-clause-closed : goal.returns-clause-closed
returns-clause-closed c = keeps_left

pub returns-clause-stays : goal.returns-clause-stays
returns-clause-stays c = stays_left

pub returns-clause-made : goal.returns-clause-made
returns-clause-made c = made_store

pub returns-clause-step : goal.returns-clause-step
returns-clause-step c = switch_left
