use Rattle.store_law.proofs.Keeping.{fresh_beside, fresh_holds, fresh_switched, imported_store}
use Rattle.store_law.proofs.imported_is_a_store.Goals as goal

pub returns-clause-rest : goal.returns-clause-rest
returns-clause-rest c = fresh_holds

pub returns-clause-switched : goal.returns-clause-switched
returns-clause-switched c = fresh_switched

pub returns-clause-store : goal.returns-clause-store
returns-clause-store c = imported_store

pub returns-clause-beside : goal.returns-clause-beside
returns-clause-beside c = λ t limit seen d m parts. fresh_beside t seen d m parts limit
