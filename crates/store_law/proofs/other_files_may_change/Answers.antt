use Rattle.store_law.proofs.Keeping.{free_blank, free_file, free_left, free_store, same_current}
use Rattle.store_law.proofs.other_files_may_change.Goals as goal

pub returns-clause-store : goal.returns-clause-store
returns-clause-store c = free_store

pub returns-clause-rest : goal.returns-clause-rest
returns-clause-rest c = free_file

pub returns-clause-current : goal.returns-clause-current
returns-clause-current c = same_current

pub returns-clause-blank : goal.returns-clause-blank
returns-clause-blank c = free_blank

pub returns-clause-left : goal.returns-clause-left
returns-clause-left c = free_left
