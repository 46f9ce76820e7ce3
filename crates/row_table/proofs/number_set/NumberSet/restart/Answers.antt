use Rattle.row_table.proofs.SetLemmas.{none_at_all}
use Rattle.row_table.proofs.number_set.NumberSet.restart.Goals as goal

pub returns : goal.returns
returns c = rw c.clear.ensures.items (none_at_all 1)
