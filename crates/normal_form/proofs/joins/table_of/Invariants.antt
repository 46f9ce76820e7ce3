use Rattle.normal_form.proofs.TableLemmas.{IsFilling}
use Rattle.normal_form.proofs.joins.table_of.Given as goal

abbrev pub invariant-loop-pair : goal.invariant-loop-pair
invariant-loop-pair l = IsFilling l.pairs l.above l.fn.rows l.pair-index l.table
