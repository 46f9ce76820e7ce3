use Rattle.plain_closing.proofs.Adding.{IsAdding}
use Rattle.plain_closing.proofs.edge_set.EdgeSet.add_each.Given as goal

abbrev pub invariant-loop-label : goal.invariant-loop-label
invariant-loop-label l = IsAdding l.src l.labels l.dst l.label-index l.fn.self l.self
