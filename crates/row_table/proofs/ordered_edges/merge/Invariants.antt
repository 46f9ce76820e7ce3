use Rattle.row_table.proofs.MergeLemmas.{Filling}
use Rattle.row_table.proofs.ordered_edges.merge.Given as goal

abbrev pub invariant-loop-left : goal.invariant-loop-left
invariant-loop-left l = Filling l.fn.edges.items l.new l.birth l.end l.left l.edges.items

abbrev pub decreases-loop-left : goal.decreases-loop-left
decreases-loop-left l = l.left
