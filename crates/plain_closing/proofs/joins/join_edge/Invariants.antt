use Rattle.normal_law.specs.NormalForm.{normal_form}
use Rattle.plain_closing.proofs.Adding.{IsJoiningWith}
use Rattle.plain_closing.proofs.joins.join_edge.Given as goal

abbrev pub invariant-loop-j : goal.invariant-loop-j
invariant-loop-j l = IsJoiningWith (normal_form l.normal) l.n l.j l.edge l.fn.edges l.edges
