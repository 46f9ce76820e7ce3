use Rattle.normal_law.specs.NormalForm.{normal_form}
use Rattle.plain_closing.proofs.Beginning.{IsLooping}
use Rattle.plain_closing.proofs.begin.add_loops.Given as goal

abbrev pub invariant-loop-v : goal.invariant-loop-v
invariant-loop-v l = IsLooping (normal_form l.normal) l.vertices l.v l.fn.edges l.edges
