use Rattle.bench.proofs.Ascending.{Ascend}
use Rattle.bench.proofs.rows.ascend.Given as goal

abbrev pub invariant-loop-place : goal.invariant-loop-place
invariant-loop-place l = Ascend l.edges l.place
