use Rattle.normal_law.specs.NormalForm.{normal_form}
use Rattle.plain_closing.proofs.Beginning.{IsGathering}
use Rattle.plain_closing.proofs.begin.above_edges.Given as goal

abbrev pub invariant-loop-edge : goal.invariant-loop-edge
invariant-loop-edge l = IsGathering (normal_form l.normal) l.graph l.edge-index l.edges
