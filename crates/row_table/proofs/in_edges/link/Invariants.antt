use Rattle.std.proofs.Common.{◌≤◌, length}
use Rattle.row_table.specs.Chains.{AreChains}
use Rattle.row_table.proofs.in_edges.link.Given as goal

abbrev pub invariant-loop-place : goal.invariant-loop-place
invariant-loop-place l = (l.place ≤ length l.edges) × AreChains l.edges l.place l.first.items l.next.items

abbrev pub decreases-loop-place : goal.decreases-loop-place
decreases-loop-place l = l.place
