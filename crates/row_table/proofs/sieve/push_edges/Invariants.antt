use Rattle.std.proofs.Common.{◌≡◌, ◌++◌, take, map}
use Rattle.graph_words.specs.Reach.{edge}
use Rattle.row_table.specs.Joined.{vertex}
use Rattle.row_table.proofs.sieve.push_edges.Given as goal

abbrev pub invariant-loop-end : goal.invariant-loop-end
invariant-loop-end l = l.out.items ≡ l.initial.out.items ++ map (λ w. edge l.vertex l.label (vertex w)) (take l.end-index l.found)
