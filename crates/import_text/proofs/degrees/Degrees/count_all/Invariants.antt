use Rattle.std.proofs.Common.{take}
use Rattle.import_text.specs.Degrees.{Counted}
use Rattle.import_text.proofs.degrees.Degrees.count_all.Given as goal

abbrev pub invariant-loop-edge : goal.invariant-loop-edge
invariant-loop-edge l = Counted (take l.edge-index l.edges) l.fn.self l.self
