use Rattle.std.proofs.Common.{◌≡◌, take}
use Rattle.source_graph.specs.Sources.{feeds}
use Rattle.source_graph.proofs.lines.feeds_in.Given as goal

abbrev pub invariant-loop-byte : goal.invariant-loop-byte
invariant-loop-byte l = l.count ≡ feeds (take l.byte-index l.text)
