use Rattle.std.proofs.Common.{◌≡◌, ◌++◌, drop}
use Rattle.manifest_codec.specs.Rules.{widths}
use Rattle.manifest_codec.proofs.cells.widths_of.Given as goal

abbrev pub invariant-loop-part : goal.invariant-loop-part
invariant-loop-part l = l.widths.items ++ widths l.low (drop l.part-index l.parts) ≡ widths 0 l.parts
