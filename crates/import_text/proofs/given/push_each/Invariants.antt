use Rattle.std.proofs.Common.{take}
use Rattle.plain_closing.specs.Begin.{IsEdgeBetween}
use Rattle.import_text.specs.Given.{AddsJust}
use Rattle.import_text.proofs.given.push_each.Given as goal

abbrev pub invariant-loop-label : goal.invariant-loop-label
invariant-loop-label l = AddsJust (IsEdgeBetween l.src (take l.label-index l.labels) l.dst) l.fn.edges.items l.edges.items
