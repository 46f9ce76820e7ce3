use Rattle.std.proofs.Common.{take}
use Rattle.normal_law.specs.NormalForm.{normal_form}
use Rattle.import_text.specs.Given.{AddsJust, IsAboveIn}
use Rattle.import_text.proofs.given.add_above.Given as goal

abbrev pub invariant-loop-edge : goal.invariant-loop-edge
invariant-loop-edge l = AddsJust (IsAboveIn (normal_form l.normal) l.lo l.hi (take l.edge-index l.found)) l.fn.given.items l.given.items
