use Rattle.std.proofs.Common.{◌≤◌}
use Rattle.normal_law.specs.NormalForm.{normal_form}
use Rattle.import_text.specs.Given.{AddsJust, IsLoopIn}
use Rattle.import_text.proofs.given.add_loops.Given as goal

abbrev pub invariant-loop-v : goal.invariant-loop-v
invariant-loop-v l = record { from : l.lo ≤ l.v; to : l.v ≤ l.hi; loops : AddsJust (IsLoopIn (normal_form l.normal) l.lo l.v) l.fn.given.items l.given.items }
