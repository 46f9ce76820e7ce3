use Rattle.std.specs.List.{AllWithin}
use Rattle.normal_form.specs.Empty.{HasLeft}
use Rattle.normal_form.proofs.empties.new_empty.Given as goal

abbrev pub invariant-loop-rule : goal.invariant-loop-rule
invariant-loop-rule l = AllWithin (HasLeft l.found) l.rules 0 l.rule-index
