use Rattle.std.specs.List.{AllWithin}
use Rattle.normal_form.specs.Grammar.{IsWithin}
use Rattle.normal_form.proofs.grammar.are_within.Given as goal

abbrev pub invariant-loop-rule : goal.invariant-loop-rule
invariant-loop-rule l = AllWithin IsWithin l.rules 0 l.rule-index
