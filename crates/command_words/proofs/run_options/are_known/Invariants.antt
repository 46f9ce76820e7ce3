use Rattle.std.proofs.Common.{Contains}
use Rattle.std.specs.List.{AllWithin}
use Rattle.command_words.specs.Command.{run_options}
use Rattle.command_words.proofs.run_options.are_known.Given as goal

abbrev pub invariant-loop-option : goal.invariant-loop-option
invariant-loop-option l = AllWithin (λ o. Contains run_options o.name.now) l.options 0 l.option-index
