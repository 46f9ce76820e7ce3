use Rattle.std.proofs.Common.{◌≡◌, map, drop}
use Rattle.command_words.specs.Command.{value_of}
use Rattle.command_words.specs.CutWords.{given_said}
use Rattle.command_words.proofs.run_options.find_option.Given as goal

abbrev pub invariant-loop-option : goal.invariant-loop-option
invariant-loop-option l = value_of l.name (map given_said (drop l.option-index l.options)) ≡ value_of l.name (map given_said l.options)
