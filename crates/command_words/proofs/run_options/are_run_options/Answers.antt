use Rattle.command_words.specs.Command.{run_options}
use Rattle.command_words.proofs.GivenLemmas.{options_said, known_of, once_of}
use Rattle.command_words.proofs.run_options.are_run_options.Goals as goal

pub returns-then-are_known : goal.returns-then-are_known
returns-then-are_known c = (
  λ yes. options_said run_options c.args.options.now (c.are_known.ensures.0 c.if-are_known.true) (c.is_once.ensures.0 yes),
  λ are. c.is_once.ensures.1 (once_of run_options c.args.options.now are),
)

pub returns-else-are_known : goal.returns-else-are_known
returns-else-are_known c = (
  λ yes. cc,
  λ are. let known = c.are_known.ensures.1 (known_of run_options c.args.options.now are) in let no = c.if-are_known.false in cc,
)
