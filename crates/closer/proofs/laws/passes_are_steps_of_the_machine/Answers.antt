use Rattle.closer.proofs.Passes.{passes_end, passes_step}
use Rattle.closer.proofs.laws.passes_are_steps_of_the_machine.Goals as goal

pub returns : goal.returns
returns c = record { steps = passes_step; end = passes_end }
