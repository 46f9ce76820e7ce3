use Rattle.closing_machine.proofs.Running.{born_stays}
use Rattle.closing_machine.proofs.births_stay.Goals as goal

pub returns : goal.returns
returns c = born_stays
