use Rattle.command_words.proofs.ReadingLemmas.{one_reading}
use Rattle.command_words.proofs.command_line.one_reading.Goals as goal

pub returns : goal.returns
returns c = one_reading
