use Rattle.group_number.proofs.GroupLaws.{again, takes}
use Rattle.group_number.proofs.laws.reading_is_spelling.Goals as goal

pub returns-clause-again : goal.returns-clause-again
returns-clause-again c = again

pub returns-clause-takes : goal.returns-clause-takes
returns-clause-takes c = takes
