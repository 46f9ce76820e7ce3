use Rattle.group_number.proofs.GroupLaws.{whole_stays, least}
use Rattle.group_number.proofs.laws.bytes_behind_change_nothing.Goals as goal

pub returns-clause-more : goal.returns-clause-more
returns-clause-more c = whole_stays

pub returns-clause-least : goal.returns-clause-least
returns-clause-least c = least
