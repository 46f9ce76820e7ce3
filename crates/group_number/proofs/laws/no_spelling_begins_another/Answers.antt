use Rattle.group_number.proofs.GroupLaws.{one, group_bytes_spell, read_spells}
use Rattle.group_number.proofs.laws.no_spelling_begins_another.Goals as goal

pub returns-clause-one : goal.returns-clause-one
returns-clause-one c = one

pub returns-clause-spelled : goal.returns-clause-spelled
returns-clause-spelled c = group_bytes_spell

pub returns-clause-read : goal.returns-clause-read
returns-clause-read c = read_spells
