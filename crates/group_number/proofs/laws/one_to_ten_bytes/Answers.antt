use Rattle.group_number.proofs.GroupLaws.{number_bounds, length_bounds, short_below_ten}
use Rattle.group_number.proofs.laws.one_to_ten_bytes.Goals as goal

pub returns-clause-read : goal.returns-clause-read
returns-clause-read c = number_bounds

pub returns-clause-written : goal.returns-clause-written
returns-clause-written c = length_bounds

pub returns-clause-short : goal.returns-clause-short
returns-clause-short c = short_below_ten
