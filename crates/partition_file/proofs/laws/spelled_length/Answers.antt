use Rattle.partition_file.proofs.LengthLaws.{length-spelling}
use Rattle.partition_file.proofs.laws.spelled_length.Goals as goal

pub returns : goal.returns
returns c = length-spelling
