use Rattle.partition_file.proofs.FileLaws.{one_part}
use Rattle.partition_file.proofs.laws.bytes_tell_their_partition.Goals as goal

pub returns : goal.returns
returns c = one_part
