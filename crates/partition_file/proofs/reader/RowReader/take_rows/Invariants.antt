use Rattle.std.proofs.Common.{◌-◌, length}
use Rattle.partition_file.specs.Reader.{TakesRows}
use Rattle.partition_file.proofs.reader.RowReader.take_rows.Given as goal

abbrev pub invariant-rows : goal.invariant-rows
invariant-rows l = TakesRows l.fn.self l.self l.fn.edges.items l.edges.items l.bytes l.used

abbrev pub decreases-rows : goal.decreases-rows
decreases-rows l = length l.bytes - l.used
