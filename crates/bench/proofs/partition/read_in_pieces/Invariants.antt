use Rattle.std.proofs.Common.{◌+◌, ◌*◌, ◌≤◌, length}
use Rattle.partition_file.specs.Reader.{taken}
use Rattle.bench.proofs.partition.read_in_pieces.Given as goal

abbrev pub invariant-loop-i : goal.invariant-loop-i
invariant-loop-i l = taken l.reader ≤ l.i * 65536
