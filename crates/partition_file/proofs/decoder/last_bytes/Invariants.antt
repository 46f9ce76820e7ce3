use Rattle.std.proofs.Common.{◌≤◌}
use Rattle.partition_file.proofs.decoder.last_bytes.Given as goal

abbrev pub invariant-loop-byte : goal.invariant-loop-byte
invariant-loop-byte l = l.count ≤ l.byte-index
