use Rattle.std.proofs.Common.{◌≡◌, ◌++◌, drop, None}
use Rattle.partition_file.specs.Spelling.{edges_bytes}
use Rattle.partition_file.proofs.encoder.put_edges.Given as goal

abbrev pub invariant-loop-born : goal.invariant-loop-born
invariant-loop-born l = l.out.items ++ edges_bytes l.format l.before (drop l.born-index l.row) ≡ l.fn.out.items ++ edges_bytes l.format None l.row
