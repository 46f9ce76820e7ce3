use Rattle.std.proofs.Common.{◌≡◌, ◌++◌, ◌-◌}
use Rattle.partition_file.specs.Spelling.{rows_bytes}
use Rattle.partition_file.proofs.Splits.{Above, Ascends}
use Rattle.partition_file.proofs.encoder.put_rows.Given as goal

abbrev pub invariant-loop-vertex : goal.invariant-loop-vertex
invariant-loop-vertex l = record {
  text : l.out.items ++ rows_bytes l.format (l.hi - l.vertex) l.vertex l.rest ≡ l.fn.out.items ++ rows_bytes l.format (l.hi - l.lo) l.lo l.edges;
  low : Above l.vertex l.rest;
  sorted : Ascends l.rest;
}
