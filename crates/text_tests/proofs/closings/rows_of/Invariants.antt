use Rattle.std.proofs.Common.{◌≡◌}
use Rattle.text_tests.proofs.closings.rows_of.Given as goal

abbrev pub invariant-loop-edge : goal.invariant-loop-edge
invariant-loop-edge g l = record {
  low : l.rows.low ≡ l.initial.rows.low;
  high : l.rows.high ≡ l.initial.rows.high;
}
