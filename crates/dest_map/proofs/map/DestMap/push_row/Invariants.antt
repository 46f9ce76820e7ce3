use Rattle.std.proofs.Common.{◌+◌}
use Rattle.dest_map.specs.Table.{IsFilled, counts_of, split_count}
use Rattle.dest_map.proofs.map.DestMap.push_row.Given as goal

abbrev pub invariant-loop-b : goal.invariant-loop-b
invariant-loop-b l = IsFilled (split_count l.cut.i l.cut.low_row.now l.cut.low_column.now l.cut.corner (counts_of l.self)) (l.self.0 + 1) l.a l.b l.counts.items
