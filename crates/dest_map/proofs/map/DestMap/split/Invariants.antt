use Rattle.std.proofs.Common.{◌+◌}
use Rattle.dest_map.specs.Table.{IsFilled, counts_of, split_count}
use Rattle.dest_map.proofs.map.DestMap.split.Given as goal

abbrev pub invariant-loop-a : goal.invariant-loop-a
invariant-loop-a l = IsFilled (split_count l.i l.low_row l.low_column l.fn.corner (counts_of l.fn.self)) (l.fn.self.0 + 1) l.a 0 l.counts.items
