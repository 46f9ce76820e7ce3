use Rattle.std.proofs.Common.{◌+◌, arith}
use Rattle.row_table.proofs.SetLemmas.{none_yet}
use Rattle.row_table.proofs.number_set.NumberSet.clear.Goals as goal

pub returns : goal.returns
returns c = none_yet c.self.inside.marks.items c.self.inside.turn (c.self.inside.turn + 1) c.self.invariant.1 (omega arith)
