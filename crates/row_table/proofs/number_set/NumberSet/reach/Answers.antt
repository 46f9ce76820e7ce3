use Rattle.std.proofs.Common.{rules}
use Rattle.row_table.proofs.SetLemmas.{longer_same}
use Rattle.row_table.proofs.number_set.NumberSet.reach.Goals as goal

pub returns-in_ok-resize-clause-same : goal.returns-in_ok-resize-clause-same
returns-in_ok-resize-clause-same c =
    longer_same c.self.inside.marks.items c.self.inside.turn c.saturating_add.result _ c.args.self.now c.self.view_is c.self.invariant.0 c.resize.new.self.items c.in_ok-resize.ensures.items (search rules)
