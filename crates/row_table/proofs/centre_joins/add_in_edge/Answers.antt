use Rattle.normal_law.specs.NormalForm.{normal_form}
use Rattle.row_table.proofs.BlockLemmas.{all_seconds}
use Rattle.row_table.proofs.ThroughLemmas.{new_through, old_through}
use Rattle.row_table.proofs.centre_joins.add_in_edge.Goals as goal

pub returns-then-first-centre : goal.returns-then-first-centre
returns-then-first-centre c =
    old_through (normal_form c.args.centre.now.normal.now) c.args.centre.now.since c.args.centre.now.vertex c.args.centre.now.row.now c.args.centre.now.newer.now c.args.first c.args.blocks.now.items _ c.requires.end c.if-first-centre.true c.in_ok-add_row.ensures

pub returns : goal.returns
returns c =
    new_through (normal_form c.args.centre.now.normal.now) c.args.centre.now.since c.args.centre.now.vertex c.args.centre.now.row.now c.args.centre.now.newer.now c.args.first c.args.blocks.now.items _ c.requires.end c.if-first-centre.false c.in_ok-add_row-2.ensures

pub add_row-requires-clause-labels : goal.add_row-requires-clause-labels
add_row-requires-clause-labels c = rw c.deref.ensures.value (all_seconds (normal_form c.args.centre.now.normal.now) c.args.first.edge.label c.args.centre.now.newer.now _ c.in_ok-seconds.ensures)

pub add_row-requires-2-clause-labels : goal.add_row-requires-2-clause-labels
add_row-requires-2-clause-labels c = rw c.deref-2.ensures.value (all_seconds (normal_form c.args.centre.now.normal.now) c.args.first.edge.label c.args.centre.now.row.now _ c.in_ok-seconds.ensures)
