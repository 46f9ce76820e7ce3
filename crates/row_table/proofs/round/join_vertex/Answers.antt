use Rattle.normal_law.specs.NormalForm.{normal_form}
use Rattle.row_table.specs.Joined.{IsJoinOf}
use Rattle.row_table.proofs.SearchLemmas.{row_ordered}
use Rattle.row_table.proofs.JoinLemmas.{row_sources, vertex_appends}
use Rattle.row_table.proofs.round.join_vertex.Goals as goal

pub join_row-requires-clause-order : goal.join_row-requires-clause-order
join_row-requires-clause-order c = rw c.row.ensures.row (row_ordered c.args.vertex.0 c.args.snapshot.now.rows.now.edges c.row.ensures.loaded.ordered)

pub join_row-requires-clause-source : goal.join_row-requires-clause-source
join_row-requires-clause-source c = rw c.row.ensures.row (row_sources c.args.vertex c.args.snapshot.now.rows.now.edges)

pub returns : goal.returns
returns c =
    vertex_appends c.args.snapshot.now.rows.now.edges (IsJoinOf (normal_form c.args.snapshot.now.normal.now) c.args.snapshot.now.rows.now.edges c.args.snapshot.now.since) c.args.vertex _ _ c.deref.ensures.value c.in_ok-set_blocks.ensures c.args.out.now.items _ (rw c.row.ensures.row at c.in_ok-join_row.ensures.joins) c.in_ok-join_row.ensures.labels
