use Rattle.normal_law.specs.NormalForm.{normal_form}
use Rattle.closing_machine.specs.Rounds.{IsCandidate}
use Rattle.row_table.proofs.SearchLemmas.{row_ordered}
use Rattle.row_table.proofs.JoinLemmas.{row_sources, vertex_appends}
use Rattle.row_table.proofs.SourceLemmas.{appends_at, begins_here}
use Rattle.row_table.proofs.centre_joins.join_source.Goals as goal

pub join_row-requires-clause-order : goal.join_row-requires-clause-order
join_row-requires-clause-order c = rw c.row.ensures.row (row_ordered _ c.args.centre.now.rows.now.edges c.row.ensures.loaded.ordered)

pub join_row-requires-clause-source : goal.join_row-requires-clause-source
join_row-requires-clause-source c = rw c.row.ensures.row (row_sources _ c.args.centre.now.rows.now.edges)

pub returns-clause-joins : goal.returns-clause-joins
returns-clause-joins c =
    appends_at c.args.centre.now.rows.now.edges (IsCandidate (normal_form c.args.centre.now.normal.now) c.args.centre.now.rows.now.edges c.args.centre.now.since c.args.centre.now.vertex) c.args.place _ c.requires.there
    (begins_here c.args.centre.now.rows.now.edges _ c.args.place c.edges.ensures c.requires.there)
    c.args.out.now.items _
    (vertex_appends c.args.centre.now.rows.now.edges (IsCandidate (normal_form c.args.centre.now.normal.now) c.args.centre.now.rows.now.edges c.args.centre.now.since c.args.centre.now.vertex) _ _ _ c.deref.ensures.value
    (c.in_ok-end.ensures.blocks _ (begins_here c.args.centre.now.rows.now.edges _ c.args.place c.edges.ensures c.requires.there))
    c.args.out.now.items _ (rw c.row.ensures.row at c.in_ok-join_row.ensures.joins) c.in_ok-join_row.ensures.labels)
