use Rattle.row_table.proofs.SearchLemmas.{row_ordered, row_has}
use Rattle.row_table.proofs.rows.Rows.has.Goals as goal

pub has_edge-requires : goal.has_edge-requires
has_edge-requires c = rw c.row.ensures.row (row_ordered c.args.e.src.0 c.args.self.now.edges c.row.ensures.loaded.ordered)

pub returns : goal.returns
returns c =
    let same = row_has c.args.self.now.edges c.args.e in
    let is = rw c.row.ensures.row at c.has_edge.ensures in
    (λ t. same.0 (is.0 t), λ h. is.1 (same.1 h))
