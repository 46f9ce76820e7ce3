use Rattle.row_table.proofs.CentreLemmas.{all_centres}
use Rattle.row_table.proofs.rows.Rows.centres.Goals as goal

pub returns : goal.returns
returns c =
    all_centres c.args.self.now _ _ c.spans-high.ensures.loaded (rw (c.spans-high.ensures.low, c.new-centres.ensures.items) at c.in_ok-add_centres.ensures) (rw c.spans-high.ensures.high at c.in_ok-add_high_centres.ensures)
