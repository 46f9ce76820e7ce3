use Rattle.normal_law.specs.NormalForm.{normal_form}
use Rattle.row_table.proofs.JoinLemmas.{all_joins_are_round}
use Rattle.row_table.proofs.rows.Rows.joins.Goals as goal

pub returns : goal.returns
returns c =
    rw c.from_vec.ensures
    (all_joins_are_round (normal_form c.args.normal.now) c.args.self.now c.args.since _ _ c.spans-high.ensures.loaded (rw (c.spans-high.ensures.low, c.new-out.ensures.items) at c.in_ok-join_span.ensures) (rw c.spans-high.ensures.high at c.in_ok-join_high.ensures))
