use Rattle.row_table.proofs.JoinLemmas.{searched_joins}
use Rattle.row_table.proofs.sieve.Sieve.join_searched.Goals as goal

pub returns : goal.returns
returns c =
    searched_joins c.args.row.now c.args.vertex c.args.blocks.now c.args.label _ _ _ _ c.clear.ensures (rw c.clear-2.ensures.items at c.in_ok-sift_blocks.ensures) c.sort_unstable.ensures.permutation c.sort_unstable.ensures.sorted c.args.out.now.items _ (rw c.deref.ensures.value at c.in_ok-push_lacking.ensures)
