use Rattle.std.proofs.Common.{◌≡◌, ◌≤◌, refl, arith}
use Rattle.row_table.proofs.JoinLemmas.{below_none, below_more, labels_are_small}
use Rattle.row_table.proofs.sieve.Sieve.join_row.Goals as goal

pub loop-next-init : goal.loop-next-init
loop-next-init c = (below_none c.args.row.now c.args.vertex c.args.blocks.now c.next_label-next.result c.args.out.now.items c.next_label-next.ensures, c.next_label-next.ensures.small)

pub loop-next-preserved : goal.loop-next-preserved
loop-next-preserved c = (
  below_more c.args.row.now c.args.vertex c.args.blocks.now c.loop-next.next c.next_label-next-in-loop-next.result (record { 0 = c.loop-next.next }) c.args.out.now.items c.loop-next.out.items _ refl c.loop-next.invariant.0 c.in_ok-join_label.ensures c.next_label-next-in-loop-next.ensures,
  c.next_label-next-in-loop-next.ensures.small,
)

pub returns-clause-labels : goal.returns-clause-labels
returns-clause-labels c = labels_are_small c.args.blocks.now c.next_label-next.result c.next_label-next.ensures

pub returns-clause-joins : goal.returns-clause-joins
returns-clause-joins c =
    let end : 65536 ≡ c.loop-next.next = (let le : c.loop-next.next ≤ 65536 = c.loop-next.invariant.1 in omega arith) in
    rw end c.loop-next.invariant.0
