use Rattle.std.proofs.Common.{◌+◌, ◌-◌, ◌/◌, arith, refl}
use Rattle.std.proofs.lemmas.Bool.{false≢true}
use Rattle.row_table.proofs.RowLemmas.{some_born}
use Rattle.row_table.proofs.SearchLemmas.{stand_up_to, none_from}
use Rattle.row_table.proofs.ordered_edges.search_between.Goals as goal

pub loop-low-preserved-then-is_before : goal.loop-low-preserved-then-is_before
loop-low-preserved-then-is_before c = (
  stand_up_to c.args.edges.now c.args.edge c.requires.ordered (c.loop-low.low + (c.loop-low.high - c.loop-low.low) / 2) some_born (omega (arith, c.loop-low.invariant.2)) (c.if-is_before.ensures.0 refl),
  omega arith,
  c.loop-low.invariant.2,
  c.loop-low.invariant.3,
)

pub loop-low-preserved : goal.loop-low-preserved
loop-low-preserved c = (
  c.loop-low.invariant.0,
  omega arith,
  omega (arith, c.loop-low.invariant.2),
  none_from c.args.edges.now c.args.edge c.requires.ordered (c.loop-low.low + (c.loop-low.high - c.loop-low.low) / 2) some_born (omega (arith, c.loop-low.invariant.2)) (λ p. false≢true (c.if-is_before.ensures.1 p)),
)
