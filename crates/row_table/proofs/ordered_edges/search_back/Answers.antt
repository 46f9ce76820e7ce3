use Rattle.std.proofs.Common.{◌-◌, ◌<◌, ◌≤◌, length, arith, refl}
use Rattle.std.proofs.lemmas.Bool.{false≢true}
use Rattle.row_table.proofs.RowLemmas.{some_born}
use Rattle.row_table.proofs.SearchLemmas.{none_from, stand_up_to}
use Rattle.row_table.proofs.ordered_edges.search_back.Goals as goal

pub search_between-requires-clause-front : goal.search_between-requires-clause-front
search_between-requires-clause-front c =
    stand_up_to c.args.edges.now c.args.edge c.requires (c.loop-stride.high - c.loop-stride.stride) some_born (omega (arith, c.loop-stride.invariant.0, c.loop-stride.invariant.1)) (c.if-is_before.ensures.0 refl)

pub loop-stride-preserved : goal.loop-stride-preserved
loop-stride-preserved c =
    let some : 0 < c.loop-stride.stride = c.loop-stride.invariant.0 in
    let within : c.loop-stride.high ≤ length c.args.edges.now = c.loop-stride.invariant.1 in (
      omega (arith, c.saturating_mul-stride.ensures),
      omega arith,
      none_from c.args.edges.now c.args.edge c.requires (c.loop-stride.high - c.loop-stride.stride) some_born (omega arith) (λ p. false≢true (c.if-is_before.ensures.1 p)),
    )
