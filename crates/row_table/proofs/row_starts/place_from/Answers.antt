use Rattle.std.proofs.Common.{◌+◌, ◌-◌, ◌<◌, ◌≤◌, length, arith}
use Rattle.row_table.proofs.RowLemmas.{before_up_to, none_below, some_born}
use Rattle.row_table.proofs.row_starts.place_from.Goals as goal

pub place_between-requires-clause-behind : goal.place_between-requires-clause-behind
place_between-requires-clause-behind c =
    let some : 0 < c.loop-stride.stride = c.loop-stride.invariant.0 in
    let within : c.loop-stride.low ≤ length c.args.edges.now = c.loop-stride.invariant.1.within in
    none_below c.args.edges.now c.args.vertex c.requires.ordered (c.loop-stride.low + (c.loop-stride.stride - 1)) some_born (omega arith) c.if-edges-middle.true

pub loop-stride-preserved : goal.loop-stride-preserved
loop-stride-preserved c =
    let some : 0 < c.loop-stride.stride = c.loop-stride.invariant.0 in
    let within : c.loop-stride.low ≤ length c.args.edges.now = c.loop-stride.invariant.1.within in (
      omega (arith, c.saturating_mul-stride.ensures),
      before_up_to c.args.edges.now c.args.vertex c.requires.ordered (c.loop-stride.low + (c.loop-stride.stride - 1)) some_born (omega arith) c.if-edges-middle.false,
    )
