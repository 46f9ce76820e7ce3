use Rattle.std.proofs.Common.{sym, ap}
use Rattle.graph_emit.specs.Program.{functions_made as functions_step}
use Rattle.graph_emit.proofs.Steps.{starts_by, goes_as, goes_by, stops_by, ends_done}
use Rattle.graph_emit.proofs.Loops.{rest_at, rest_end}
use Rattle.graph_emit.proofs.functions.functions_made.Goals as goal

pub loop-item-init : goal.loop-item-init
loop-item-init c = record { goes_on = starts_by c.args.emitter.now (ap (λ l. functions_step l c.args.items.now) (sym c.new-functions.ensures)) }

pub returns-in_err-item_made : goal.returns-in_err-item_made
returns-in_err-item_made c =
    let next = ap (functions_step c.loop-item.functions) (rest_at c.args.items.now c.loop-item.item-index c.item-item.result c.loop-item-test.true c.item-item.is) in
    stops_by _ c.from_residual.result (goes_as c.loop-item.invariant.goes_on next) c.in_err-item_made.ensures c.from_residual.ensures.1

pub loop-item-preserved : goal.loop-item-preserved
loop-item-preserved c =
    let next = ap (functions_step c.loop-item.functions) (rest_at c.args.items.now c.loop-item.item-index c.item-item.result c.loop-item-test.true c.item-item.is) in
    record { goes_on = goes_by _ (goes_as c.loop-item.invariant.goes_on next) c.in_ok-item_made.ensures }

pub returns : goal.returns
returns c =
    let last = ap (functions_step c.loop-item.functions) (rest_end c.args.items.now c.loop-item.item-index c.loop-item-test.false) in
    ends_done (goes_as c.loop-item.invariant.goes_on last)
