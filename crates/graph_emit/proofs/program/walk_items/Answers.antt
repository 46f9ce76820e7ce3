use Rattle.std.proofs.Common.{ap}
use Rattle.graph_emit.specs.Settings.{seen}
use Rattle.graph_emit.specs.Program.{items_walk}
use Rattle.graph_emit.proofs.Steps.{starts, goes_as, goes_by, stops_by, ends_done}
use Rattle.graph_emit.proofs.Loops.{rest_at, rest_end}
use Rattle.graph_emit.proofs.program.walk_items.Goals as goal

pub loop-item-init : goal.loop-item-init
loop-item-init c = record { goes_on = starts (items_walk (seen c.args.set.now) c.args.items.now) c.args.emitter.now }

pub returns-in_err-walk_item : goal.returns-in_err-walk_item
returns-in_err-walk_item c =
    let next = ap (items_walk (seen c.args.set.now)) (rest_at c.args.items.now c.loop-item.item-index c.item-item.result c.loop-item-test.true c.item-item.is) in
    stops_by _ c.from_residual.result (goes_as c.loop-item.invariant.goes_on next) c.in_err-walk_item.ensures c.from_residual.ensures.1

pub loop-item-preserved : goal.loop-item-preserved
loop-item-preserved c =
    let next = ap (items_walk (seen c.args.set.now)) (rest_at c.args.items.now c.loop-item.item-index c.item-item.result c.loop-item-test.true c.item-item.is) in
    record { goes_on = goes_by _ (goes_as c.loop-item.invariant.goes_on next) c.in_ok-walk_item.ensures }

pub returns : goal.returns
returns c =
    let last = ap (items_walk (seen c.args.set.now)) (rest_end c.args.items.now c.loop-item.item-index c.loop-item-test.false) in
    ends_done (goes_as c.loop-item.invariant.goes_on last)
