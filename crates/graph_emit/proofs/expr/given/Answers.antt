use Rattle.std.proofs.Common.{ap}
use Rattle.graph_emit.specs.Walk.{given as given_step}
use Rattle.graph_emit.proofs.Steps.{starts_by, goes_by, stops_by, ends_done}
use Rattle.graph_emit.proofs.Calls.{none_is, given_named}
use Rattle.graph_emit.proofs.expr.given.Goals as goal

pub returns-in_default : goal.returns-in_default
returns-in_default c = ends_done (starts_by c.args.emitter.now (ap (given_step c.args.name.now) (none_is c.args.gives c.in_default.not-Some)))

pub returns-in_err-t : goal.returns-in_err-t
returns-in_err-t c =
    let g = given_named c.args.name.now c.args.gives c.in-Some.r c.as_slice.result.now c.args.emitter.now c.in-Some.is c.as_slice.ensures in
    stops_by _ c.from_residual.result g c.in_err-t.ensures c.from_residual.ensures.1

pub returns-in_err-join : goal.returns-in_err-join
returns-in_err-join c =
    let g = given_named c.args.name.now c.args.gives c.in-Some.r c.as_slice.result.now c.args.emitter.now c.in-Some.is c.as_slice.ensures in
    stops_by _ c.from_residual-in_err-join.result (goes_by _ g c.in_ok-t.ensures) c.in_err-join.ensures c.from_residual-in_err-join.ensures.1

pub returns : goal.returns
returns c =
    let g = given_named c.args.name.now c.args.gives c.in-Some.r c.as_slice.result.now c.args.emitter.now c.in-Some.is c.as_slice.ensures in
    ends_done (goes_by _ (goes_by _ g c.in_ok-t.ensures) c.in_ok-join.ensures)
