use Rattle.std.proofs.Common.{ap}
use Rattle.graph_emit.specs.Settings.{seen}
use Rattle.graph_emit.specs.Walk.{vars_walk}
use Rattle.graph_emit.proofs.Steps.{starts, goes_as, goes_by, stops_by, ends_done}
use Rattle.graph_emit.proofs.Loops.{rest_at, rest_end}
use Rattle.graph_emit.proofs.stmt.walk_vars.Goals as goal

pub loop-var-init : goal.loop-var-init
loop-var-init c = record { goes_on = starts (vars_walk (seen c.args.set.now) c.args.vars.now) c.args.emitter.now }

pub returns-in_err-walk_var : goal.returns-in_err-walk_var
returns-in_err-walk_var c =
    let next = ap (vars_walk (seen c.args.set.now)) (rest_at c.args.vars.now c.loop-var.var-index c.var-item.result c.loop-var-test.true c.var-item.is) in
    stops_by _ c.from_residual.result (goes_as c.loop-var.invariant.goes_on next) c.in_err-walk_var.ensures c.from_residual.ensures.1

pub loop-var-preserved : goal.loop-var-preserved
loop-var-preserved c =
    let next = ap (vars_walk (seen c.args.set.now)) (rest_at c.args.vars.now c.loop-var.var-index c.var-item.result c.loop-var-test.true c.var-item.is) in
    record { goes_on = goes_by _ (goes_as c.loop-var.invariant.goes_on next) c.in_ok-walk_var.ensures }

pub returns : goal.returns
returns c =
    let last = ap (vars_walk (seen c.args.set.now)) (rest_end c.args.vars.now c.loop-var.var-index c.loop-var-test.false) in
    ends_done (goes_as c.loop-var.invariant.goes_on last)
