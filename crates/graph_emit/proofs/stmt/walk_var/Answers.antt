use Rattle.std.proofs.Common.{ap}
use Rattle.graph_emit.specs.Settings.{seen}
use Rattle.graph_emit.specs.State.{◌⟫◌, declare}
use Rattle.graph_emit.specs.Walk.{initial}
use Rattle.graph_emit.proofs.Steps.{starts, goes_as, goes_by, stops_by, ends, ends_done}
use Rattle.graph_emit.proofs.Calls.{none_is}
use Rattle.graph_emit.proofs.stmt.walk_var.Goals as goal

pub returns-in_err-t : goal.returns-in_err-t
returns-in_err-t c =
    let set = seen c.args.set.now in
    let s = c.args.emitter.now in
    let v = c.args.var.now in
    stops_by _ c.from_residual.result (starts (declare v.name ⟫ initial set v.value) s) c.in_err-t.ensures c.from_residual.ensures.1

pub returns-in_default : goal.returns-in_default
returns-in_default c =
    let set = seen c.args.set.now in
    let s = c.args.emitter.now in
    let v = c.args.var.now in
    let g = goes_by _ (starts (declare v.name ⟫ initial set v.value) s) c.in_ok-t.ensures in
    ends_done (goes_as g (ap (λ o. initial set o c.in_ok-t.t) (none_is v.value c.in_default.not-Some)))

pub returns-in_err-value : goal.returns-in_err-value
returns-in_err-value c =
    let set = seen c.args.set.now in
    let s = c.args.emitter.now in
    let v = c.args.var.now in
    let g = goes_by _ (starts (declare v.name ⟫ initial set v.value) s) c.in_ok-t.ensures in
    stops_by _ c.from_residual-in_err-value.result (goes_as g (ap (λ o. initial set o c.in_ok-t.t) c.in-Some.is)) c.in_err-value.ensures c.from_residual-in_err-value.ensures.1

pub returns : goal.returns
returns c =
    let set = seen c.args.set.now in
    let s = c.args.emitter.now in
    let v = c.args.var.now in
    let g = goes_by _ (starts (declare v.name ⟫ initial set v.value) s) c.in_ok-t.ensures in
    ends (goes_by _ (goes_as g (ap (λ o. initial set o c.in_ok-t.t) c.in-Some.is)) c.in_ok-value.ensures) c.flow.ensures
