use Rattle.std.proofs.Common.{◌∙◌, sym, ap}
use Rattle.graph_emit.specs.Settings.{seen}
use Rattle.graph_emit.specs.Functions.{target as target_of}
use Rattle.graph_emit.specs.Walk.{vars_walk}
use Rattle.graph_emit.specs.Program.{item_walk}
use Rattle.graph_emit.proofs.Steps.{starts_by, goes, stops_on, ends}
use Rattle.graph_emit.proofs.Calls.{goes_known, goes_unknown}
use Rattle.graph_emit.proofs.program.walk_item.Goals as goal

pub returns-in-Declared : goal.returns-in-Declared
returns-in-Declared c =
    let set = seen c.args.set.now in
    let s = c.args.emitter.now in
    ends (starts_by s (ap (item_walk set) c.in-Declared.is ∙ ap (vars_walk set) (sym c.as_slice.ensures))) c.walk_vars.ensures

pub returns-in_err-target-in-Function : goal.returns-in_err-target-in-Function
returns-in_err-target-in-Function c =
    let set = seen c.args.set.now in
    let s = c.args.emitter.now in
    let e = c.in_err-target-in-Function in
    stops_on _ _ e.field-0.0 c.from_residual.result (starts_by s (ap (item_walk set) c.in-Function.is))
    (goes_unknown c.args.set.now.kind c.args.set.now.functions.now c.in-Function.f.name s e.field-0.0 e.ensures.0 e.ensures.1) c.from_residual.ensures.1

pub returns-in_ok-target-in-Function : goal.returns-in_ok-target-in-Function
returns-in_ok-target-in-Function c =
    let set = seen c.args.set.now in
    let s = c.args.emitter.now in
    let t = c.in_ok-target-in-Function in
    ends (goes _ (starts_by s (ap (item_walk set) c.in-Function.is)) (goes_known c.args.set.now.kind c.args.set.now.functions.now c.in-Function.f.name (target_of t.target.now) s t.ensures)) c.walk_body.ensures
