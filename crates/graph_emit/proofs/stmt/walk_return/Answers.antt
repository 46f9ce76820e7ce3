use Rattle.std.proofs.Common.{◌∙◌, ap, Some}
use Rattle.graph_emit.specs.Settings.{seen}
use Rattle.graph_emit.specs.Walk.{returned}
use Rattle.graph_emit.proofs.Steps.{starts_by, goes_by, stops_by, ends}
use Rattle.graph_emit.proofs.stmt.walk_return.Goals as goal

pub returns-in_err-value : goal.returns-in_err-value
returns-in_err-value c =
    let set = seen c.args.set.now in
    let s = c.args.emitter.now in
    let g = starts_by s (ap (returned set c.args.tok c.args.gives) c.in-Some.is ∙ ap (λ r. returned set c.args.tok r (Some c.in-Some.e)) c.in-Some-gives.is) in
    stops_by _ c.from_residual.result g c.in_err-value.ensures c.from_residual.ensures.1

pub returns : goal.returns
returns c =
    let set = seen c.args.set.now in
    let s = c.args.emitter.now in
    let g = starts_by s (ap (returned set c.args.tok c.args.gives) c.in-Some.is ∙ ap (λ r. returned set c.args.tok r (Some c.in-Some.e)) c.in-Some-gives.is) in
    ends (goes_by _ g c.in_ok-value.ensures) c.flow.ensures
