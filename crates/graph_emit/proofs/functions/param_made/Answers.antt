use Rattle.std.proofs.Common.{refl}
use Rattle.graph_emit.proofs.Steps.{starts_by, goes_by, stops_by, ends_as, ends_refused}
use Rattle.graph_emit.proofs.Firsts.{param_refused, param_new}
use Rattle.graph_emit.proofs.functions.param_made.Goals as goal

pub returns-then-is_inner-clause-made : goal.returns-then-is_inner-clause-made
returns-then-is_inner-clause-made c =
    ends_refused c.args.param.now.name.tok (starts_by c.args.emitter.now (param_refused c.args.names.now.inner c.args.param.now c.as_slice-name.result.now c.is_inner.result c.as_slice-name.ensures c.is_inner.ensures c.if-is_inner.true)) c.refusal.ensures

pub returns-in_err-vertex-clause-made : goal.returns-in_err-vertex-clause-made
returns-in_err-vertex-clause-made c =
    let g = starts_by c.args.emitter.now (param_new c.args.names.now.inner c.args.param.now c.as_slice-name.result.now c.is_inner.result c.as_slice-name.ensures c.is_inner.ensures c.if-is_inner.false) in
    stops_by _ c.from_residual.result g c.in_err-vertex.ensures c.from_residual.ensures.1

pub returns-clause-made : goal.returns-clause-made
returns-clause-made c =
    let g = starts_by c.args.emitter.now (param_new c.args.names.now.inner c.args.param.now c.as_slice-name.result.now c.is_inner.result c.as_slice-name.ensures c.is_inner.ensures c.if-is_inner.false) in
    ends_as _ (goes_by _ g c.in_ok-vertex.ensures) refl
