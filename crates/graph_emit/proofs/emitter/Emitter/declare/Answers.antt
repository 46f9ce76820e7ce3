use Rattle.std.proofs.Common.{ap}
use Rattle.graph_emit.specs.State.{State}
use Rattle.graph_emit.proofs.Emitting.{declare_stops, declare_ends}
use Rattle.graph_emit.proofs.emitter.Emitter.declare.Goals as goal

pub returns-in_err-v : goal.returns-in_err-v
returns-in_err-v c =
    declare_stops c.args.name.now c.as_slice-bytes.result.now c.self.inside.names.inner c.args.self.now c.fresh.new.self _ c.is_inner.result c.in_err-v.field-0.0 c.from_residual.result
    c.as_slice-bytes.ensures (ap (λ (s : State). s.inner) c.self.view_is) c.is_inner.ensures c.if-is_inner.false c.in_err-v.ensures c.from_residual.ensures.1

pub returns : goal.returns
returns c =
    declare_ends c.args.name.now c.as_slice-bytes.result.now c.self.inside.names.inner c.args.self.now c.fresh.new.self c.bind.new.self c.is_inner.result c.in_ok-v.v
    c.as_slice-bytes.ensures (ap (λ (s : State). s.inner) c.self.view_is) c.is_inner.ensures c.if-is_inner.false c.in_ok-v.ensures c.in_ok-bind.ensures
