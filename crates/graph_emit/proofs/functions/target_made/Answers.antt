use Rattle.std.proofs.Common.{refl}
use Rattle.graph_emit.proofs.Steps.{goes_by, stops_by, ends_as}
use Rattle.graph_emit.proofs.Firsts.{target_on}
use Rattle.graph_emit.proofs.functions.target_made.Goals as goal

pub returns-in_err-params-clause-target : goal.returns-in_err-params-clause-target
returns-in_err-params-clause-target c =
    stops_by _ c.from_residual.result (target_on c.args.f.now c.as_slice.result.now c.args.emitter.now c.as_slice.ensures) c.in_err-params.ensures c.from_residual.ensures.1

pub returns-in_err-gives-clause-target : goal.returns-in_err-gives-clause-target
returns-in_err-gives-clause-target c =
    let g = goes_by _ (target_on c.args.f.now c.as_slice.result.now c.args.emitter.now c.as_slice.ensures) c.in_ok-params.ensures in
    stops_by _ c.from_residual-in_err-gives.result g c.in_err-gives.ensures c.from_residual-in_err-gives.ensures.1

pub returns-clause-target : goal.returns-clause-target
returns-clause-target c =
    let g = goes_by _ (target_on c.args.f.now c.as_slice.result.now c.args.emitter.now c.as_slice.ensures) c.in_ok-params.ensures in
    ends_as _ (goes_by _ g c.in_ok-gives.ensures) refl
