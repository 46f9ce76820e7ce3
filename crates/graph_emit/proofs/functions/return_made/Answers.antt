use Rattle.graph_emit.proofs.Steps.{starts_by, goes_by, stops_by, ends_done}
use Rattle.graph_emit.proofs.Firsts.{return_none, return_some}
use Rattle.graph_emit.proofs.functions.return_made.Goals as goal

pub returns-then-gives_nothing : goal.returns-then-gives_nothing
returns-then-gives_nothing c = ends_done (starts_by c.args.emitter.now (return_none c.args.f.now c.gives_nothing.result c.gives_nothing.ensures c.if-gives_nothing.true))

pub returns-in_err-t : goal.returns-in_err-t
returns-in_err-t c =
    let g = starts_by c.args.emitter.now (return_some c.args.f.now c.as_slice.result.now c.gives_nothing.result c.as_slice.ensures c.gives_nothing.ensures c.if-gives_nothing.false) in
    stops_by _ c.from_residual.result g c.in_err-t.ensures c.from_residual.ensures.1

pub returns : goal.returns
returns c =
    let g = starts_by c.args.emitter.now (return_some c.args.f.now c.as_slice.result.now c.gives_nothing.result c.as_slice.ensures c.gives_nothing.ensures c.if-gives_nothing.false) in
    ends_done (goes_by _ g c.in_ok-t.ensures)
