use Rattle.std.proofs.Common.{◌∙◌, ◌++◌, sym, ap}
use Rattle.std.specs.Prelude.{map, reverse}
use Rattle.graph_emit.specs.Functions.{bound}
use Rattle.graph_emit.proofs.Steps.{state_is}
use Rattle.graph_emit.proofs.Loops.{rest_end}
use Rattle.graph_emit.proofs.Bodies.{binds}
use Rattle.graph_emit.proofs.stmt.bind_params.Goals as goal

pub loop-param-preserved : goal.loop-param-preserved
loop-param-preserved c =
    let b = binds c.args.params.now c.loop-param.param-index _ c.loop-param.emitter c.bind.new.self c.loop-param-test.true c.in_ok-bind.ensures in
    let was = c.loop-param.invariant in
    record { vertices = b.vertices ∙ was.vertices; edges = b.edges ∙ was.edges; inner = b.inner ∙ was.inner; outer = b.outer ∙ was.outer }

pub returns : goal.returns
returns c =
    let was = c.loop-param.invariant in
    let last = ap (λ l. reverse (map bound l) ++ c.loop-param.emitter.inner) (rest_end c.args.params.now c.loop-param.param-index c.loop-param-test.false) in
    state_is c.loop-param.emitter _ was.vertices was.edges (sym last ∙ was.inner) was.outer
