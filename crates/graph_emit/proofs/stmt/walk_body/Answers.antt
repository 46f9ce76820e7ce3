use Rattle.std.proofs.Common.{◌∙◌}
use Rattle.std.specs.Prelude.{map, reverse}
use Rattle.graph_emit.specs.Functions.{bound}
use Rattle.graph_emit.proofs.Scopes.{scope_ends, scope_stops, scope_room}
use Rattle.graph_emit.proofs.Bodies.{body_opened}
use Rattle.graph_emit.proofs.stmt.walk_body.Goals as goal

pub returns-in_err-walk_stmts : goal.returns-in_err-walk_stmts
returns-in_err-walk_stmts c =
    let ps = c.args.target.now.params.items in
    let start = body_opened c.args.emitter.now c.open-around.new.self c.bind_params.new.emitter ps c.as_slice.result.now c.open-around.ensures.opened c.as_slice.ensures.value c.in_ok-bind_params.ensures in
    scope_stops (reverse (map bound ps)) c.args.emitter.now c.bind_params.new.emitter c.walk_stmts.new.emitter _ c.in_err-walk_stmts.field-0.0 c.from_residual-in_err-walk_stmts.result start c.in_err-walk_stmts.ensures c.from_residual-in_err-walk_stmts.ensures.1

pub close-requires : goal.close-requires
close-requires c =
    let ps = c.args.target.now.params.items in
    let start = body_opened c.args.emitter.now c.open-around.new.self c.bind_params.new.emitter ps c.as_slice.result.now c.open-around.ensures.opened c.as_slice.ensures.value c.in_ok-bind_params.ensures in
    scope_room (reverse (map bound ps)) c.args.emitter.now c.bind_params.new.emitter c.walk_stmts.new.emitter _ c.open-around.result start c.in_ok-walk_stmts.ensures c.open-around.ensures.around

pub returns : goal.returns
returns c =
    let ps = c.args.target.now.params.items in
    let start = body_opened c.args.emitter.now c.open-around.new.self c.bind_params.new.emitter ps c.as_slice.result.now c.open-around.ensures.opened c.as_slice.ensures.value c.in_ok-bind_params.ensures in
    scope_ends (reverse (map bound ps)) c.args.emitter.now c.bind_params.new.emitter c.walk_stmts.new.emitter c.close.new.self _ start c.in_ok-walk_stmts.ensures (record {
      vertices = c.close.ensures.vertices;
      edges = c.close.ensures.edges;
      names = c.close.ensures.names;
      around = c.close.ensures.around ∙ c.open-around.ensures.around;
    })
