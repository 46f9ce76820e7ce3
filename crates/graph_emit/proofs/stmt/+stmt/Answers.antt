use Rattle.std.proofs.Common.{◌∙◌, ap, sym, [], Some}
use Rattle.std.specs.Prelude.{map}
use Rattle.c_tree.specs.declared.tree.Stmt.TheVariants as stmt
use Rattle.graph_emit.specs.Settings.{seen}
use Rattle.graph_emit.specs.Walk.{vars_walk, in_order, stmt_walk}
use Rattle.graph_emit.proofs.Steps.{starts_by, goes_as, goes_by, stops_by, ends, ends_done}
use Rattle.graph_emit.proofs.Loops.{rest_at}
use Rattle.graph_emit.proofs.Scopes.{scope_ends, scope_stops, scope_room}
use Rattle.graph_emit.proofs.Layers.{stmt_declared, stmt_assign, stmt_call, stmt_block, else_walk, stmt_empty, stmt_if, stmt_while, stmt_return}
use Rattle.graph_emit.proofs.stmt.+stmt.Goals as goal

pub walk_block-returns-in_err-walk_stmts : goal.walk_block-returns-in_err-walk_stmts
walk_block-returns-in_err-walk_stmts t c =
    scope_stops [] c.args.emitter.now c.open-around.new.self c.walk_stmts.new.emitter _ c.in_err-walk_stmts.field-0.0 c.from_residual.result c.open-around.ensures.opened c.in_err-walk_stmts.ensures c.from_residual.ensures.1

pub walk_block-close-requires : goal.walk_block-close-requires
walk_block-close-requires t c =
    scope_room [] c.args.emitter.now c.open-around.new.self c.walk_stmts.new.emitter _ c.open-around.result c.open-around.ensures.opened c.in_ok-walk_stmts.ensures c.open-around.ensures.around

pub walk_block-returns : goal.walk_block-returns
walk_block-returns t c =
    scope_ends [] c.args.emitter.now c.open-around.new.self c.walk_stmts.new.emitter c.close.new.self _ c.open-around.ensures.opened c.in_ok-walk_stmts.ensures (record {
      vertices = c.close.ensures.vertices;
      edges = c.close.ensures.edges;
      names = c.close.ensures.names;
      around = c.close.ensures.around ∙ c.open-around.ensures.around;
    })

pub walk_stmt-returns-in-Declared : goal.walk_stmt-returns-in-Declared
walk_stmt-returns-in-Declared t c =
    let set = seen c.args.set.now in
    let s = c.args.emitter.now in
    ends (goes_as (starts_by s (ap (stmt_walk set c.args.gives) c.in-Declared.is ∙ stmt_declared set c.args.gives c.in-Declared.d)) (ap (vars_walk set) (sym c.as_slice.ensures))) c.walk_vars.ensures

pub walk_stmt-returns-in_err-t-in-Assign : goal.walk_stmt-returns-in_err-t-in-Assign
walk_stmt-returns-in_err-t-in-Assign t c =
    let set = seen c.args.set.now in
    let s = c.args.emitter.now in
    stops_by _ c.from_residual.result (starts_by s (ap (stmt_walk set c.args.gives) c.in-Assign.is ∙ stmt_assign set c.args.gives c.in-Assign.place c.in-Assign.value)) c.in_err-t-in-Assign.ensures c.from_residual.ensures.1

pub walk_stmt-returns-in_err-value-in-Assign : goal.walk_stmt-returns-in_err-value-in-Assign
walk_stmt-returns-in_err-value-in-Assign t c =
    let set = seen c.args.set.now in
    let s = c.args.emitter.now in
    stops_by _ c.from_residual-in_err-value-in-Assign.result (goes_by _ (starts_by s (ap (stmt_walk set c.args.gives) c.in-Assign.is ∙ stmt_assign set c.args.gives c.in-Assign.place c.in-Assign.value)) c.in_ok-t-in-Assign.ensures) c.in_err-value-in-Assign.ensures c.from_residual-in_err-value-in-Assign.ensures.1

pub walk_stmt-returns-in_ok-value-in-Assign : goal.walk_stmt-returns-in_ok-value-in-Assign
walk_stmt-returns-in_ok-value-in-Assign t c =
    let set = seen c.args.set.now in
    let s = c.args.emitter.now in
    ends (goes_by _ (goes_by _ (starts_by s (ap (stmt_walk set c.args.gives) c.in-Assign.is ∙ stmt_assign set c.args.gives c.in-Assign.place c.in-Assign.value)) c.in_ok-t-in-Assign.ensures) c.in_ok-value-in-Assign.ensures) c.flow.ensures

pub walk_stmt-returns-in_err-walk_call-in-Call : goal.walk_stmt-returns-in_err-walk_call-in-Call
walk_stmt-returns-in_err-walk_call-in-Call t c =
    let set = seen c.args.set.now in
    let s = c.args.emitter.now in
    stops_by _ c.from_residual-in_err-walk_call-in-Call.result (starts_by s (ap (stmt_walk set c.args.gives) c.in-Call.is ∙ stmt_call set c.args.gives c.in-Call.call)) c.in_err-walk_call-in-Call.ensures c.from_residual-in_err-walk_call-in-Call.ensures.1

pub walk_stmt-returns-in_ok-walk_call-in-Call : goal.walk_stmt-returns-in_ok-walk_call-in-Call
walk_stmt-returns-in_ok-walk_call-in-Call t c =
    let set = seen c.args.set.now in
    let s = c.args.emitter.now in
    ends_done (goes_by _ (starts_by s (ap (stmt_walk set c.args.gives) c.in-Call.is ∙ stmt_call set c.args.gives c.in-Call.call)) c.in_ok-walk_call-in-Call.ensures)

pub walk_stmt-returns-in-Block : goal.walk_stmt-returns-in-Block
walk_stmt-returns-in-Block t c =
    let set = seen c.args.set.now in
    let s = c.args.emitter.now in
    ends (starts_by s (ap (stmt_walk set c.args.gives) c.in-Block.is ∙ stmt_block set c.args.gives c.in-Block.stmts)) c.walk_block.ensures

pub walk_stmt-returns-in-Empty : goal.walk_stmt-returns-in-Empty
walk_stmt-returns-in-Empty t c =
    let set = seen c.args.set.now in
    let s = c.args.emitter.now in
    ends_done (starts_by s (ap (stmt_walk set c.args.gives) c.in-Empty.is ∙ stmt_empty set c.args.gives))

pub walk_stmt-returns-in_err-walk_expr-in-If : goal.walk_stmt-returns-in_err-walk_expr-in-If
walk_stmt-returns-in_err-walk_expr-in-If t c =
    let set = seen c.args.set.now in
    let s = c.args.emitter.now in
    stops_by _ c.from_residual-in_err-walk_expr-in-If.result (starts_by s (ap (stmt_walk set c.args.gives) c.in-If.is ∙ stmt_if set c.args.gives c.in-If.condition c.in-If.body c.in-If.other)) c.in_err-walk_expr-in-If.ensures c.from_residual-in_err-walk_expr-in-If.ensures.1

pub walk_stmt-returns-in_err-walk_stmt-in-If : goal.walk_stmt-returns-in_err-walk_stmt-in-If
walk_stmt-returns-in_err-walk_stmt-in-If t c =
    let set = seen c.args.set.now in
    let s = c.args.emitter.now in
    stops_by _ c.from_residual-in_err-walk_stmt-in-If.result (goes_by _ (starts_by s (ap (stmt_walk set c.args.gives) (c.in-If.is ∙ ap (λ b. stmt.If c.in-If.condition b c.in-If.other) (sym c.get.ensures)) ∙ stmt_if set c.args.gives c.in-If.condition c.get.result.now c.in-If.other)) c.in_ok-walk_expr-in-If.ensures) c.in_err-walk_stmt-in-If.ensures c.from_residual-in_err-walk_stmt-in-If.ensures.1

pub walk_stmt-returns-in-None : goal.walk_stmt-returns-in-None
walk_stmt-returns-in-None t c =
    let set = seen c.args.set.now in
    let s = c.args.emitter.now in
    let g = goes_by _ (goes_by _ (starts_by s (ap (stmt_walk set c.args.gives) (c.in-If.is ∙ ap (λ b. stmt.If c.in-If.condition b c.in-If.other) (sym c.get.ensures)) ∙ stmt_if set c.args.gives c.in-If.condition c.get.result.now c.in-If.other)) c.in_ok-walk_expr-in-If.ensures) c.in_ok-walk_stmt-in-If.ensures in
    ends_done (goes_as g (ap (else_walk set c.args.gives) c.in-None.is))

pub walk_stmt-returns-in-Some : goal.walk_stmt-returns-in-Some
walk_stmt-returns-in-Some t c =
    let set = seen c.args.set.now in
    let s = c.args.emitter.now in
    let g = goes_by _ (goes_by _ (starts_by s (ap (stmt_walk set c.args.gives) (c.in-If.is ∙ ap (λ b. stmt.If c.in-If.condition b c.in-If.other) (sym c.get.ensures)) ∙ stmt_if set c.args.gives c.in-If.condition c.get.result.now c.in-If.other)) c.in_ok-walk_expr-in-If.ensures) c.in_ok-walk_stmt-in-If.ensures in
    ends (goes_as g (ap (else_walk set c.args.gives) (c.in-Some.is ∙ ap Some (sym c.get-in-Some.ensures)))) c.walk_stmt-in-Some.ensures

pub walk_stmt-returns-in_err-walk_expr-in-While : goal.walk_stmt-returns-in_err-walk_expr-in-While
walk_stmt-returns-in_err-walk_expr-in-While t c =
    let set = seen c.args.set.now in
    let s = c.args.emitter.now in
    stops_by _ c.from_residual-in_err-walk_expr-in-While.result (starts_by s (ap (stmt_walk set c.args.gives) c.in-While.is ∙ stmt_while set c.args.gives c.in-While.condition c.in-While.body)) c.in_err-walk_expr-in-While.ensures c.from_residual-in_err-walk_expr-in-While.ensures.1

pub walk_stmt-returns-in_ok-walk_expr-in-While : goal.walk_stmt-returns-in_ok-walk_expr-in-While
walk_stmt-returns-in_ok-walk_expr-in-While t c =
    let set = seen c.args.set.now in
    let s = c.args.emitter.now in
    ends (goes_by _ (starts_by s (ap (stmt_walk set c.args.gives) (c.in-While.is ∙ ap (stmt.While c.in-While.condition) (sym c.get-in-While.ensures)) ∙ stmt_while set c.args.gives c.in-While.condition c.get-in-While.result.now)) c.in_ok-walk_expr-in-While.ensures) c.walk_stmt-in-While.ensures

pub walk_stmt-returns-in-Return : goal.walk_stmt-returns-in-Return
walk_stmt-returns-in-Return t c =
    let set = seen c.args.set.now in
    let s = c.args.emitter.now in
    ends (starts_by s (ap (stmt_walk set c.args.gives) c.in-Return.is ∙ stmt_return set c.args.gives c.in-Return.tok c.in-Return.value)) c.walk_return.ensures

pub walk_stmts-loop-stmt-init : goal.walk_stmts-loop-stmt-init
walk_stmts-loop-stmt-init t c =
    let set = seen c.args.set.now in
    let s = c.args.emitter.now in
    record { goes_on = starts_by s (ap (λ l. in_order (map (stmt_walk set c.args.gives) l)) (sym c.as_slice-stmt-items.ensures)) }

pub walk_stmts-returns-in_err-walk_stmt : goal.walk_stmts-returns-in_err-walk_stmt
walk_stmts-returns-in_err-walk_stmt t c =
    let set = seen c.args.set.now in
    let s = c.args.emitter.now in
    let next = ap (λ l. in_order (map (stmt_walk set c.args.gives) l)) (rest_at c.as_slice-stmt-items.result.now c.loop-stmt.stmt-index c.stmt-item.result c.loop-stmt-test.true c.stmt-item.is) in
    stops_by _ c.from_residual.result (goes_as c.loop-stmt.invariant.goes_on next) c.in_err-walk_stmt.ensures c.from_residual.ensures.1

pub walk_stmts-loop-stmt-preserved : goal.walk_stmts-loop-stmt-preserved
walk_stmts-loop-stmt-preserved t c =
    let set = seen c.args.set.now in
    let s = c.args.emitter.now in
    let next = ap (λ l. in_order (map (stmt_walk set c.args.gives) l)) (rest_at c.as_slice-stmt-items.result.now c.loop-stmt.stmt-index c.stmt-item.result c.loop-stmt-test.true c.stmt-item.is) in
    record { goes_on = goes_by _ (goes_as c.loop-stmt.invariant.goes_on next) c.in_ok-walk_stmt.ensures }
