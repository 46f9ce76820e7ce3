use Rattle.std.proofs.Common.{◌∙◌, ap, sym, refl, length, arith}
use Rattle.std.specs.Prelude.{map}
use Rattle.faults.specs.declared.kinds.InputKind.TheVariants as input
use Rattle.c_tree.specs.declared.tree.Tok.{Tok}
use Rattle.c_tree.specs.declared.tree.Call.TheVariants as call
use Rattle.c_tree.specs.declared.tree.Place.TheVariants as place
use Rattle.c_tree.specs.declared.tree.Pointer.TheVariants as pointer
use Rattle.c_tree.specs.declared.tree.Unary.TheVariants as unary
use Rattle.graph_emit.specs.declared.fault.EmitFault.TheVariants as fault
use Rattle.graph_emit.specs.Settings.{seen}
use Rattle.graph_emit.specs.State.{◌⟫◌, flow}
use Rattle.graph_emit.specs.Functions.{bound, target as target_of}
use Rattle.graph_emit.specs.Walk.{CallWalk, args_flow as args_step, given_or, operate, operate_all, call_walk, place_walk, pointer_walk, unary_walk, added_walk, expr_walk}
use Rattle.graph_emit.proofs.Steps.{starts, starts_by, goes_as, goes, goes_by, stops_on, stops_by, ends, ends_done, ends_as, ends_refused}
use Rattle.graph_emit.proofs.Calls.{goes_known, goes_unknown, goes_flow, goes_not, next_arg}
use Rattle.graph_emit.proofs.Loops.{rest_at}
use Rattle.graph_emit.proofs.Layers.{call_function, call_malloc, place_name, place_star, pointer_name, pointer_star, pointer_call, pointer_paren, unary_place, unary_address, unary_call, unary_number, unary_null, unary_paren, added_is, compared_at, sum_at, right_walk, expr_at}
use Rattle.graph_emit.proofs.expr.+expr.Goals as goal

pub arg_flows-returns-in_err-value : goal.arg_flows-returns-in_err-value
arg_flows-returns-in_err-value t c =
    let set = seen c.args.set.now in
    let s = c.args.emitter.now in
    stops_by _ c.from_residual.result (starts (expr_walk set c.args.arg.now ⟫ λ value. flow set.kind value c.args.t) s) c.in_err-value.ensures c.from_residual.ensures.1

pub arg_flows-returns : goal.arg_flows-returns
arg_flows-returns t c =
    let set = seen c.args.set.now in
    let s = c.args.emitter.now in
    ends (goes_by _ (starts (expr_walk set c.args.arg.now ⟫ λ value. flow set.kind value c.args.t) s) c.in_ok-value.ensures) c.flow.ensures

pub value_of_call-returns-in_err-t : goal.value_of_call-returns-in_err-t
value_of_call-returns-in_err-t t c =
    let set = seen c.args.set.now in
    let s = c.args.emitter.now in
    stops_by _ c.from_residual.result (starts ((call_walk set c.args.call.now).walk ⟫ given_or (call_walk set c.args.call.now).tok) s) c.in_err-t.ensures c.from_residual.ensures.1

pub value_of_call-returns-in-Some : goal.value_of_call-returns-in-Some
value_of_call-returns-in-Some t c =
    let set = seen c.args.set.now in
    let s = c.args.emitter.now in
    let g = goes_by _ (starts ((call_walk set c.args.call.now).walk ⟫ given_or (call_walk set c.args.call.now).tok) s) c.in_ok-t.ensures in
    ends_done (goes_as g (ap (given_or (call_walk set c.args.call.now).tok) c.in-Some.is))

pub value_of_call-returns-in-None : goal.value_of_call-returns-in-None
value_of_call-returns-in-None t c =
    let set = seen c.args.set.now in
    let s = c.args.emitter.now in
    let g = goes_by _ (starts ((call_walk set c.args.call.now).walk ⟫ given_or (call_walk set c.args.call.now).tok) s) c.in_ok-t.ensures in
    ends_refused (call_walk set c.args.call.now).tok (goes_as g (ap (given_or (call_walk set c.args.call.now).tok) c.in-None.is)) (c.refusal.ensures ∙ ap (λ (t : Tok). fault.At t.line input.NoValue) (c.call_tok.ensures set))

pub walk_added-returns-in_err-walk_unary : goal.walk_added-returns-in_err-walk_unary
walk_added-returns-in_err-walk_unary t c =
    let set = seen c.args.set.now in
    let s = c.args.emitter.now in
    stops_by _ c.from_residual.result (starts_by s (ap operate (added_is set c.args.added.now))) c.in_err-walk_unary.ensures c.from_residual.ensures.1

pub walk_added-returns-in_err-t : goal.walk_added-returns-in_err-t
walk_added-returns-in_err-t t c =
    let set = seen c.args.set.now in
    let s = c.args.emitter.now in
    stops_by _ c.from_residual-in_err-t.result (goes_by _ (starts_by s (ap operate (added_is set c.args.added.now))) c.in_ok-walk_unary.ensures) c.in_err-t.ensures c.from_residual-in_err-t.ensures.1

pub walk_added-returns : goal.walk_added-returns
walk_added-returns t c =
    let set = seen c.args.set.now in
    let s = c.args.emitter.now in
    ends_as c.plain.result (goes_by _ (goes_by _ (starts_by s (ap operate (added_is set c.args.added.now))) c.in_ok-walk_unary.ensures) c.in_ok-t.ensures) c.plain.ensures

pub walk_compared-returns-in_err-walk_sum : goal.walk_compared-returns-in_err-walk_sum
walk_compared-returns-in_err-walk_sum t c =
    let set = seen c.args.set.now in
    let s = c.args.emitter.now in
    stops_by _ c.from_residual.result (starts_by s (ap operate (compared_at set c.args.compared.now))) c.in_err-walk_sum.ensures c.from_residual.ensures.1

pub walk_compared-returns-in_err-t : goal.walk_compared-returns-in_err-t
walk_compared-returns-in_err-t t c =
    let set = seen c.args.set.now in
    let s = c.args.emitter.now in
    stops_by _ c.from_residual-in_err-t.result (goes_by _ (starts_by s (ap operate (compared_at set c.args.compared.now))) c.in_ok-walk_sum.ensures) c.in_err-t.ensures c.from_residual-in_err-t.ensures.1

pub walk_compared-returns : goal.walk_compared-returns
walk_compared-returns t c =
    let set = seen c.args.set.now in
    let s = c.args.emitter.now in
    ends_as c.plain.result (goes_by _ (goes_by _ (starts_by s (ap operate (compared_at set c.args.compared.now))) c.in_ok-walk_sum.ensures) c.in_ok-t.ensures) c.plain.ensures

pub walk_expr-returns-in_err-value : goal.walk_expr-returns-in_err-value
walk_expr-returns-in_err-value t c =
    let set = seen c.args.set.now in
    let s = c.args.emitter.now in
    stops_by _ c.from_residual.result (starts_by s (expr_at set c.args.e.now)) c.in_err-value.ensures c.from_residual.ensures.1

pub walk_expr-returns-in-None : goal.walk_expr-returns-in-None
walk_expr-returns-in-None t c =
    let set = seen c.args.set.now in
    let s = c.args.emitter.now in
    let g = goes_by _ (starts_by s (expr_at set c.args.e.now)) c.in_ok-value.ensures in
    ends_done (goes_as g (ap (λ r. right_walk set r c.in_ok-value.value) c.in-None.is))

pub walk_expr-returns-in-Some : goal.walk_expr-returns-in-Some
walk_expr-returns-in-Some t c =
    let set = seen c.args.set.now in
    let s = c.args.emitter.now in
    let g = goes_by _ (starts_by s (expr_at set c.args.e.now)) c.in_ok-value.ensures in
    ends (goes_as g (ap (λ r. right_walk set r c.in_ok-value.value) c.in-Some.is)) c.walk_compared.ensures

pub walk_place-returns-in-Name : goal.walk_place-returns-in-Name
walk_place-returns-in-Name t c =
    let set = seen c.args.set.now in
    let s = c.args.emitter.now in
    ends (starts_by s (ap (place_walk set) c.in-Name.is ∙ place_name set c.in-Name.name)) c.variable.ensures

pub walk_place-returns-in_err-v-in-Star : goal.walk_place-returns-in_err-v-in-Star
walk_place-returns-in_err-v-in-Star t c =
    let set = seen c.args.set.now in
    let s = c.args.emitter.now in
    stops_by _ c.from_residual.result (starts_by s (ap (place_walk set) (c.in-Star.is ∙ ap (place.Star c.in-Star.tok) (sym c.get.ensures)) ∙ place_star set c.in-Star.tok c.get.result.now)) c.in_err-v-in-Star.ensures c.from_residual.ensures.1

pub walk_place-returns-in_ok-v-in-Star : goal.walk_place-returns-in_ok-v-in-Star
walk_place-returns-in_ok-v-in-Star t c =
    let set = seen c.args.set.now in
    let s = c.args.emitter.now in
    ends (goes_by _ (starts_by s (ap (place_walk set) (c.in-Star.is ∙ ap (place.Star c.in-Star.tok) (sym c.get.ensures)) ∙ place_star set c.in-Star.tok c.get.result.now)) c.in_ok-v-in-Star.ensures) c.pointed_to.ensures

pub walk_pointer-returns-in-Name : goal.walk_pointer-returns-in-Name
walk_pointer-returns-in-Name t c =
    let set = seen c.args.set.now in
    let s = c.args.emitter.now in
    ends (starts_by s (ap (pointer_walk set) c.in-Name.is ∙ pointer_name set c.in-Name.name)) c.variable.ensures

pub walk_pointer-returns-in_err-v-in-Star : goal.walk_pointer-returns-in_err-v-in-Star
walk_pointer-returns-in_err-v-in-Star t c =
    let set = seen c.args.set.now in
    let s = c.args.emitter.now in
    stops_by _ c.from_residual.result (starts_by s (ap (pointer_walk set) (c.in-Star.is ∙ ap (pointer.Star c.in-Star.tok) (sym c.get.ensures)) ∙ pointer_star set c.in-Star.tok c.get.result.now)) c.in_err-v-in-Star.ensures c.from_residual.ensures.1

pub walk_pointer-returns-in_ok-v-in-Star : goal.walk_pointer-returns-in_ok-v-in-Star
walk_pointer-returns-in_ok-v-in-Star t c =
    let set = seen c.args.set.now in
    let s = c.args.emitter.now in
    ends (goes_by _ (starts_by s (ap (pointer_walk set) (c.in-Star.is ∙ ap (pointer.Star c.in-Star.tok) (sym c.get.ensures)) ∙ pointer_star set c.in-Star.tok c.get.result.now)) c.in_ok-v-in-Star.ensures) c.pointed_to.ensures

pub walk_pointer-returns-in-Call : goal.walk_pointer-returns-in-Call
walk_pointer-returns-in-Call t c =
    let set = seen c.args.set.now in
    let s = c.args.emitter.now in
    ends (starts_by s (ap (pointer_walk set) c.in-Call.is ∙ pointer_call set c.in-Call.call)) c.value_of_call.ensures

pub walk_pointer-returns-in_err-value-in-Paren : goal.walk_pointer-returns-in_err-value-in-Paren
walk_pointer-returns-in_err-value-in-Paren t c =
    let set = seen c.args.set.now in
    let s = c.args.emitter.now in
    stops_by _ c.from_residual-in_err-value-in-Paren.result (starts_by s (ap (pointer_walk set) (c.in-Paren.is ∙ ap pointer.Paren (sym c.get-in-Paren.ensures)) ∙ pointer_paren set c.get-in-Paren.result.now)) c.in_err-value-in-Paren.ensures c.from_residual-in_err-value-in-Paren.ensures.1

pub walk_pointer-returns-in_ok-value-in-Paren : goal.walk_pointer-returns-in_ok-value-in-Paren
walk_pointer-returns-in_ok-value-in-Paren t c =
    let set = seen c.args.set.now in
    let s = c.args.emitter.now in
    ends_done (goes_by _ (starts_by s (ap (pointer_walk set) (c.in-Paren.is ∙ ap pointer.Paren (sym c.get-in-Paren.ensures)) ∙ pointer_paren set c.get-in-Paren.result.now)) c.in_ok-value-in-Paren.ensures)

pub walk_unary-returns-in_err-v-in-Place : goal.walk_unary-returns-in_err-v-in-Place
walk_unary-returns-in_err-v-in-Place t c =
    let set = seen c.args.set.now in
    let s = c.args.emitter.now in
    stops_by _ c.from_residual.result (starts_by s (ap (unary_walk set) c.in-Place.is ∙ unary_place set c.in-Place.place)) c.in_err-v-in-Place.ensures c.from_residual.ensures.1

pub walk_unary-returns-in_ok-v-in-Place : goal.walk_unary-returns-in_ok-v-in-Place
walk_unary-returns-in_ok-v-in-Place t c =
    let set = seen c.args.set.now in
    let s = c.args.emitter.now in
    ends_as c.plain.result (goes_by _ (starts_by s (ap (unary_walk set) c.in-Place.is ∙ unary_place set c.in-Place.place)) c.in_ok-v-in-Place.ensures) c.plain.ensures

pub walk_unary-returns-in_err-v-in-Address : goal.walk_unary-returns-in_err-v-in-Address
walk_unary-returns-in_err-v-in-Address t c =
    let set = seen c.args.set.now in
    let s = c.args.emitter.now in
    stops_by _ c.from_residual-in_err-v-in-Address.result (starts_by s (ap (unary_walk set) c.in-Address.is ∙ unary_address set c.in-Address.tok c.in-Address.place)) c.in_err-v-in-Address.ensures c.from_residual-in_err-v-in-Address.ensures.1

pub walk_unary-returns-in_err-t-in-Address : goal.walk_unary-returns-in_err-t-in-Address
walk_unary-returns-in_err-t-in-Address t c =
    let set = seen c.args.set.now in
    let s = c.args.emitter.now in
    stops_by _ c.from_residual-in_err-t-in-Address.result (goes_by _ (starts_by s (ap (unary_walk set) c.in-Address.is ∙ unary_address set c.in-Address.tok c.in-Address.place)) c.in_ok-v-in-Address.ensures) c.in_err-t-in-Address.ensures c.from_residual-in_err-t-in-Address.ensures.1

pub walk_unary-returns-in_ok-t-in-Address : goal.walk_unary-returns-in_ok-t-in-Address
walk_unary-returns-in_ok-t-in-Address t c =
    let set = seen c.args.set.now in
    let s = c.args.emitter.now in
    ends_as c.plain-in-Address.result (goes_by _ (goes_by _ (starts_by s (ap (unary_walk set) c.in-Address.is ∙ unary_address set c.in-Address.tok c.in-Address.place)) c.in_ok-v-in-Address.ensures) c.in_ok-t-in-Address.ensures) c.plain-in-Address.ensures

pub walk_unary-returns-in_err-t-in-Call : goal.walk_unary-returns-in_err-t-in-Call
walk_unary-returns-in_err-t-in-Call t c =
    let set = seen c.args.set.now in
    let s = c.args.emitter.now in
    stops_by _ c.from_residual-in_err-t-in-Call.result (starts_by s (ap (unary_walk set) c.in-Call.is ∙ unary_call set c.in-Call.call)) c.in_err-t-in-Call.ensures c.from_residual-in_err-t-in-Call.ensures.1

pub walk_unary-returns-in_ok-t-in-Call : goal.walk_unary-returns-in_ok-t-in-Call
walk_unary-returns-in_ok-t-in-Call t c =
    let set = seen c.args.set.now in
    let s = c.args.emitter.now in
    ends_as c.plain-in-Call.result (goes_by _ (starts_by s (ap (unary_walk set) c.in-Call.is ∙ unary_call set c.in-Call.call)) c.in_ok-t-in-Call.ensures) c.plain-in-Call.ensures

pub walk_unary-returns-in_err-t-in-Number : goal.walk_unary-returns-in_err-t-in-Number
walk_unary-returns-in_err-t-in-Number t c =
    let set = seen c.args.set.now in
    let s = c.args.emitter.now in
    stops_by _ c.from_residual-in_err-t-in-Number.result (starts_by s (ap (unary_walk set) c.in-Number.is ∙ unary_number set c.in-Number.tok)) c.in_err-t-in-Number.ensures c.from_residual-in_err-t-in-Number.ensures.1

pub walk_unary-returns-in_ok-t-in-Number : goal.walk_unary-returns-in_ok-t-in-Number
walk_unary-returns-in_ok-t-in-Number t c =
    let set = seen c.args.set.now in
    let s = c.args.emitter.now in
    ends_as c.plain-in-Number.result (goes_by _ (starts_by s (ap (unary_walk set) c.in-Number.is ∙ unary_number set c.in-Number.tok)) c.in_ok-t-in-Number.ensures) c.plain-in-Number.ensures

pub walk_unary-returns-in_err-t-in-Null : goal.walk_unary-returns-in_err-t-in-Null
walk_unary-returns-in_err-t-in-Null t c =
    let set = seen c.args.set.now in
    let s = c.args.emitter.now in
    stops_by _ c.from_residual-in_err-t-in-Null.result (starts_by s (ap (unary_walk set) c.in-Null.is ∙ unary_null set c.in-Null.tok)) c.in_err-t-in-Null.ensures c.from_residual-in_err-t-in-Null.ensures.1

pub walk_unary-returns-in_ok-t-in-Null : goal.walk_unary-returns-in_ok-t-in-Null
walk_unary-returns-in_ok-t-in-Null t c =
    let set = seen c.args.set.now in
    let s = c.args.emitter.now in
    ends_done (goes_by _ (starts_by s (ap (unary_walk set) c.in-Null.is ∙ unary_null set c.in-Null.tok)) c.in_ok-t-in-Null.ensures)

pub walk_unary-returns-in-Paren : goal.walk_unary-returns-in-Paren
walk_unary-returns-in-Paren t c =
    let set = seen c.args.set.now in
    let s = c.args.emitter.now in
    ends (starts_by s (ap (unary_walk set) (c.in-Paren.is ∙ ap unary.Paren (sym c.get.ensures)) ∙ unary_paren set c.get.result.now)) c.walk_expr.ensures

pub walk_call-returns-in_err-target-in-Function : goal.walk_call-returns-in_err-target-in-Function
walk_call-returns-in_err-target-in-Function t c =
    let set = seen c.args.set.now in
    let s = c.args.emitter.now in
    let name = c.in-Function.name in
    let e = c.in_err-target-in-Function in
    stops_on _ _ e.field-0.0 c.from_residual.result (starts_by s (ap (λ (w : CallWalk). w.walk) (ap (call_walk set) c.in-Function.is ∙ call_function set name c.in-Function.args)))
    (goes_unknown c.args.set.now.kind c.args.set.now.functions.now name s e.field-0.0 e.ensures.0 e.ensures.1) c.from_residual.ensures.1

pub walk_call-returns-then-len : goal.walk_call-returns-then-len
walk_call-returns-then-len t c =
    let set = seen c.args.set.now in
    let s = c.args.emitter.now in
    let name = c.in-Function.name in
    let g = goes _ (starts_by s (ap (λ (w : CallWalk). w.walk) (ap (call_walk set) c.in-Function.is ∙ call_function set name c.in-Function.args))) (goes_known c.args.set.now.kind c.args.set.now.functions.now name (target_of c.in_ok-target-in-Function.target.now) s c.in_ok-target-in-Function.ensures) in
    let other = goes_not set name c.in_ok-target-in-Function.target.now c.in-Function.args (λ e. c.if-len.true (omega (arith, e, c.len.ensures, c.len-in-Function.ensures))) in
    ends_refused name.tok (goes_as g other) c.refusal.ensures

pub walk_call-returns-in_err-args_flow-in-Function : goal.walk_call-returns-in_err-args_flow-in-Function
walk_call-returns-in_err-args_flow-in-Function t c =
    let set = seen c.args.set.now in
    let s = c.args.emitter.now in
    let name = c.in-Function.name in
    let g = goes _ (starts_by s (ap (λ (w : CallWalk). w.walk) (ap (call_walk set) c.in-Function.is ∙ call_function set name c.in-Function.args))) (goes_known c.args.set.now.kind c.args.set.now.functions.now name (target_of c.in_ok-target-in-Function.target.now) s c.in_ok-target-in-Function.ensures) in
    let flows = goes_flow set name c.in_ok-target-in-Function.target.now c.in-Function.args c.in-Function.args c.as_slice.result.now refl c.as_slice.ensures.value (omega (arith, ap length c.as_slice.ensures.value, c.len.ensures, c.len-in-Function.ensures, c.if-len.false)) in
    stops_by _ c.from_residual-in_err-args_flow-in-Function.result (goes_as g flows) c.in_err-args_flow-in-Function.ensures c.from_residual-in_err-args_flow-in-Function.ensures.1

pub walk_call-returns-in_ok-args_flow-in-Function : goal.walk_call-returns-in_ok-args_flow-in-Function
walk_call-returns-in_ok-args_flow-in-Function t c =
    let set = seen c.args.set.now in
    let s = c.args.emitter.now in
    let name = c.in-Function.name in
    let g = goes _ (starts_by s (ap (λ (w : CallWalk). w.walk) (ap (call_walk set) c.in-Function.is ∙ call_function set name c.in-Function.args))) (goes_known c.args.set.now.kind c.args.set.now.functions.now name (target_of c.in_ok-target-in-Function.target.now) s c.in_ok-target-in-Function.ensures) in
    let flows = goes_flow set name c.in_ok-target-in-Function.target.now c.in-Function.args c.in-Function.args c.as_slice.result.now refl c.as_slice.ensures.value (omega (arith, ap length c.as_slice.ensures.value, c.len.ensures, c.len-in-Function.ensures, c.if-len.false)) in
    ends (goes_by _ (goes_as g flows) c.in_ok-args_flow-in-Function.ensures) c.given.ensures

pub walk_call-returns-in_err-walk_expr-in-Malloc : goal.walk_call-returns-in_err-walk_expr-in-Malloc
walk_call-returns-in_err-walk_expr-in-Malloc t c =
    let set = seen c.args.set.now in
    let s = c.args.emitter.now in
    stops_by _ c.from_residual-in_err-walk_expr-in-Malloc.result (starts_by s (ap (λ (w : CallWalk). w.walk) (ap (call_walk set) (c.in-Malloc.is ∙ ap (call.Malloc c.in-Malloc.tok) (sym c.get.ensures)) ∙ call_malloc set c.in-Malloc.tok c.get.result.now))) c.in_err-walk_expr-in-Malloc.ensures c.from_residual-in_err-walk_expr-in-Malloc.ensures.1

pub walk_call-returns-in_err-t-in-Malloc : goal.walk_call-returns-in_err-t-in-Malloc
walk_call-returns-in_err-t-in-Malloc t c =
    let set = seen c.args.set.now in
    let s = c.args.emitter.now in
    stops_by _ c.from_residual-in_err-t-in-Malloc.result (goes_by _ (starts_by s (ap (λ (w : CallWalk). w.walk) (ap (call_walk set) (c.in-Malloc.is ∙ ap (call.Malloc c.in-Malloc.tok) (sym c.get.ensures)) ∙ call_malloc set c.in-Malloc.tok c.get.result.now))) c.in_ok-walk_expr-in-Malloc.ensures) c.in_err-t-in-Malloc.ensures c.from_residual-in_err-t-in-Malloc.ensures.1

pub walk_call-returns-in_ok-t-in-Malloc : goal.walk_call-returns-in_ok-t-in-Malloc
walk_call-returns-in_ok-t-in-Malloc t c =
    let set = seen c.args.set.now in
    let s = c.args.emitter.now in
    ends_done (goes_by _ (goes_by _ (starts_by s (ap (λ (w : CallWalk). w.walk) (ap (call_walk set) (c.in-Malloc.is ∙ ap (call.Malloc c.in-Malloc.tok) (sym c.get.ensures)) ∙ call_malloc set c.in-Malloc.tok c.get.result.now))) c.in_ok-walk_expr-in-Malloc.ensures) c.in_ok-t-in-Malloc.ensures)

pub args_flow-returns-in_err-arg_flows : goal.args_flow-returns-in_err-arg_flows
args_flow-returns-in_err-arg_flows t c =
    let set = seen c.args.set.now in
    let s = c.args.emitter.now in
    let next = next_arg set c.as_slice-items.result.now c.args.params.now c.loop-i.i c.index-items-i.result c.vertex_of.result c.loop-i-test.true c.index-items-i.is c.vertex_of.ensures in
    stops_by _ c.from_residual.result (goes_as c.loop-i.invariant.goes_on next) c.in_err-arg_flows.ensures c.from_residual.ensures.1

pub args_flow-loop-i-preserved : goal.args_flow-loop-i-preserved
args_flow-loop-i-preserved t c =
    let set = seen c.args.set.now in
    let s = c.args.emitter.now in
    let next = next_arg set c.as_slice-items.result.now c.args.params.now c.loop-i.i c.index-items-i.result c.vertex_of.result c.loop-i-test.true c.index-items-i.is c.vertex_of.ensures in
    record { goes_on = goes_by _ (goes_as c.loop-i.invariant.goes_on next) c.in_ok-arg_flows.ensures }

pub walk_sum-returns-in_err-value : goal.walk_sum-returns-in_err-value
walk_sum-returns-in_err-value t c =
    let set = seen c.args.set.now in
    let s = c.args.emitter.now in
    stops_by _ c.from_residual.result (starts_by s (sum_at set c.args.sum.now)) c.in_err-value.ensures c.from_residual.ensures.1

pub walk_sum-loop-added-init : goal.walk_sum-loop-added-init
walk_sum-loop-added-init t c =
    let set = seen c.args.set.now in
    let s = c.args.emitter.now in
    let g = goes_by _ (starts_by s (sum_at set c.args.sum.now)) c.in_ok-value.ensures in
    record { goes_on = goes_as g (ap (λ l. operate_all c.in_ok-value.value (map (added_walk set) l)) (sym c.as_slice-added-items.ensures)) }

pub walk_sum-returns-in_err-value-2 : goal.walk_sum-returns-in_err-value-2
walk_sum-returns-in_err-value-2 t c =
    let set = seen c.args.set.now in
    let s = c.args.emitter.now in
    let xs = c.as_slice-added-items.result.now in
    let i = c.loop-added.added-index in
    let next = ap (λ l. operate_all c.loop-added.value (map (added_walk set) l)) (rest_at xs i c.added-item.result c.loop-added-test.true c.added-item.is) in
    stops_by _ c.from_residual-in_err-value-2.result (goes_as c.loop-added.invariant.goes_on next) c.in_err-value-2.ensures c.from_residual-in_err-value-2.ensures.1

pub walk_sum-loop-added-preserved : goal.walk_sum-loop-added-preserved
walk_sum-loop-added-preserved t c =
    let set = seen c.args.set.now in
    let s = c.args.emitter.now in
    let xs = c.as_slice-added-items.result.now in
    let i = c.loop-added.added-index in
    let next = ap (λ l. operate_all c.loop-added.value (map (added_walk set) l)) (rest_at xs i c.added-item.result c.loop-added-test.true c.added-item.is) in
    record { goes_on = goes_by _ (goes_as c.loop-added.invariant.goes_on next) c.in_ok-value-2.ensures }

pub args_flow-loop-i-init : goal.args_flow-loop-i-init
args_flow-loop-i-init t c =
    let set = seen c.args.set.now in
    let s = c.args.emitter.now in
    record { goes_on = starts_by s (ap (λ l. args_step set.kind (map (expr_walk set) l) (map bound c.args.params.now)) (sym c.as_slice-items.ensures)) }
