-- One equation of the walk for each form.
use Rattle.std.proofs.Common.{◌≡◌, ◌∙◌, sym, ap, ℕ, List, [], Option, Some, None, true}
use Rattle.std.specs.Prelude.{map}
use Rattle.c_tree.specs.declared.tree.Tok.{Tok}
use Rattle.c_tree.specs.declared.tree.Name.{Name}
use Rattle.c_tree.specs.declared.tree.Call.{Call, fold-roll-Call}
use Rattle.c_tree.specs.declared.tree.Call.TheOpen as o
use Rattle.c_tree.specs.declared.tree.Call.TheVariants as call
use Rattle.c_tree.specs.declared.tree.Place.{Place, fold-roll-Place}
use Rattle.c_tree.specs.declared.tree.Place.TheVariants as place
use Rattle.c_tree.specs.declared.tree.Pointer.{Pointer, fold-roll-Pointer}
use Rattle.c_tree.specs.declared.tree.Pointer.TheVariants as pointer
use Rattle.c_tree.specs.declared.tree.Unary.{Unary, fold-roll-Unary}
use Rattle.c_tree.specs.declared.tree.Unary.TheVariants as unary
use Rattle.c_tree.specs.declared.tree.Added.{Added, fold_out-Added}
use Rattle.c_tree.specs.declared.tree.Compared.{Compared, Compared-F, out-Compared, roll-Compared, roll-out-Compared, fold-roll-Compared}
use Rattle.c_tree.specs.declared.tree.Sum.{Sum, Sum-F, out-Sum, roll-Sum, roll-out-Sum, fold-roll-Sum}
use Rattle.c_tree.specs.declared.tree.Expr.{Expr, out-Expr, roll-Expr, roll-out-Expr, fold-roll-Expr}
use Rattle.c_tree.specs.declared.tree.Declaration.{Declaration}
use Rattle.c_tree.specs.declared.tree.Stmt.{Stmt, fold-roll-Stmt}
use Rattle.c_tree.specs.declared.tree.Stmt.TheOpen as s
use Rattle.c_tree.specs.declared.tree.Stmt.TheVariants as stmt
use Rattle.emit_list.specs.declared.vertex.VertexForm.TheVariants as form
use Rattle.graph_emit.specs.declared.emitter.Value.{Value}
use Rattle.graph_emit.specs.State.{Walk, done, ◌⟫◌, fresh, pointed_to, addressed, plain, flow, variable, scoped, Setting}
use Rattle.graph_emit.specs.Walk.{CallWalk, OperandWalk, goes_to, value_of, call_step, place_step, pointer_step, unary_step, added_step, compared_step, expr_step, sum_step, call_walk, place_walk, pointer_walk, unary_walk, added_walk, compared_walk, sum_walk, expr_walk, operate, operate_all, vars_walk, in_order, returned, stmt_step, stmt_walk}

pub call_function : (set : Setting) (name : Name) (args : List Expr) → call_walk set (call.Function name args) ≡ record { walk = set.goes name ⟫ goes_to set name (map (expr_walk set) args); tok = name.tok }
unfolding call_walk place_walk pointer_walk unary_walk added_walk compared_walk expr_walk sum_walk
call_function set name args = ap (call_walk set) (sym (call.rolls-Function name args)) ∙ fold-roll-Call CallWalk (Walk ℕ) (Walk ℕ) (Walk Value) OperandWalk OperandWalk (Walk Value) (Walk Value) (call_step set) place_step pointer_step unary_step added_step compared_step expr_step sum_step (o.Function name args)

pub call_malloc : (set : Setting) (tok : Tok) (size : Expr) → call_walk set (call.Malloc tok size) ≡ record { walk = expr_walk set size ⟫ λ _. fresh tok form.Malloc [] ⟫ λ t. done (Some t); tok = tok }
unfolding call_walk place_walk pointer_walk unary_walk added_walk compared_walk expr_walk sum_walk
call_malloc set tok size = ap (call_walk set) (sym (call.rolls-Malloc tok size)) ∙ fold-roll-Call CallWalk (Walk ℕ) (Walk ℕ) (Walk Value) OperandWalk OperandWalk (Walk Value) (Walk Value) (call_step set) place_step pointer_step unary_step added_step compared_step expr_step sum_step (o.Malloc tok size)

pub place_name : (set : Setting) (name : Name) → place_walk set (place.Name name) ≡ variable name
unfolding call_walk place_walk pointer_walk unary_walk added_walk compared_walk expr_walk sum_walk
place_name set name = ap (place_walk set) (sym (place.rolls-Name name)) ∙ fold-roll-Place CallWalk (Walk ℕ) (Walk ℕ) (Walk Value) OperandWalk OperandWalk (Walk Value) (Walk Value) (call_step set) place_step pointer_step unary_step added_step compared_step expr_step sum_step (o.Place::Name name)

pub place_star : (set : Setting) (tok : Tok) (inner : Pointer) → place_walk set (place.Star tok inner) ≡ (pointer_walk set inner ⟫ pointed_to tok)
unfolding call_walk place_walk pointer_walk unary_walk added_walk compared_walk expr_walk sum_walk
place_star set tok inner = ap (place_walk set) (sym (place.rolls-Star tok inner)) ∙ fold-roll-Place CallWalk (Walk ℕ) (Walk ℕ) (Walk Value) OperandWalk OperandWalk (Walk Value) (Walk Value) (call_step set) place_step pointer_step unary_step added_step compared_step expr_step sum_step (o.Place::Star tok inner)

pub pointer_name : (set : Setting) (name : Name) → pointer_walk set (pointer.Name name) ≡ variable name
unfolding call_walk place_walk pointer_walk unary_walk added_walk compared_walk expr_walk sum_walk
pointer_name set name = ap (pointer_walk set) (sym (pointer.rolls-Name name)) ∙ fold-roll-Pointer CallWalk (Walk ℕ) (Walk ℕ) (Walk Value) OperandWalk OperandWalk (Walk Value) (Walk Value) (call_step set) place_step pointer_step unary_step added_step compared_step expr_step sum_step (o.Pointer::Name name)

pub pointer_star : (set : Setting) (tok : Tok) (inner : Pointer) → pointer_walk set (pointer.Star tok inner) ≡ (pointer_walk set inner ⟫ pointed_to tok)
unfolding call_walk place_walk pointer_walk unary_walk added_walk compared_walk expr_walk sum_walk
pointer_star set tok inner = ap (pointer_walk set) (sym (pointer.rolls-Star tok inner)) ∙ fold-roll-Pointer CallWalk (Walk ℕ) (Walk ℕ) (Walk Value) OperandWalk OperandWalk (Walk Value) (Walk Value) (call_step set) place_step pointer_step unary_step added_step compared_step expr_step sum_step (o.Pointer::Star tok inner)

pub pointer_call : (set : Setting) (c : Call) → pointer_walk set (pointer.Call c) ≡ value_of (call_walk set c)
unfolding call_walk place_walk pointer_walk unary_walk added_walk compared_walk expr_walk sum_walk
pointer_call set c = ap (pointer_walk set) (sym (pointer.rolls-Call c)) ∙ fold-roll-Pointer CallWalk (Walk ℕ) (Walk ℕ) (Walk Value) OperandWalk OperandWalk (Walk Value) (Walk Value) (call_step set) place_step pointer_step unary_step added_step compared_step expr_step sum_step (o.Pointer::Call c)

pub pointer_paren : (set : Setting) (e : Expr) → pointer_walk set (pointer.Paren e) ≡ (expr_walk set e ⟫ λ value. done value.vertex)
unfolding call_walk place_walk pointer_walk unary_walk added_walk compared_walk expr_walk sum_walk
pointer_paren set e = ap (pointer_walk set) (sym (pointer.rolls-Paren e)) ∙ fold-roll-Pointer CallWalk (Walk ℕ) (Walk ℕ) (Walk Value) OperandWalk OperandWalk (Walk Value) (Walk Value) (call_step set) place_step pointer_step unary_step added_step compared_step expr_step sum_step (o.Pointer::Paren e)

pub unary_place : (set : Setting) (p : Place) → unary_walk set (unary.Place p) ≡ (place_walk set p ⟫ λ v. done (plain v))
unfolding call_walk place_walk pointer_walk unary_walk added_walk compared_walk expr_walk sum_walk
unary_place set p = ap (unary_walk set) (sym (unary.rolls-Place p)) ∙ fold-roll-Unary CallWalk (Walk ℕ) (Walk ℕ) (Walk Value) OperandWalk OperandWalk (Walk Value) (Walk Value) (call_step set) place_step pointer_step unary_step added_step compared_step expr_step sum_step (o.Place p)

pub unary_address : (set : Setting) (tok : Tok) (p : Place) → unary_walk set (unary.Address tok p) ≡ (place_walk set p ⟫ λ v. addressed tok v ⟫ λ t. done (plain t))
unfolding call_walk place_walk pointer_walk unary_walk added_walk compared_walk expr_walk sum_walk
unary_address set tok p = ap (unary_walk set) (sym (unary.rolls-Address tok p)) ∙ fold-roll-Unary CallWalk (Walk ℕ) (Walk ℕ) (Walk Value) OperandWalk OperandWalk (Walk Value) (Walk Value) (call_step set) place_step pointer_step unary_step added_step compared_step expr_step sum_step (o.Address tok p)

pub unary_call : (set : Setting) (c : Call) → unary_walk set (unary.Call c) ≡ (value_of (call_walk set c) ⟫ λ t. done (plain t))
unfolding call_walk place_walk pointer_walk unary_walk added_walk compared_walk expr_walk sum_walk
unary_call set c = ap (unary_walk set) (sym (unary.rolls-Call c)) ∙ fold-roll-Unary CallWalk (Walk ℕ) (Walk ℕ) (Walk Value) OperandWalk OperandWalk (Walk Value) (Walk Value) (call_step set) place_step pointer_step unary_step added_step compared_step expr_step sum_step (o.Unary::Call c)

pub unary_number : (set : Setting) (tok : Tok) → unary_walk set (unary.Number tok) ≡ (fresh tok form.Number [] ⟫ λ t. done (plain t))
unfolding call_walk place_walk pointer_walk unary_walk added_walk compared_walk expr_walk sum_walk
unary_number set tok = ap (unary_walk set) (sym (unary.rolls-Number tok)) ∙ fold-roll-Unary CallWalk (Walk ℕ) (Walk ℕ) (Walk Value) OperandWalk OperandWalk (Walk Value) (Walk Value) (call_step set) place_step pointer_step unary_step added_step compared_step expr_step sum_step (o.Number tok)

pub unary_null : (set : Setting) (tok : Tok) → unary_walk set (unary.Null tok) ≡ (fresh tok form.Null [] ⟫ λ t. done (record { vertex = t; is_null = true }))
unfolding call_walk place_walk pointer_walk unary_walk added_walk compared_walk expr_walk sum_walk
unary_null set tok = ap (unary_walk set) (sym (unary.rolls-Null tok)) ∙ fold-roll-Unary CallWalk (Walk ℕ) (Walk ℕ) (Walk Value) OperandWalk OperandWalk (Walk Value) (Walk Value) (call_step set) place_step pointer_step unary_step added_step compared_step expr_step sum_step (o.Null tok)

pub unary_paren : (set : Setting) (e : Expr) → unary_walk set (unary.Paren e) ≡ expr_walk set e
unfolding call_walk place_walk pointer_walk unary_walk added_walk compared_walk expr_walk sum_walk
unary_paren set e = ap (unary_walk set) (sym (unary.rolls-Paren e)) ∙ fold-roll-Unary CallWalk (Walk ℕ) (Walk ℕ) (Walk Value) OperandWalk OperandWalk (Walk Value) (Walk Value) (call_step set) place_step pointer_step unary_step added_step compared_step expr_step sum_step (o.Unary::Paren e)

pub added_is : (set : Setting) (a : Added) → added_walk set a ≡ record { tok = a.tok; walk = unary_walk set a.unary }
unfolding call_walk place_walk pointer_walk unary_walk added_walk compared_walk expr_walk sum_walk
added_is set a = fold_out-Added CallWalk (Walk ℕ) (Walk ℕ) (Walk Value) OperandWalk OperandWalk (Walk Value) (Walk Value) (call_step set) place_step pointer_step unary_step added_step compared_step expr_step sum_step a

abbrev pub ComparedLayer : Type 0
ComparedLayer = Compared-F Call Place Pointer Unary Added Compared Expr Sum

abbrev pub SumLayer : Type 0
SumLayer = Sum-F Call Place Pointer Unary Added Compared Expr Sum

pub compared_is : (set : Setting) (x : ComparedLayer) → compared_walk set (roll-Compared x) ≡ record { tok = x.tok; walk = sum_walk set x.sum }
unfolding call_walk place_walk pointer_walk unary_walk added_walk compared_walk expr_walk sum_walk
compared_is set x = fold-roll-Compared CallWalk (Walk ℕ) (Walk ℕ) (Walk Value) OperandWalk OperandWalk (Walk Value) (Walk Value) (call_step set) place_step pointer_step unary_step added_step compared_step expr_step sum_step x

pub compared_at : (set : Setting) (c : Compared) → compared_walk set c ≡ record { tok = (out-Compared c).tok; walk = sum_walk set (out-Compared c).sum }
compared_at set c = ap (compared_walk set) (sym (roll-out-Compared c)) ∙ compared_is set (out-Compared c)

pub sum_is : (set : Setting) (x : SumLayer) → sum_walk set (roll-Sum x) ≡ (unary_walk set x.first ⟫ λ value. operate_all value (map (added_walk set) x.rest))
unfolding call_walk place_walk pointer_walk unary_walk added_walk compared_walk expr_walk sum_walk
sum_is set x = fold-roll-Sum CallWalk (Walk ℕ) (Walk ℕ) (Walk Value) OperandWalk OperandWalk (Walk Value) (Walk Value) (call_step set) place_step pointer_step unary_step added_step compared_step expr_step sum_step x

pub sum_at : (set : Setting) (x : Sum) → sum_walk set x ≡ (unary_walk set (out-Sum x).first ⟫ λ value. operate_all value (map (added_walk set) (out-Sum x).rest))
sum_at set x = ap (sum_walk set) (sym (roll-out-Sum x)) ∙ sum_is set (out-Sum x)

-- what stands behind the left side
abbrev pub right_walk : Setting → Option Compared → Value → Walk Value
right_walk set None value = done value
right_walk set (Some c) value = operate (compared_walk set c)

pub expr_is : (set : Setting) (left : Sum) (right : Option Compared) → expr_walk set (roll-Expr (record { left = left; right = right })) ≡ (sum_walk set left ⟫ right_walk set right)
unfolding call_walk place_walk pointer_walk unary_walk added_walk compared_walk expr_walk sum_walk
expr_is set left None = fold-roll-Expr CallWalk (Walk ℕ) (Walk ℕ) (Walk Value) OperandWalk OperandWalk (Walk Value) (Walk Value) (call_step set) place_step pointer_step unary_step added_step compared_step expr_step sum_step (record { left = left; right = None })
expr_is set left (Some c) = fold-roll-Expr CallWalk (Walk ℕ) (Walk ℕ) (Walk Value) OperandWalk OperandWalk (Walk Value) (Walk Value) (call_step set) place_step pointer_step unary_step added_step compared_step expr_step sum_step (record { left = left; right = Some c })

pub expr_at : (set : Setting) (e : Expr) → expr_walk set e ≡ (sum_walk set (out-Expr e).left ⟫ right_walk set (out-Expr e).right)
expr_at set e = ap (expr_walk set) (sym (roll-out-Expr e)) ∙ expr_is set (out-Expr e).left (out-Expr e).right

pub stmt_declared : (set : Setting) (gives : Option ℕ) (d : Declaration) → stmt_walk set gives (stmt.Declared d) ≡ vars_walk set d.vars
unfolding stmt_walk
stmt_declared set gives d = ap (stmt_walk set gives) (sym (stmt.rolls-Declared d)) ∙ fold-roll-Stmt (Walk (Unit {0})) (stmt_step set gives) (s.Declared d)

pub stmt_assign : (set : Setting) (gives : Option ℕ) (p : Place) (value : Expr) → stmt_walk set gives (stmt.Assign p value) ≡ (place_walk set p ⟫ λ t. expr_walk set value ⟫ λ v. flow set.kind v t)
unfolding stmt_walk
stmt_assign set gives p value = ap (stmt_walk set gives) (sym (stmt.rolls-Assign p value)) ∙ fold-roll-Stmt (Walk (Unit {0})) (stmt_step set gives) (s.Assign p value)

pub stmt_call : (set : Setting) (gives : Option ℕ) (c : Call) → stmt_walk set gives (stmt.Call c) ≡ ((call_walk set c).walk ⟫ λ _. done tt)
unfolding stmt_walk
stmt_call set gives c = ap (stmt_walk set gives) (sym (stmt.rolls-Call c)) ∙ fold-roll-Stmt (Walk (Unit {0})) (stmt_step set gives) (s.Call c)

pub stmt_block : (set : Setting) (gives : Option ℕ) (stmts : List Stmt) → stmt_walk set gives (stmt.Block stmts) ≡ scoped [] (in_order (map (stmt_walk set gives) stmts))
unfolding stmt_walk
stmt_block set gives stmts = ap (stmt_walk set gives) (sym (stmt.rolls-Block stmts)) ∙ fold-roll-Stmt (Walk (Unit {0})) (stmt_step set gives) (s.Block stmts)

-- what stands behind the body of an `if`
abbrev pub else_walk : Setting → Option ℕ → Option Stmt → Walk (Unit {0})
else_walk set gives None = done tt
else_walk set gives (Some other) = stmt_walk set gives other

pub stmt_empty : (set : Setting) (gives : Option ℕ) → stmt_walk set gives stmt.Empty ≡ done tt
unfolding stmt_walk
stmt_empty set gives = ap (stmt_walk set gives) (sym stmt.rolls-Empty) ∙ fold-roll-Stmt (Walk (Unit {0})) (stmt_step set gives) s.Empty

pub stmt_if : (set : Setting) (gives : Option ℕ) (condition : Expr) (body : Stmt) (other : Option Stmt) → stmt_walk set gives (stmt.If condition body other) ≡ (expr_walk set condition ⟫ λ _. stmt_walk set gives body ⟫ λ _. else_walk set gives other)
unfolding stmt_walk
stmt_if set gives condition body None = ap (stmt_walk set gives) (sym (stmt.rolls-If condition body None)) ∙ fold-roll-Stmt (Walk (Unit {0})) (stmt_step set gives) (s.If condition body None)
stmt_if set gives condition body (Some other) = ap (stmt_walk set gives) (sym (stmt.rolls-If condition body (Some other))) ∙ fold-roll-Stmt (Walk (Unit {0})) (stmt_step set gives) (s.If condition body (Some other))

pub stmt_while : (set : Setting) (gives : Option ℕ) (condition : Expr) (body : Stmt) → stmt_walk set gives (stmt.While condition body) ≡ (expr_walk set condition ⟫ λ _. stmt_walk set gives body)
unfolding stmt_walk
stmt_while set gives condition body = ap (stmt_walk set gives) (sym (stmt.rolls-While condition body)) ∙ fold-roll-Stmt (Walk (Unit {0})) (stmt_step set gives) (s.While condition body)

pub stmt_return : (set : Setting) (gives : Option ℕ) (tok : Tok) (value : Option Expr) → stmt_walk set gives (stmt.Return tok value) ≡ returned set tok gives value
unfolding stmt_walk
stmt_return set gives tok value = ap (stmt_walk set gives) (sym (stmt.rolls-Return tok value)) ∙ fold-roll-Stmt (Walk (Unit {0})) (stmt_step set gives) (s.Return tok value)
