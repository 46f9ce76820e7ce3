-- The walk of expressions and statements: one case for each form.
use Rattle.std.specs.Prelude.{ℕ, ◌==◌, true, List, [], ◌∷◌, length, map, reverse, Option, Some, None, if◌then◌else◌}
use Rattle.faults.specs.declared.kinds.InputKind.TheVariants as input
use Rattle.c_tree.specs.declared.tree.Tok.{Tok}
use Rattle.c_tree.specs.declared.tree.Name.{Name}
use Rattle.c_tree.specs.declared.tree.Call.{Call, Call-F, fold-Call}
use Rattle.c_tree.specs.declared.tree.Call.TheOpen as o
use Rattle.c_tree.specs.declared.tree.Place.{Place, Place-F, fold-Place}
use Rattle.c_tree.specs.declared.tree.Pointer.{Pointer, Pointer-F, fold-Pointer}
use Rattle.c_tree.specs.declared.tree.Unary.{Unary, Unary-F, fold-Unary}
use Rattle.c_tree.specs.declared.tree.Added.{Added, Added-F, fold-Added}
use Rattle.c_tree.specs.declared.tree.Compared.{Compared, Compared-F, fold-Compared}
use Rattle.c_tree.specs.declared.tree.Sum.{Sum, Sum-F, fold-Sum}
use Rattle.c_tree.specs.declared.tree.Expr.{Expr, Expr-F, fold-Expr}
use Rattle.c_tree.specs.declared.tree.Var.{Var}
use Rattle.c_tree.specs.declared.tree.Stmt.{Stmt, Stmt-F, fold-Stmt}
use Rattle.c_tree.specs.declared.tree.Stmt.TheOpen as s
use Rattle.emit_list.specs.declared.vertex.VertexForm.TheVariants as form
use Rattle.emit_list.specs.declared.edge.EmitLabel.TheVariants as label
use Rattle.visible_names.specs.Names.{Bound}
use Rattle.graph_emit.specs.declared.emitter.Value.{Value}
use Rattle.graph_emit.specs.declared.fault.EmitKind.{EmitKind}
use Rattle.graph_emit.specs.State.{Walk, done, ◌⟫◌, refuse, fresh, join, pointed_to, addressed, plain, flow, variable, declare, scoped, Target, Setting}

-- ---- what the walk of each type gives
-- a call: its vertex, if it has one, and the token of its name
pub record CallWalk : Type 0 where
  pub walk : Walk (Option ℕ)
  pub tok : Tok

-- a second operand: its operator and its walk
pub record OperandWalk : Type 0 where
  pub tok : Tok
  pub walk : Walk Value

-- ---- calls
-- an argument flows to its parameter
abbrev pub arg_flows : EmitKind → Walk Value → ℕ → Walk (Unit {0})
arg_flows k arg t = arg ⟫ λ value. flow k value t

-- each argument in order flows to its parameter
abbrev pub args_flow : EmitKind → List (Walk Value) → List Bound → Walk (Unit {0})
args_flow k [] params = done tt
args_flow k (arg ∷ args) [] = done tt
args_flow k (arg ∷ args) (param ∷ params) = arg_flows k arg param.vertex ⟫ λ _. args_flow k args params

-- what the function gives flows to a new vertex
abbrev pub given : Name → Option ℕ → Walk (Option ℕ)
given name None = done None
given name (Some r) = fresh name.tok form.Call name.bytes ⟫ λ t. join r label.A t ⟫ λ _. done (Some t)

abbrev pub goes_to : Setting → Name → List (Walk Value) → Target → Walk (Option ℕ)
goes_to set name args target =
    if length args == length target.params
    then (args_flow set.kind args target.params ⟫ λ _. given name target.gives)
    else refuse name.tok input.WrongArguments

-- the vertex of a call that is used as an expression
abbrev pub given_or : Tok → Option ℕ → Walk ℕ
given_or tok (Some t) = done t
given_or tok None = refuse tok input.NoValue

abbrev pub value_of : CallWalk → Walk ℕ
value_of call = call.walk ⟫ given_or call.tok

-- ---- operands
-- a second operand; the value of the two is a new vertex
abbrev pub operate : OperandWalk → Walk Value
operate right = right.walk ⟫ λ _. fresh right.tok form.Op [] ⟫ λ t. done (plain t)

-- further operands from left to right, behind one with this value
abbrev pub operate_all : Value → List OperandWalk → Walk Value
operate_all value [] = done value
operate_all value (right ∷ rest) = operate right ⟫ λ both. operate_all both rest

abbrev pub compare_with : Value → Option OperandWalk → Walk Value
compare_with value None = done value
compare_with value (Some right) = operate right

-- ---- expressions, one equation for each form
abbrev pub call_step : Setting
    → Call-F CallWalk (Walk ℕ) (Walk ℕ) (Walk Value) OperandWalk OperandWalk (Walk Value) (Walk Value) → CallWalk
call_step set (o.Function name args) = record { walk = set.goes name ⟫ goes_to set name args; tok = name.tok }
call_step set (o.Malloc tok size) =
    record { walk = size ⟫ λ _. fresh tok form.Malloc [] ⟫ λ t. done (Some t); tok = tok }

abbrev pub place_step :
    Place-F CallWalk (Walk ℕ) (Walk ℕ) (Walk Value) OperandWalk OperandWalk (Walk Value) (Walk Value) → Walk ℕ
place_step (o.Place::Name name) = variable name
place_step (o.Place::Star tok pointer) = pointer ⟫ pointed_to tok

abbrev pub pointer_step :
    Pointer-F CallWalk (Walk ℕ) (Walk ℕ) (Walk Value) OperandWalk OperandWalk (Walk Value) (Walk Value) → Walk ℕ
pointer_step (o.Pointer::Name name) = variable name
pointer_step (o.Pointer::Star tok pointer) = pointer ⟫ pointed_to tok
pointer_step (o.Pointer::Call call) = value_of call
pointer_step (o.Pointer::Paren e) = e ⟫ λ value. done value.vertex

abbrev pub unary_step :
    Unary-F CallWalk (Walk ℕ) (Walk ℕ) (Walk Value) OperandWalk OperandWalk (Walk Value) (Walk Value) → Walk Value
unary_step (o.Place place) = place ⟫ λ v. done (plain v)
unary_step (o.Address tok place) = place ⟫ λ v. addressed tok v ⟫ λ t. done (plain t)
unary_step (o.Unary::Call call) = value_of call ⟫ λ t. done (plain t)
unary_step (o.Number tok) = fresh tok form.Number [] ⟫ λ t. done (plain t)
unary_step (o.Null tok) = fresh tok form.Null [] ⟫ λ t. done (record { vertex = t; is_null = true })
unary_step (o.Unary::Paren e) = e

abbrev pub added_step :
    Added-F CallWalk (Walk ℕ) (Walk ℕ) (Walk Value) OperandWalk OperandWalk (Walk Value) (Walk Value) → OperandWalk
added_step a = record { tok = a.tok; walk = a.unary }

abbrev pub compared_step :
    Compared-F CallWalk (Walk ℕ) (Walk ℕ) (Walk Value) OperandWalk OperandWalk (Walk Value) (Walk Value)
    → OperandWalk
compared_step c = record { tok = c.tok; walk = c.sum }

abbrev pub expr_step :
    Expr-F CallWalk (Walk ℕ) (Walk ℕ) (Walk Value) OperandWalk OperandWalk (Walk Value) (Walk Value) → Walk Value
expr_step e = e.left ⟫ λ value. compare_with value e.right

abbrev pub sum_step :
    Sum-F CallWalk (Walk ℕ) (Walk ℕ) (Walk Value) OperandWalk OperandWalk (Walk Value) (Walk Value) → Walk Value
sum_step x = x.first ⟫ λ value. operate_all value x.rest

unfoldable pub call_walk : Setting → Call → CallWalk
call_walk set =
    fold-Call CallWalk (Walk ℕ) (Walk ℕ) (Walk Value) OperandWalk OperandWalk (Walk Value) (Walk Value)
    (call_step set) place_step pointer_step unary_step added_step compared_step expr_step sum_step

unfoldable pub place_walk : Setting → Place → Walk ℕ
place_walk set =
    fold-Place CallWalk (Walk ℕ) (Walk ℕ) (Walk Value) OperandWalk OperandWalk (Walk Value) (Walk Value)
    (call_step set) place_step pointer_step unary_step added_step compared_step expr_step sum_step

unfoldable pub pointer_walk : Setting → Pointer → Walk ℕ
pointer_walk set =
    fold-Pointer CallWalk (Walk ℕ) (Walk ℕ) (Walk Value) OperandWalk OperandWalk (Walk Value) (Walk Value)
    (call_step set) place_step pointer_step unary_step added_step compared_step expr_step sum_step

unfoldable pub unary_walk : Setting → Unary → Walk Value
unary_walk set =
    fold-Unary CallWalk (Walk ℕ) (Walk ℕ) (Walk Value) OperandWalk OperandWalk (Walk Value) (Walk Value)
    (call_step set) place_step pointer_step unary_step added_step compared_step expr_step sum_step

unfoldable pub added_walk : Setting → Added → OperandWalk
added_walk set =
    fold-Added CallWalk (Walk ℕ) (Walk ℕ) (Walk Value) OperandWalk OperandWalk (Walk Value) (Walk Value)
    (call_step set) place_step pointer_step unary_step added_step compared_step expr_step sum_step

unfoldable pub compared_walk : Setting → Compared → OperandWalk
compared_walk set =
    fold-Compared CallWalk (Walk ℕ) (Walk ℕ) (Walk Value) OperandWalk OperandWalk (Walk Value) (Walk Value)
    (call_step set) place_step pointer_step unary_step added_step compared_step expr_step sum_step

unfoldable pub expr_walk : Setting → Expr → Walk Value
expr_walk set =
    fold-Expr CallWalk (Walk ℕ) (Walk ℕ) (Walk Value) OperandWalk OperandWalk (Walk Value) (Walk Value)
    (call_step set) place_step pointer_step unary_step added_step compared_step expr_step sum_step

unfoldable pub sum_walk : Setting → Sum → Walk Value
sum_walk set =
    fold-Sum CallWalk (Walk ℕ) (Walk ℕ) (Walk Value) OperandWalk OperandWalk (Walk Value) (Walk Value)
    (call_step set) place_step pointer_step unary_step added_step compared_step expr_step sum_step

-- ---- declarations
abbrev pub initial : Setting → Option Expr → ℕ → Walk (Unit {0})
initial set None t = done tt
initial set (Some e) t = expr_walk set e ⟫ λ value. flow set.kind value t

abbrev pub var_walk : Setting → Var → Walk (Unit {0})
var_walk set v = declare v.name ⟫ initial set v.value

abbrev pub vars_walk : Setting → List Var → Walk (Unit {0})
vars_walk set [] = done tt
vars_walk set (v ∷ vs) = var_walk set v ⟫ λ _. vars_walk set vs

-- ---- statements, in a function that gives this vertex, if it gives anything
abbrev pub in_order : List (Walk (Unit {0})) → Walk (Unit {0})
in_order [] = done tt
in_order (w ∷ ws) = w ⟫ λ _. in_order ws

abbrev pub other_walk : Option (Walk (Unit {0})) → Walk (Unit {0})
other_walk None = done tt
other_walk (Some other) = other

abbrev pub returned : Setting → Tok → Option ℕ → Option Expr → Walk (Unit {0})
returned set tok gives None = done tt
returned set tok None (Some e) = refuse tok input.NoValue
returned set tok (Some r) (Some e) = expr_walk set e ⟫ λ value. flow set.kind value r

abbrev pub stmt_step : Setting → Option ℕ → Stmt-F (Walk (Unit {0})) → Walk (Unit {0})
stmt_step set gives (s.Declared d) = vars_walk set d.vars
stmt_step set gives (s.Assign place value) =
    place_walk set place ⟫ λ t. expr_walk set value ⟫ λ v. flow set.kind v t
stmt_step set gives (s.Call call) = (call_walk set call).walk ⟫ λ _. done tt
stmt_step set gives (s.Block stmts) = scoped [] (in_order stmts)
stmt_step set gives s.Empty = done tt
stmt_step set gives (s.If condition body other) =
    expr_walk set condition ⟫ λ _. body ⟫ λ _. other_walk other
stmt_step set gives (s.While condition body) = expr_walk set condition ⟫ λ _. body
stmt_step set gives (s.Return tok value) = returned set tok gives value

unfoldable pub stmt_walk : Setting → Option ℕ → Stmt → Walk (Unit {0})
stmt_walk set gives = fold-Stmt (Walk (Unit {0})) (stmt_step set gives)

-- a body, in the scope of the parameters
abbrev pub body_walk : Setting → List Stmt → Target → Walk (Unit {0})
body_walk set body target = scoped (reverse target.params) (in_order (map (stmt_walk set target.gives) body))
