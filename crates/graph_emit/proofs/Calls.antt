-- Where calls go.
use Rattle.std.proofs.Common.{◌≡◌, ◌∙◌, inr, sym, ap, refl, ℕ, ◌==◌, true, false, cond, zero, suc, ◌+◌, ◌<◌, List, [], ◌∷◌, length, drop, get_or, Option, Some, None, Err, arith}
use Rattle.std.specs.Prelude.{map, slice_get}
use Rattle.std.specs.Option.{option_map}
use Rattle.std.proofs.lemmas.Bool.Decides.{nat_tests}
use Rattle.std.proofs.lemmas.List.{length-map}
use Rattle.faults.specs.declared.kinds.InputKind.TheVariants as input
use Rattle.c_tree.specs.declared.tree.Name.{Name}
use Rattle.emit_list.specs.declared.vertex.VertexForm.TheVariants as form
use Rattle.emit_list.specs.declared.edge.EmitLabel.TheVariants as label
use Rattle.c_tree.specs.declared.tree.Expr.{Expr}
use Rattle.graph_emit.specs.declared.emitter.Value.{Value}
use Rattle.graph_emit.specs.declared.functions.Param.{Param as MadeParam}
use Rattle.graph_emit.specs.declared.functions.Target.{Target as MadeTarget}
use Rattle.graph_emit.specs.declared.fault.EmitKind.{EmitKind}
use Rattle.graph_emit.specs.declared.fault.EmitFault.{EmitFault}
use Rattle.graph_emit.specs.declared.fault.EmitFault.TheVariants as fault
use Rattle.graph_emit.specs.State.{State, Walk, done, ◌⟫◌, refuse, fresh, join, Target, Setting}
use Rattle.graph_emit.specs.Answers.{WalkGives, StepRefuses}
use Rattle.graph_emit.specs.Functions.{bound, target}
use Rattle.graph_emit.specs.Walk.{arg_flows, args_flow, given, goes_to, expr_walk}
use Rattle.graph_emit.specs.Program.{Known, known_as, known_or, setting}
use Rattle.graph_emit.proofs.Loops.{rest_at}
use Rattle.graph_emit.proofs.Steps.{GoesOn, starts_by}

pub none_is : {X : Type 0} (o : Option X) → ((x : X) → o ≡ Some x → ⊥) → o ≡ None
none_is None other = refl
none_is (Some x) other = absurd (other x refl)

-- a call of a function goes there, and any other is refused
pub goes_known : (k : EmitKind) (known : List Known) (name : Name) (t : Target) (s : State) → known_as name.bytes known ≡ Some t → WalkGives ((setting k known).goes name) s t s
goes_known k known name t s is = record { walked = ap (λ o. known_or o name s) is; around = refl }

pub goes_unknown : (k : EmitKind) (known : List Known) (name : Name) (s : State) (e : EmitFault) → known_as name.bytes known ≡ None → e ≡ fault.At name.tok.line input.Undeclared → StepRefuses ((setting k known).goes name) s e
goes_unknown k known name s e is fault_is = inr (ap (λ o. known_or o name s) is ∙ ap Err (sym fault_is))

-- what a function gives, by the bytes of its name
pub given_named : (name : Name) (gives : Option ℕ) (r : ℕ) (bytes : List ℕ) (s : State) → gives ≡ Some r → bytes ≡ name.bytes → GoesOn (given name gives) s (fresh name.tok form.Call bytes ⟫ λ t. join r label.A t ⟫ λ _. done (Some t)) s
given_named name gives r bytes s is b =
    let next : ℕ → Walk (Option ℕ) = λ t. join r label.A t ⟫ λ _. done (Some t) in
    starts_by s (ap (given name) is ∙ ap (λ n. fresh name.tok form.Call n ⟫ next) (sym b))

equal_is : (n m : ℕ) → n ≡ m → (n == m) ≡ true
equal_is n m e = grind (arith, nat_tests)

other_is : (n m : ℕ) → (n ≡ m → ⊥) → (n == m) ≡ false
other_is n m e = grind (arith, nat_tests)

-- as many arguments as parameters
pub goes_in : (set : Setting) (name : Name) (args : List (Walk Value)) (t : Target) → length args ≡ length t.params → goes_to set name args t ≡ (args_flow set.kind args t.params ⟫ λ _. given name t.gives)
goes_in set name args t e = ap (λ b. cond b (args_flow set.kind args t.params ⟫ λ _. given name t.gives) (refuse name.tok input.WrongArguments)) (equal_is (length args) (length t.params) e)

-- too few or too many
pub goes_out : (set : Setting) (name : Name) (args : List (Walk Value)) (t : Target) → (length args ≡ length t.params → ⊥) → goes_to set name args t ≡ refuse name.tok input.WrongArguments
goes_out set name args t e = ap (λ b. cond b (args_flow set.kind args t.params ⟫ λ _. given name t.gives) (refuse name.tok input.WrongArguments)) (other_is (length args) (length t.params) e)

-- the same of what the code keeps of a function
pub goes_flow : (set : Setting) (name : Name) (t : MadeTarget) (args es : List Expr) (ps : List MadeParam) → es ≡ args → ps ≡ t.params.items → length es ≡ length ps
    → goes_to set name (map (expr_walk set) args) (target t) ≡ (args_flow set.kind (map (expr_walk set) es) (map bound ps) ⟫ λ _. given name t.gives)
goes_flow set name t args es ps e p n =
    let next : Unit {0} → Walk (Option ℕ) = λ _. given name t.gives in
    goes_in set name (map (expr_walk set) args) (target t) (omega (arith, length-map args (expr_walk set), length-map t.params.items bound, ap length e, ap length p))
    ∙ ap (λ l. args_flow set.kind (map (expr_walk set) l) (map bound t.params.items) ⟫ next) (sym e)
    ∙ ap (λ l. args_flow set.kind (map (expr_walk set) es) (map bound l) ⟫ next) (sym p)

pub goes_not : (set : Setting) (name : Name) (t : MadeTarget) (args : List Expr) → (length args ≡ length t.params.items → ⊥) → goes_to set name (map (expr_walk set) args) (target t) ≡ refuse name.tok input.WrongArguments
goes_not set name t args other = goes_out set name (map (expr_walk set) args) (target t) (λ e. other (omega (arith, e, length-map args (expr_walk set), length-map t.params.items bound)))

-- ---- arguments
-- a parameter, and those behind it
pub record ParamAt (ps : List MadeParam) (i t : ℕ) : Type 0 where
  pub param : MadeParam
  pub rest : drop i ps ≡ param ∷ drop (i + 1) ps
  pub vertex : param.vertex ≡ t

param_at : (ps : List MadeParam) (i t : ℕ) → option_map (λ (p : MadeParam). p.vertex) (slice_get ps i) ≡ Some t → ParamAt ps i t
param_at [] zero t h = absurd (cc)
param_at [] (suc i) t h = absurd (cc)
param_at (p ∷ ps) zero t h = record { param = p; rest = refl; vertex = cc }
param_at (p ∷ ps) (suc i) t h =
    let r = param_at ps i t h in
    let more : suc (i + 1) ≡ suc i + 1 = omega arith in
    record { param = r.param; rest = r.rest ∙ ap (λ n. r.param ∷ drop n (p ∷ ps)) more; vertex = r.vertex }

-- the next argument flows to its parameter, and then the others
pub next_arg : (set : Setting) (xs : List Expr) (ps : List MadeParam) (i : ℕ) (x : Expr) (t : ℕ) → i < length xs → x ≡ get_or xs i x → option_map (λ (p : MadeParam). p.vertex) (slice_get ps i) ≡ Some t
    → args_flow set.kind (map (expr_walk set) (drop i xs)) (map bound (drop i ps)) ≡ (arg_flows set.kind (expr_walk set x) t ⟫ λ _. args_flow set.kind (map (expr_walk set) (drop (i + 1) xs)) (map bound (drop (i + 1) ps)))
next_arg set xs ps i x t h is at =
    let p = param_at ps i t at in
    ap (λ l. args_flow set.kind (map (expr_walk set) l) (map bound (drop i ps))) (rest_at xs i x h is)
    ∙ ap (λ l. args_flow set.kind (map (expr_walk set) (x ∷ drop (i + 1) xs)) (map bound l)) p.rest
    ∙ ap (λ t. arg_flows set.kind (expr_walk set x) t ⟫ λ _. args_flow set.kind (map (expr_walk set) (drop (i + 1) xs)) (map bound (drop (i + 1) ps))) p.vertex
