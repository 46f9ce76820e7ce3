-- The functions of a program, and their parameters, one by one.
use Rattle.std.proofs.Common.{◌≡◌, ◌∙◌, refl, sym, ap, ℕ, Bool, true, false, cond, List, [], ◌∷◌, ◌++◌, Some, None}
use Rattle.std.specs.Prelude.{map, reverse, is_some}
use Rattle.std.proofs.lemmas.List.{map-append, reverse-append, reverse-reverse}
use Rattle.faults.specs.declared.kinds.InputKind.TheVariants as input
use Rattle.c_tree.specs.declared.tree.Param.{Param}
use Rattle.c_tree.specs.declared.tree.Function.{Function}
use Rattle.c_tree.specs.declared.tree.Item.{Item}
use Rattle.c_tree.specs.declared.tree.Item.TheVariants as item
use Rattle.emit_list.specs.declared.vertex.VertexForm.TheVariants as form
use Rattle.visible_names.specs.Names.{Bound, bound_to}
use Rattle.graph_emit.specs.declared.functions.Param.{Param as MadeParam}
use Rattle.graph_emit.specs.State.{State, Walk, done, ◌⟫◌, refuse, fresh, Target}
use Rattle.graph_emit.specs.Functions.{bound}
use Rattle.graph_emit.specs.Program.{Known, known_as, param_made, params_made, gives_nothing, return_made, target_made, item_made}
use Rattle.graph_emit.proofs.Steps.{GoesOn, starts_by}

abbrev pub with_param : List Bound → List ℕ → ℕ → Walk (List Bound)
with_param before name t = done ((let b : Bound = record { name = name; vertex = t } in b) ∷ before)

pub param_refused : (before : List Bound) (p : Param) (bytes : List ℕ) (found : Bool) → bytes ≡ p.name.bytes → found ≡ is_some (bound_to bytes before) → found ≡ true → param_made before p ≡ refuse p.name.tok input.Repeated
param_refused before p bytes found b is yes_is =
    ap (λ t. cond t (refuse p.name.tok input.Repeated) (fresh p.name.tok form.Variable p.name.bytes ⟫ with_param before p.name.bytes))
    (ap (λ n. is_some (bound_to n before)) (sym b) ∙ sym is ∙ yes_is)

pub param_new : (before : List Bound) (p : Param) (bytes : List ℕ) (found : Bool) → bytes ≡ p.name.bytes → found ≡ is_some (bound_to bytes before) → found ≡ false → param_made before p ≡ (fresh p.name.tok form.Variable bytes ⟫ with_param before bytes)
param_new before p bytes found b is missing =
    ap (λ t. cond t (refuse p.name.tok input.Repeated) (fresh p.name.tok form.Variable p.name.bytes ⟫ with_param before p.name.bytes))
    (ap (λ n. is_some (bound_to n before)) (sym b) ∙ sym is ∙ missing)
    ∙ ap (λ n. fresh p.name.tok form.Variable n ⟫ with_param before n) (sym b)

pub bound_more : (ms ns : List MadeParam) (p : MadeParam) → ns ≡ ms ++ p ∷ [] → reverse (map bound ns) ≡ bound p ∷ reverse (map bound ms)
bound_more ms ns p e = ap (λ l. reverse (map bound l)) e ∙ ap reverse (map-append bound ms (p ∷ [])) ∙ reverse-append (map bound ms) (bound p ∷ [])

pub bound_all : (ms : List MadeParam) (names : List Bound) → reverse (map bound ms) ≡ names → map bound ms ≡ reverse names
bound_all ms names e = sym (reverse-reverse (map bound ms)) ∙ ap reverse e

pub return_none : (f : Function) (nothing : Bool) → nothing ≡ gives_nothing f.base f.stars → nothing ≡ true → return_made f ≡ done None
return_none f nothing is yes_is = ap (λ t. cond t (done None) (fresh f.name.tok form.Return f.name.bytes ⟫ λ t. done (Some t))) (sym is ∙ yes_is)

pub return_some : (f : Function) (bytes : List ℕ) (nothing : Bool) → bytes ≡ f.name.bytes → nothing ≡ gives_nothing f.base f.stars → nothing ≡ false → return_made f ≡ (fresh f.name.tok form.Return bytes ⟫ λ t. done (Some t))
return_some f bytes nothing b is missing =
    ap (λ t. cond t (done None) (fresh f.name.tok form.Return f.name.bytes ⟫ λ t. done (Some t))) (sym is ∙ missing)
    ∙ ap (λ n. fresh f.name.tok form.Return n ⟫ λ t. done (Some t)) (sym b)

abbrev pub with_gives : Function → List Bound → Walk Target
with_gives f params = return_made f ⟫ λ gives. done (let t : Target = record { params = params; gives = gives } in t)

pub target_on : (f : Function) (ps : List Param) (s : State) → ps ≡ f.params → GoesOn (target_made f) s (params_made [] ps ⟫ with_gives f) s
target_on f ps s e = starts_by s (ap (λ l. params_made [] l ⟫ with_gives f) (sym e))

pub item_other : (before : List Known) (i : Item) → ((f : Function) → i ≡ item.Function f → ⊥) → item_made before i ≡ done before
item_other before (item.Declared d) other = refl
item_other before (item.Function f) other = absurd (other f refl)

abbrev pub with_target : List Known → Function → Target → Walk (List Known)
with_target before f target = done ((let k : Known = record { name = f.name.bytes; target = target } in k) ∷ before)

pub function_refused : (before : List Known) (i : Item) (f : Function) (bytes : List ℕ) (found : Bool) → i ≡ item.Function f → bytes ≡ f.name.bytes → found ≡ is_some (known_as bytes before) → found ≡ true → item_made before i ≡ refuse f.name.tok input.Repeated
function_refused before i f bytes found at b is yes_is =
    ap (item_made before) at ∙ ap (λ t. cond t (refuse f.name.tok input.Repeated) (target_made f ⟫ with_target before f)) (ap (λ n. is_some (known_as n before)) (sym b) ∙ sym is ∙ yes_is)

pub function_new : (before : List Known) (i : Item) (f : Function) (bytes : List ℕ) (found : Bool) → i ≡ item.Function f → bytes ≡ f.name.bytes → found ≡ is_some (known_as bytes before) → found ≡ false → item_made before i ≡ (target_made f ⟫ with_target before f)
function_new before i f bytes found at b is missing =
    ap (item_made before) at ∙ ap (λ t. cond t (refuse f.name.tok input.Repeated) (target_made f ⟫ with_target before f)) (ap (λ n. is_some (known_as n before)) (sym b) ∙ sym is ∙ missing)
