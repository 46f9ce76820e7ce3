-- The graph of a program.
use Rattle.std.specs.Prelude.{◌≡◌, ℕ, zero, Bool, true, false, is_some, List, [], ◌∷◌, map, reverse, find, Option, Some, None, Result, Ok, if◌then◌else◌}
use Rattle.std.specs.Option.{option_map}
use Rattle.std.specs.Str.{bytes_eq}
use Rattle.faults.specs.declared.kinds.InputKind.TheVariants as input
use Rattle.c_tree.specs.declared.tree.Name.{Name}
use Rattle.c_tree.specs.declared.tree.Base.{Base}
use Rattle.c_tree.specs.declared.tree.Base.TheVariants as base
use Rattle.c_tree.specs.declared.tree.Param.{Param}
use Rattle.c_tree.specs.declared.tree.Function.{Function}
use Rattle.c_tree.specs.declared.tree.Item.{Item}
use Rattle.c_tree.specs.declared.tree.Item.TheVariants as item
use Rattle.c_tree.specs.declared.tree.Program.{Program}
use Rattle.emit_list.specs.declared.vertex.VertexForm.TheVariants as form
use Rattle.emit_list.specs.declared.vertex.Vertex.{Vertex}
use Rattle.emit_list.specs.Vertices.{Listed}
use Rattle.visible_names.specs.Names.{Bound, bound_to}
use Rattle.graph_emit.specs.declared.fault.EmitKind.{EmitKind}
use Rattle.graph_emit.specs.declared.fault.EmitFault.{EmitFault}
use Rattle.graph_emit.specs.State.{Made, State, Walk, done, ◌⟫◌, refuse, fresh, Target, Setting}
use Rattle.graph_emit.specs.Walk.{vars_walk, body_walk}

-- ---- first the functions: vertices for their parameters, and for what they give
-- a function, by its name
pub record Known : Type 0 where
  pub name : List ℕ
  pub target : Target

abbrev pub known_as : List ℕ → List Known → Option Target
known_as name known = option_map (λ (f : Known). f.target) (find (λ (f : Known). bytes_eq f.name name) known)

-- the parameters with one more, the last one first
abbrev pub param_made : List Bound → Param → Walk (List Bound)
param_made before p =
    if is_some (bound_to p.name.bytes before) then refuse p.name.tok input.Repeated
    else (
    fresh p.name.tok form.Variable p.name.bytes ⟫ λ t. done (record { name = p.name.bytes; vertex = t } ∷ before)
    )

-- the parameters of a function, behind those before
abbrev pub params_made : List Bound → List Param → Walk (List Bound)
params_made before [] = done (reverse before)
params_made before (p ∷ ps) = param_made before p ⟫ λ more. params_made more ps

-- `void` without a star
abbrev pub gives_nothing : Base → ℕ → Bool
gives_nothing base.Void zero = true
gives_nothing _ _ = false

abbrev pub return_made : Function → Walk (Option ℕ)
return_made f =
    if gives_nothing f.base f.stars then done None
    else (fresh f.name.tok form.Return f.name.bytes ⟫ λ t. done (Some t))

abbrev pub target_made : Function → Walk Target
target_made f =
    params_made [] f.params ⟫ λ params. return_made f ⟫ λ gives. done (record { params = params; gives = gives })

-- the functions with one more, the last one first
abbrev pub function_made : List Known → Function → Walk (List Known)
function_made before f =
    if is_some (known_as f.name.bytes before) then refuse f.name.tok input.Repeated
    else (target_made f ⟫ λ target. done (record { name = f.name.bytes; target = target } ∷ before))

abbrev pub item_made : List Known → Item → Walk (List Known)
item_made before (item.Declared d) = done before
item_made before (item.Function f) = function_made before f

abbrev pub functions_made : List Known → List Item → Walk (List Known)
functions_made before [] = done before
functions_made before (i ∷ is) = item_made before i ⟫ λ known. functions_made known is

-- ---- then the items in text order
abbrev pub known_or : Option Target → Name → Walk Target
known_or (Some target) name = done target
known_or None name = refuse name.tok input.Undeclared

-- a call goes to the function of its name
abbrev pub setting : EmitKind → List Known → Setting
setting k known = record { kind = k; goes = λ name. known_or (known_as name.bytes known) name }

abbrev pub item_walk : Setting → Item → Walk (Unit {0})
item_walk set (item.Declared d) = vars_walk set d.vars
item_walk set (item.Function f) = set.goes f.name ⟫ body_walk set f.block

abbrev pub items_walk : Setting → List Item → Walk (Unit {0})
items_walk set [] = done tt
items_walk set (i ∷ is) = item_walk set i ⟫ λ _. items_walk set is

abbrev pub program_walk : EmitKind → List Item → Walk (Unit {0})
program_walk k items = functions_made [] items ⟫ λ known. items_walk (setting k known) items

-- no vertex, no edge and no name
abbrev pub blank : State
blank = record { vertices = []; edges = []; inner = []; outer = [] }

-- what the walk of a program leaves, or its first refusal
abbrev pub graph_of : EmitKind → Program → Result (State × Unit {0}) EmitFault
graph_of k program = program_walk k program.items blank

abbrev pub shown : Made → Vertex
shown m = record { form = m.form; name = m.name }

-- the list of a graph
abbrev pub listed : State → Listed
listed s = record { vertices = map shown s.vertices; edges = s.edges }

-- the list is that of the program's graph
pub record IsProgramGraph (k : EmitKind) (program : Program) (list : Listed) : Type 0 where
  pub state : State
  pub walked : graph_of k program ≡ Ok (state, tt)
  pub same : list ≡ listed state
