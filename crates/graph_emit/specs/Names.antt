-- The names that a program declares, which are those of its graph's vertices.
use Rattle.std.specs.Prelude.{◌≡◌, ◌⊎◌, ℕ, List, [], ◌∷◌, ◌++◌, map, Option, Some, None, All, Contains}
use Rattle.c_tree.specs.declared.tree.Var.{Var}
use Rattle.c_tree.specs.declared.tree.Stmt.{Stmt, Stmt-F, fold-Stmt}
use Rattle.c_tree.specs.declared.tree.Stmt.TheOpen as s
use Rattle.c_tree.specs.declared.tree.Param.{Param}
use Rattle.c_tree.specs.declared.tree.Function.{Function}
use Rattle.c_tree.specs.declared.tree.Item.{Item}
use Rattle.c_tree.specs.declared.tree.Item.TheVariants as item
use Rattle.c_tree.specs.declared.tree.Program.{Program}
use Rattle.emit_list.specs.declared.vertex.Vertex.{Vertex}
use Rattle.emit_list.specs.Vertices.{Listed, IsGraphOfProgram}
use Rattle.graph_emit.specs.declared.fault.EmitKind.{EmitKind}
use Rattle.graph_emit.specs.Program.{IsProgramGraph}

-- names, one list after the other
abbrev pub joined : List (List (List ℕ)) → List (List ℕ)
joined [] = []
joined (names ∷ more) = names ++ joined more

abbrev pub var_names : List Var → List (List ℕ)
var_names vars = map (λ (v : Var). v.name.bytes) vars

abbrev pub other_names : Option (List (List ℕ)) → List (List ℕ)
other_names None = []
other_names (Some names) = names

-- a statement declares what it or a statement inside it declares
abbrev pub stmt_names_step : Stmt-F (List (List ℕ)) → List (List ℕ)
stmt_names_step (s.Declared d) = var_names d.vars
stmt_names_step (s.Assign place value) = []
stmt_names_step (s.Call call) = []
stmt_names_step (s.Block stmts) = joined stmts
stmt_names_step s.Empty = []
stmt_names_step (s.If condition body other) = body ++ other_names other
stmt_names_step (s.While condition body) = body
stmt_names_step (s.Return tok value) = []

unfoldable pub stmt_names : Stmt → List (List ℕ)
stmt_names = fold-Stmt (List (List ℕ)) stmt_names_step

-- the names of some statements
abbrev pub block_names : List Stmt → List (List ℕ)
block_names stmts = joined (map stmt_names stmts)

abbrev pub param_names : List Param → List (List ℕ)
param_names params = map (λ (p : Param). p.name.bytes) params

-- a function declares its own name, its parameters, and what its body declares
abbrev pub function_names : Function → List (List ℕ)
function_names f = f.name.bytes ∷ (param_names f.params ++ block_names f.block)

abbrev pub item_names : Item → List (List ℕ)
item_names (item.Function f) = function_names f
item_names (item.Declared d) = var_names d.vars

-- the names that a program declares, in text order
abbrev pub declared_names : List Item → List (List ℕ)
declared_names items = joined (map item_names items)

-- a vertex has no name, or one of these
abbrev pub IsNamedBy : List (List ℕ) → Vertex → Type 0
IsNamedBy names v = (v.name ≡ []) ⊎ Contains names v.name

-- the graph of a program keeps the rules of such graphs
abbrev pub GraphsKeepRules : Type 0
GraphsKeepRules = (k : EmitKind) (program : Program) (list : Listed) → IsProgramGraph k program list → IsGraphOfProgram list

-- each vertex of a program's graph has no name, or one that the program declares
abbrev pub GraphsAreNamed : Type 0
GraphsAreNamed = (k : EmitKind) (program : Program) (list : Listed) → IsProgramGraph k program list
    → All (IsNamedBy (declared_names program.items)) list.vertices
