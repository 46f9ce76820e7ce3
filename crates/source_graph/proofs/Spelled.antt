-- The names that a program declares stand among the names of its tokens.
use Rattle.std.proofs.Common.{◌≡◌, refl, sym, ap, subst, ℕ, zero, suc, ◌+◌, Bool, true, false, List, [], ◌∷◌, ◌++◌, length, Some, None, arith}
use Rattle.std.specs.Prelude.{All, Contains, map, slice_get}
use Rattle.std.proofs.lemmas.List.Elements.{All-nil, All-cons, All-append, All-weaker, Contains-append_left, Contains-append_right}
use Rattle.c_lexer.specs.declared.token.TokenKind.TheVariants as k
use Rattle.c_tree.specs.declared.tree.Tok.{Tok}
use Rattle.c_tree.specs.declared.tree.Name.{Name}
use Rattle.c_tree.specs.declared.tree.Var.{Var}
use Rattle.c_tree.specs.declared.tree.Declaration.{Declaration}
use Rattle.c_tree.specs.declared.tree.Stmt.{Stmt, Stmt-F, roll-Stmt, map-Stmt, ind-Stmt, fold-roll-Stmt}
use Rattle.c_tree.specs.declared.tree.Stmt.TheOpen as s
use Rattle.c_tree.specs.declared.tree.Param.{Param}
use Rattle.c_tree.specs.declared.tree.Function.{Function}
use Rattle.c_tree.specs.declared.tree.Item.{Item}
use Rattle.c_tree.specs.declared.tree.Item.TheVariants as item
use Rattle.c_tree.specs.Said.{Kind, Kept, Said, word, named, moved, ◌⨾◌, deeper, stars}
use Rattle.c_tree.specs.Grammar.{condition_said, base_said, value_said, var_said, more_vars, vars_said, declaration_said, block_said, branches_said, stmt_step, stmt_said, param_said, more_params, params_said, function_said, item_said}
use Rattle.c_parser.specs.Program.{Written, written_said, program_said, items_of}
use Rattle.graph_emit.specs.Names.{var_names, stmt_names_step, stmt_names, block_names, param_names, function_names, item_names, declared_names}
use Rattle.graph_emit.proofs.Names.{stmt_names_layer}

-- ---- a token that is kept as this name stands at a Name of these kinds
pub record Spells (kinds : List Kind) (kept : List Kept) (name : List ℕ) : Type 0 where
  pub offset : ℕ
  pub tok : Tok
  pub stands : Contains kept (record { offset = offset; tok = tok; bytes = Some name })
  pub kind : slice_get kinds offset ≡ Some (Some k.Name)

abbrev pub SpelledBy : Said → List ℕ → Type 0
SpelledBy said name = Spells said.kinds said.kept name

get_front : (xs ys : List Kind) (i : ℕ) (x : Kind) → slice_get xs i ≡ Some x → slice_get (xs ++ ys) i ≡ Some x
get_front [] ys zero x h = absurd (cc)
get_front [] ys (suc i) x h = absurd (cc)
get_front (y ∷ xs) ys zero x h = h
get_front (y ∷ xs) ys (suc i) x h = get_front xs ys i x h

get_behind : (xs ys : List Kind) (i : ℕ) (x : Kind) → slice_get ys i ≡ Some x → slice_get (xs ++ ys) (length xs + i) ≡ Some x
get_behind [] ys i x h = subst (λ n. slice_get ys n ≡ Some x) (omega arith) h
get_behind (y ∷ xs) ys i x h = subst (λ n. slice_get (y ∷ (xs ++ ys)) n ≡ Some x) (let e : suc (length xs + i) ≡ length (y ∷ xs) + i = omega arith in e) (get_behind xs ys i x h)

abbrev move : ℕ → Kept → Kept
move n x = record { offset = n + x.offset; tok = x.tok; bytes = x.bytes }

stands_moved : (n : ℕ) (xs : List Kept) (x : Kept) → Contains xs x → Contains (moved n xs) (move n x)
stands_moved n [] x (i, lt, is) = absurd (omega (arith, lt))
stands_moved n (y ∷ ys) x (zero, lt, is) = (0, omega arith, ap (move n) is)
stands_moved n (y ∷ ys) x (suc i, lt, is) =
    let r = stands_moved n ys x (i, omega (arith, lt), is) in
    (suc r.0, omega (arith, r.1), r.2)

spells_named : (name : Name) → SpelledBy (named name) name.bytes
spells_named name = record { offset = 0; tok = name.tok; stands = (0, omega arith, refl); kind = refl }

spells_left : (a b : Said) (name : List ℕ) → SpelledBy a name → SpelledBy (a ⨾ b) name
spells_left a b name h = record {
  offset = h.offset;
  tok = h.tok;
  stands = Contains-append_left a.kept (moved (length a.kinds) b.kept) (record { offset = h.offset; tok = h.tok; bytes = Some name }) h.stands;
  kind = get_front a.kinds b.kinds h.offset (Some k.Name) h.kind;
}

spells_right : (a b : Said) (name : List ℕ) → SpelledBy b name → SpelledBy (a ⨾ b) name
spells_right a b name h =
    let n = length a.kinds in
    let x : Kept = record { offset = h.offset; tok = h.tok; bytes = Some name } in
    record {
      offset = n + h.offset;
      tok = h.tok;
      stands = Contains-append_right a.kept (moved n b.kept) (move n x) (stands_moved n b.kept x h.stands);
      kind = get_behind a.kinds b.kinds h.offset (Some k.Name) h.kind;
    }

-- ---- all of some names
abbrev pub AllSpelled : Said → List (List ℕ) → Type 0
AllSpelled said names = All (SpelledBy said) names

none : (a : Said) → AllSpelled a []
none a = All-nil (SpelledBy a)

all_left : (a b : Said) (names : List (List ℕ)) → AllSpelled a names → AllSpelled (a ⨾ b) names
all_left a b names = All-weaker (SpelledBy a) (SpelledBy (a ⨾ b)) (λ name h. spells_left a b name h) names

all_right : (a b : Said) (names : List (List ℕ)) → AllSpelled b names → AllSpelled (a ⨾ b) names
all_right a b names = All-weaker (SpelledBy b) (SpelledBy (a ⨾ b)) (λ name h. spells_right a b name h) names

all_both : (a b : Said) (xs ys : List (List ℕ)) → AllSpelled a xs → AllSpelled b ys → AllSpelled (a ⨾ b) (xs ++ ys)
all_both a b xs ys h g = All-append (SpelledBy (a ⨾ b)) xs ys (all_left a b xs h) (all_right a b ys g)

one_more : (a b : Said) (name : List ℕ) (names : List (List ℕ)) → SpelledBy a name → AllSpelled b names → AllSpelled (a ⨾ b) (name ∷ names)
one_more a b name names h g = All-cons (SpelledBy (a ⨾ b)) name names (spells_left a b name h) (all_right a b names g)

-- ---- declarations
var_spelled : (v : Var) → SpelledBy (var_said v) v.name.bytes
var_spelled v = spells_right (stars v.stars) (named v.name ⨾ value_said v.value) v.name.bytes (spells_left (named v.name) (value_said v.value) v.name.bytes (spells_named v.name))

more_spelled : (vars : List Var) → AllSpelled (more_vars vars) (var_names vars)
more_spelled [] = none (more_vars [])
more_spelled (v ∷ vs) = all_right (word k.Comma) (var_said v ⨾ more_vars vs) (var_names (v ∷ vs)) (one_more (var_said v) (more_vars vs) v.name.bytes (var_names vs) (var_spelled v) (more_spelled vs))

vars_spelled : (vars : List Var) → AllSpelled (vars_said vars) (var_names vars)
vars_spelled [] = none (vars_said [])
vars_spelled (v ∷ vs) = one_more (var_said v) (more_vars vs) v.name.bytes (var_names vs) (var_spelled v) (more_spelled vs)

declaration_spelled : (d : Declaration) → AllSpelled (declaration_said d) (var_names d.vars)
declaration_spelled d = all_right (base_said d.base) (vars_said d.vars) (var_names d.vars) (vars_spelled d.vars)

-- ---- statements
abbrev StmtFact : Stmt → Type 0
StmtFact t = AllSpelled (stmt_said t) (stmt_names t)

abbrev StmtWith : Type 0
StmtWith = (t : Stmt) × StmtFact t

abbrev first : List StmtWith → List Stmt
first ws = map (λ (e : StmtWith). e.0) ws

block_spelled : (ws : List StmtWith) → AllSpelled (block_said (map stmt_said (first ws))) (block_names (first ws))
block_spelled [] = none (block_said [])
block_spelled (w ∷ ws) = all_both (stmt_said w.0) (block_said (map stmt_said (first ws))) (stmt_names w.0) (block_names (first ws)) w.1 (block_spelled ws)

-- a statement by its layer
by_layer : (x : Stmt-F Stmt) → AllSpelled (stmt_step (map-Stmt Stmt Said stmt_said x)) (stmt_names_step (map-Stmt Stmt (List (List ℕ)) stmt_names x)) → StmtFact (roll-Stmt x)
by_layer x h =
    subst (λ a. AllSpelled a (stmt_names (roll-Stmt x))) (sym (fold-roll-Stmt Said stmt_step x))
    (subst (AllSpelled (stmt_step (map-Stmt Stmt Said stmt_said x))) (sym (stmt_names_layer x)) h)

-- what stands behind a condition
behind_condition : (a c b : Said) (names : List (List ℕ)) → AllSpelled b names → AllSpelled (deeper (a ⨾ c ⨾ b)) names
behind_condition a c b names h = all_right a (c ⨾ b) names (all_right c b names h)

stmt_spelled_step : (y : Stmt-F StmtWith) → StmtFact (roll-Stmt (map-Stmt StmtWith Stmt (λ e. e.0) y))
stmt_spelled_step (s.Declared d) = by_layer (s.Declared d) (declaration_spelled d)
stmt_spelled_step (s.Assign place value) = by_layer (s.Assign place value) (none (stmt_step (s.Assign place value)))
stmt_spelled_step (s.Call call) = by_layer (s.Call call) (none (stmt_step (s.Call call)))
stmt_spelled_step (s.Block ws) =
    by_layer (s.Block (first ws)) (all_right (word k.OpenBrace) (block_said (map stmt_said (first ws))) (block_names (first ws)) (block_spelled ws))
stmt_spelled_step s.Empty = by_layer s.Empty (none (word k.Semicolon))
stmt_spelled_step (s.If c body None) =
    by_layer (s.If c body.0 None)
    (behind_condition (word k.If) (condition_said c) (branches_said (stmt_said body.0) None) (stmt_names body.0 ++ [])
    (All-append (SpelledBy (stmt_said body.0)) (stmt_names body.0) [] body.1 (none (stmt_said body.0))))
stmt_spelled_step (s.If c body (Some other)) =
    by_layer (s.If c body.0 (Some other.0))
    (behind_condition (word k.If) (condition_said c) (branches_said (stmt_said body.0) (Some (stmt_said other.0))) (stmt_names body.0 ++ stmt_names other.0)
    (all_both (stmt_said body.0) (word k.Else ⨾ stmt_said other.0) (stmt_names body.0) (stmt_names other.0) body.1 (all_right (word k.Else) (stmt_said other.0) (stmt_names other.0) other.1)))
stmt_spelled_step (s.While c body) =
    by_layer (s.While c body.0) (behind_condition (word k.While) (condition_said c) (stmt_said body.0) (stmt_names body.0) body.1)
stmt_spelled_step (s.Return tok value) = by_layer (s.Return tok value) (none (stmt_step (s.Return tok value)))

stmt_spelled : (t : Stmt) → StmtFact t
stmt_spelled = ind-Stmt StmtFact (λ x y is. subst (λ x. StmtFact (roll-Stmt x)) is (stmt_spelled_step y))

stmts_spelled : (stmts : List Stmt) → AllSpelled (block_said (map stmt_said stmts)) (block_names stmts)
stmts_spelled [] = none (block_said [])
stmts_spelled (t ∷ ts) = all_both (stmt_said t) (block_said (map stmt_said ts)) (stmt_names t) (block_names ts) (stmt_spelled t) (stmts_spelled ts)

-- ---- functions
param_spelled : (p : Param) → SpelledBy (param_said p) p.name.bytes
param_spelled p = spells_right (base_said p.base) (stars p.stars ⨾ named p.name) p.name.bytes (spells_right (stars p.stars) (named p.name) p.name.bytes (spells_named p.name))

more_params_spelled : (ps : List Param) → AllSpelled (more_params ps) (param_names ps)
more_params_spelled [] = none (more_params [])
more_params_spelled (p ∷ ps) = all_right (word k.Comma) (param_said p ⨾ more_params ps) (param_names (p ∷ ps)) (one_more (param_said p) (more_params ps) p.name.bytes (param_names ps) (param_spelled p) (more_params_spelled ps))

params_spelled : (flag : Bool) (ps : List Param) → AllSpelled (params_said flag ps) (param_names ps)
params_spelled true [] = none (params_said true [])
params_spelled false [] = none (params_said false [])
params_spelled true (p ∷ ps) = one_more (param_said p) (more_params ps) p.name.bytes (param_names ps) (param_spelled p) (more_params_spelled ps)
params_spelled false (p ∷ ps) = one_more (param_said p) (more_params ps) p.name.bytes (param_names ps) (param_spelled p) (more_params_spelled ps)

function_spelled : (flag : Bool) (f : Function) → AllSpelled (function_said flag f) (function_names f)
function_spelled flag f =
    let body = deeper (word k.OpenBrace ⨾ block_said (map stmt_said f.block)) in
    let params = params_said flag f.params in
    let inside = param_names f.params ++ block_names f.block in
    let behind = word k.OpenParen ⨾ params ⨾ body in
    let in_body : AllSpelled body (block_names f.block) = all_right (word k.OpenBrace) (block_said (map stmt_said f.block)) (block_names f.block) (stmts_spelled f.block) in
    let in_behind : AllSpelled behind inside = all_right (word k.OpenParen) (params ⨾ body) inside (all_both params body (param_names f.params) (block_names f.block) (params_spelled flag f.params) in_body) in
    all_right (base_said f.base) (stars f.stars ⨾ named f.name ⨾ behind) (function_names f)
    (all_right (stars f.stars) (named f.name ⨾ behind) (function_names f) (one_more (named f.name) behind f.name.bytes inside (spells_named f.name) in_behind))

item_spelled : (flag : Bool) (i : Item) → AllSpelled (item_said flag i) (item_names i)
item_spelled flag (item.Function f) = function_spelled flag f
item_spelled true (item.Declared d) = declaration_spelled d
item_spelled false (item.Declared d) = declaration_spelled d

-- ---- a program spells the names that it declares
pub program_spelled : (written : List Written) → AllSpelled (program_said written) (declared_names (items_of written))
program_spelled [] = none (program_said [])
program_spelled (w ∷ ws) = all_both (written_said w) (program_said ws) (item_names w.1) (declared_names (items_of ws)) (item_spelled w.0 w.1) (program_spelled ws)
