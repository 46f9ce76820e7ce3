-- The forms of a statement: what each begins with, and what a statement goes on with.
use Rattle.std.proofs.Common.{◌≡◌, ◌≢◌, ◌∙◌, refl, ap, subst, Bool, true, false, List, [], ◌∷◌, ◌++◌, Some, None}
use Rattle.std.specs.Prelude.{map, Option}
use Rattle.c_lexer.specs.declared.token.TokenKind.TheVariants as k
use Rattle.c_tree.specs.declared.tree.Tok.{Tok}
use Rattle.c_tree.specs.declared.tree.Call.{Call}
use Rattle.c_tree.specs.declared.tree.Expr.{Expr}
use Rattle.c_tree.specs.declared.tree.Declaration.{Declaration}
use Rattle.c_tree.specs.declared.tree.Var.{Var}
use Rattle.c_tree.specs.declared.tree.Stmt.{Stmt, Stmt-F, roll-Stmt, ind-Stmt, map-Stmt}
use Rattle.c_tree.specs.declared.tree.Stmt.TheOpen as s
use Rattle.c_tree.specs.declared.tree.Stmt.TheVariants as stmt
use Rattle.c_tree.specs.Said.{Kind, Said, word, ◌⨾◌}
use Rattle.c_tree.specs.Grammar.{is_else, condition_said, place_said, call_said, expr_said, vars_said, more_vars, declaration_said, returned_said, block_said, stmt_said}
use Rattle.c_tree.proofs.Layers.{StmtLayer, stmt_layer, stmt_made, stmt_made_said, stmt_rolls, stmt_by_layer, branches_of}
use Rattle.c_tree.proofs.Parts.{Least}
use Rattle.c_tree.proofs.Choices.{Headed, headed_longer, head_passes, or_both}
use Rattle.c_expressions.proofs.Heads.{is_place_start, is_call_start, place_head, call_head}
use Rattle.c_parser.specs.Starts.{is_flat}
use Rattle.c_parser.proofs.Vars.{is_base, base_kind, base_is, base_single}

-- ---- tests of a first token
abbrev pub is_semicolon : Kind → Bool
is_semicolon (Some k.Semicolon) = true
is_semicolon _ = false

pub is_semicolon_is : (a : Kind) → is_semicolon a ≡ true → a ≡ Some k.Semicolon
is_semicolon_is (Some k.Semicolon) e = refl
is_semicolon_is _ e = absurd (cc)

abbrev pub is_brace : Kind → Bool
is_brace (Some k.OpenBrace) = true
is_brace _ = false

pub is_brace_is : (a : Kind) → is_brace a ≡ true → a ≡ Some k.OpenBrace
is_brace_is (Some k.OpenBrace) e = refl
is_brace_is _ e = absurd (cc)

abbrev pub is_if : Kind → Bool
is_if (Some k.If) = true
is_if _ = false

pub is_if_is : (a : Kind) → is_if a ≡ true → a ≡ Some k.If
is_if_is (Some k.If) e = refl
is_if_is _ e = absurd (cc)

abbrev pub is_while : Kind → Bool
is_while (Some k.While) = true
is_while _ = false

pub is_while_is : (a : Kind) → is_while a ≡ true → a ≡ Some k.While
is_while_is (Some k.While) e = refl
is_while_is _ e = absurd (cc)

abbrev pub is_return : Kind → Bool
is_return (Some k.Return) = true
is_return _ = false

pub is_return_is : (a : Kind) → is_return a ≡ true → a ≡ Some k.Return
is_return_is (Some k.Return) e = refl
is_return_is _ e = absurd (cc)

abbrev pub is_malloc : Kind → Bool
is_malloc (Some k.Malloc) = true
is_malloc _ = false

pub is_malloc_is : (a : Kind) → is_malloc a ≡ true → a ≡ Some k.Malloc
is_malloc_is (Some k.Malloc) e = refl
is_malloc_is _ e = absurd (cc)

-- the tokens that begin a form
abbrev pub first_of : StmtLayer → Kind → Bool
first_of (s.Declared d) a = is_base a
first_of (s.Assign p value) a = is_place_start a
first_of (s.Call c) a = is_call_start a
first_of (s.Block stmts) a = is_brace a
first_of s.Empty a = is_semicolon a
first_of (s.If condition body other) a = is_if a
first_of (s.While condition body) a = is_while a
first_of (s.Return t value) a = is_return a

pub declared_head : (d : Declaration) → Headed is_base (declaration_said d)
declared_head d = (Some (base_kind d.base), ((vars_said d.vars).kinds, ap (λ w. w ++ (vars_said d.vars).kinds) (base_single.kinds_is d.base), base_is d.base))

pub layer_head : (x : StmtLayer) → Headed (first_of x) (stmt_layer x)
layer_head (s.Declared d) = declared_head d
layer_head (s.Assign p value) = headed_longer is_place_start (place_said p) (place_said p ⨾ word k.Assign ⨾ expr_said value ⨾ word k.Semicolon) (word k.Assign ⨾ expr_said value ⨾ word k.Semicolon).kinds (place_head p) refl
layer_head (s.Call c) = headed_longer is_call_start (call_said c) (call_said c ⨾ word k.Semicolon) (word k.Semicolon).kinds (call_head c) refl
layer_head (s.Block stmts) = (Some k.OpenBrace, ((block_said (map stmt_said stmts)).kinds, refl, refl))
layer_head s.Empty = (Some k.Semicolon, ([], refl, refl))
layer_head (s.If condition body other) = (Some k.If, ((condition_said condition ⨾ branches_of body other).kinds, refl, refl))
layer_head (s.While condition body) = (Some k.While, ((condition_said condition ⨾ stmt_said body).kinds, refl, refl))
layer_head (s.Return t value) = (Some k.Return, ((returned_said value).kinds, refl, refl))

-- what a statement spells begins with a token of its form
pub first_passes : (x : StmtLayer) (r : List Kind) (a : Kind) (more : List Kind) → (stmt_layer x).kinds ++ r ≡ a ∷ more → first_of x a ≡ true
first_passes x r a more e = head_passes (first_of x) (stmt_layer x) (layer_head x) r a more e

-- the same, where the token is known
pub first_known : (x : StmtLayer) (r : List Kind) (a : Kind) (more : List Kind) (b : Kind) → (stmt_layer x).kinds ++ r ≡ a ∷ more → a ≡ b → first_of x b ≡ true
first_known x r a more b e is = subst (λ a. first_of x a ≡ true) is (first_passes x r a more e)

-- no statement begins with what ends a list of them, nor with `else`
abbrev pub is_stmt : Kind → Bool
is_stmt (Some k.CloseBrace) = false
is_stmt (Some k.Else) = false
is_stmt None = false
is_stmt _ = true

stmt_is_base : (a : Kind) → is_base a ≡ true → is_stmt a ≡ true
stmt_is_base (Some k.CloseBrace) e = absurd (cc)
stmt_is_base (Some k.Else) e = absurd (cc)
stmt_is_base None e = absurd (cc)
stmt_is_base _ e = refl

stmt_is_place_start : (a : Kind) → is_place_start a ≡ true → is_stmt a ≡ true
stmt_is_place_start (Some k.CloseBrace) e = absurd (cc)
stmt_is_place_start (Some k.Else) e = absurd (cc)
stmt_is_place_start None e = absurd (cc)
stmt_is_place_start _ e = refl

stmt_is_call_start : (a : Kind) → is_call_start a ≡ true → is_stmt a ≡ true
stmt_is_call_start (Some k.CloseBrace) e = absurd (cc)
stmt_is_call_start (Some k.Else) e = absurd (cc)
stmt_is_call_start None e = absurd (cc)
stmt_is_call_start _ e = refl

stmt_is_brace : (a : Kind) → is_brace a ≡ true → is_stmt a ≡ true
stmt_is_brace (Some k.CloseBrace) e = absurd (cc)
stmt_is_brace (Some k.Else) e = absurd (cc)
stmt_is_brace None e = absurd (cc)
stmt_is_brace _ e = refl

stmt_is_semicolon : (a : Kind) → is_semicolon a ≡ true → is_stmt a ≡ true
stmt_is_semicolon (Some k.CloseBrace) e = absurd (cc)
stmt_is_semicolon (Some k.Else) e = absurd (cc)
stmt_is_semicolon None e = absurd (cc)
stmt_is_semicolon _ e = refl

stmt_is_if : (a : Kind) → is_if a ≡ true → is_stmt a ≡ true
stmt_is_if (Some k.CloseBrace) e = absurd (cc)
stmt_is_if (Some k.Else) e = absurd (cc)
stmt_is_if None e = absurd (cc)
stmt_is_if _ e = refl

stmt_is_while : (a : Kind) → is_while a ≡ true → is_stmt a ≡ true
stmt_is_while (Some k.CloseBrace) e = absurd (cc)
stmt_is_while (Some k.Else) e = absurd (cc)
stmt_is_while None e = absurd (cc)
stmt_is_while _ e = refl

stmt_is_return : (a : Kind) → is_return a ≡ true → is_stmt a ≡ true
stmt_is_return (Some k.CloseBrace) e = absurd (cc)
stmt_is_return (Some k.Else) e = absurd (cc)
stmt_is_return None e = absurd (cc)
stmt_is_return _ e = refl

first_stmt : (x : StmtLayer) (a : Kind) → first_of x a ≡ true → is_stmt a ≡ true
first_stmt (s.Declared d) a e = stmt_is_base a e
first_stmt (s.Assign p value) a e = stmt_is_place_start a e
first_stmt (s.Call c) a e = stmt_is_call_start a e
first_stmt (s.Block stmts) a e = stmt_is_brace a e
first_stmt s.Empty a e = stmt_is_semicolon a e
first_stmt (s.If condition body other) a e = stmt_is_if a e
first_stmt (s.While condition body) a e = stmt_is_while a e
first_stmt (s.Return t value) a e = stmt_is_return a e

pub stmt_head : (t : Stmt) → Headed is_stmt (stmt_said t)
stmt_head = stmt_by_layer (λ s t. Headed is_stmt s) (λ x. let h = layer_head x in (h.0, (h.1.0, h.1.1, first_stmt x h.0 h.1.2)))

-- ---- what a statement goes on with at most: `else`
pub block_quiet : (xs : List Said) (a : Kind) → (block_said xs).goes_on a ≡ false
block_quiet [] a = refl
block_quiet (x ∷ xs) a = block_quiet xs a

more_quiet : (vs : List Var) (a : Kind) → (more_vars vs).goes_on a ≡ false
more_quiet [] a = refl
more_quiet (v ∷ vs) a = more_quiet vs a

pub vars_quiet : (vs : List Var) (a : Kind) → (vars_said vs).goes_on a ≡ false
vars_quiet [] a = refl
vars_quiet (v ∷ vs) a = more_quiet vs a

returned_quiet : (v : Option Expr) (a : Kind) → (returned_said v).goes_on a ≡ false
returned_quiet None a = refl
returned_quiet (Some v) a = refl

abbrev Goes : Stmt → Type 0
Goes t = (a : Kind) → is_else a ≡ false → (stmt_said t).goes_on a ≡ false

goes_made : (x : StmtLayer) → ((a : Kind) → is_else a ≡ false → (stmt_layer x).goes_on a ≡ false) → Goes (roll-Stmt x)
goes_made x f a h = ap (λ t. (stmt_said t).goes_on a) (stmt_rolls x) ∙ ap (λ s. s.goes_on a) (stmt_made_said x) ∙ f a h

goes_step : (y : Stmt-F ((t : Stmt) × Goes t)) → Goes (roll-Stmt (map-Stmt ((t : Stmt) × Goes t) Stmt (λ e. e.0) y))
goes_step (s.Declared d) = goes_made (s.Declared d) (λ a h. vars_quiet d.vars a)
goes_step (s.Assign p value) = goes_made (s.Assign p value) (λ a h. refl)
goes_step (s.Call c) = goes_made (s.Call c) (λ a h. refl)
goes_step (s.Block stmts) = goes_made (s.Block (map (λ e. e.0) stmts)) (λ a h. block_quiet (map stmt_said (map (λ e. e.0) stmts)) a)
goes_step s.Empty = goes_made s.Empty (λ a h. refl)
goes_step (s.If c body None) = goes_made (s.If c body.0 None) (λ a h. or_both (is_else a) ((stmt_said body.0).goes_on a) h (body.1 a h))
goes_step (s.If c body (Some other)) = goes_made (s.If c body.0 (Some other.0)) (λ a h. other.1 a h)
goes_step (s.While c body) = goes_made (s.While c body.0) (λ a h. body.1 a h)
goes_step (s.Return t value) = goes_made (s.Return t value) (λ a h. returned_quiet value a)

pub stmt_goes : (t : Stmt) (a : Kind) → is_else a ≡ false → (stmt_said t).goes_on a ≡ false
stmt_goes = ind-Stmt Goes (λ x y is. subst (λ x. Goes (roll-Stmt x)) is (goes_step y))

-- ---- the least statement
pub stmt_least : Least stmt_said
stmt_least = let n = stmt_made_said s.Empty in record { tree = stmt.Empty; flat = ap (λ s. s.levels) n; nearest = ap (λ s. s.strays) n }

-- ---- which form begins with a token
pub begins_empty : (x : StmtLayer) → first_of x (Some k.Semicolon) ≡ true → (y : Unit {0}) × (stmt_made x ≡ stmt.Empty)
begins_empty (s.Declared d) e = absurd (cc)
begins_empty (s.Assign p value) e = absurd (cc)
begins_empty (s.Call c) e = absurd (cc)
begins_empty (s.Block stmts) e = absurd (cc)
begins_empty s.Empty e = (tt, refl)
begins_empty (s.If condition body other) e = absurd (cc)
begins_empty (s.While condition body) e = absurd (cc)
begins_empty (s.Return t value) e = absurd (cc)

pub begins_block : (x : StmtLayer) → first_of x (Some k.OpenBrace) ≡ true → (y : List Stmt) × (stmt_made x ≡ stmt.Block y)
begins_block (s.Declared d) e = absurd (cc)
begins_block (s.Assign p value) e = absurd (cc)
begins_block (s.Call c) e = absurd (cc)
begins_block (s.Block stmts) e = (stmts, refl)
begins_block s.Empty e = absurd (cc)
begins_block (s.If condition body other) e = absurd (cc)
begins_block (s.While condition body) e = absurd (cc)
begins_block (s.Return t value) e = absurd (cc)

pub begins_if : (x : StmtLayer) → first_of x (Some k.If) ≡ true → (y : Expr × (Stmt × Option Stmt)) × (stmt_made x ≡ stmt.If y.0 y.1.0 y.1.1)
begins_if (s.Declared d) e = absurd (cc)
begins_if (s.Assign p value) e = absurd (cc)
begins_if (s.Call c) e = absurd (cc)
begins_if (s.Block stmts) e = absurd (cc)
begins_if s.Empty e = absurd (cc)
begins_if (s.If condition body other) e = ((condition, (body, other)), refl)
begins_if (s.While condition body) e = absurd (cc)
begins_if (s.Return t value) e = absurd (cc)

pub begins_while : (x : StmtLayer) → first_of x (Some k.While) ≡ true → (y : Expr × Stmt) × (stmt_made x ≡ stmt.While y.0 y.1)
begins_while (s.Declared d) e = absurd (cc)
begins_while (s.Assign p value) e = absurd (cc)
begins_while (s.Call c) e = absurd (cc)
begins_while (s.Block stmts) e = absurd (cc)
begins_while s.Empty e = absurd (cc)
begins_while (s.If condition body other) e = absurd (cc)
begins_while (s.While condition body) e = ((condition, body), refl)
begins_while (s.Return t value) e = absurd (cc)

pub begins_return : (x : StmtLayer) → first_of x (Some k.Return) ≡ true → (y : Tok × Option Expr) × (stmt_made x ≡ stmt.Return y.0 y.1)
begins_return (s.Declared d) e = absurd (cc)
begins_return (s.Assign p value) e = absurd (cc)
begins_return (s.Call c) e = absurd (cc)
begins_return (s.Block stmts) e = absurd (cc)
begins_return s.Empty e = absurd (cc)
begins_return (s.If condition body other) e = absurd (cc)
begins_return (s.While condition body) e = absurd (cc)
begins_return (s.Return t value) e = ((t, value), refl)

pub begins_malloc : (x : StmtLayer) → first_of x (Some k.Malloc) ≡ true → (y : Call) × (stmt_made x ≡ stmt.Call y)
begins_malloc (s.Declared d) e = absurd (cc)
begins_malloc (s.Assign p value) e = absurd (cc)
begins_malloc (s.Call c) e = (c, refl)
begins_malloc (s.Block stmts) e = absurd (cc)
begins_malloc s.Empty e = absurd (cc)
begins_malloc (s.If condition body other) e = absurd (cc)
begins_malloc (s.While condition body) e = absurd (cc)
begins_malloc (s.Return t value) e = absurd (cc)

pub begins_int : (x : StmtLayer) → first_of x (Some k.Int) ≡ true → (y : Declaration) × (stmt_made x ≡ stmt.Declared y)
begins_int (s.Declared d) e = (d, refl)
begins_int (s.Assign p value) e = absurd (cc)
begins_int (s.Call c) e = absurd (cc)
begins_int (s.Block stmts) e = absurd (cc)
begins_int s.Empty e = absurd (cc)
begins_int (s.If condition body other) e = absurd (cc)
begins_int (s.While condition body) e = absurd (cc)
begins_int (s.Return t value) e = absurd (cc)

pub begins_char : (x : StmtLayer) → first_of x (Some k.Char) ≡ true → (y : Declaration) × (stmt_made x ≡ stmt.Declared y)
begins_char (s.Declared d) e = (d, refl)
begins_char (s.Assign p value) e = absurd (cc)
begins_char (s.Call c) e = absurd (cc)
begins_char (s.Block stmts) e = absurd (cc)
begins_char s.Empty e = absurd (cc)
begins_char (s.If condition body other) e = absurd (cc)
begins_char (s.While condition body) e = absurd (cc)
begins_char (s.Return t value) e = absurd (cc)

pub begins_void : (x : StmtLayer) → first_of x (Some k.Void) ≡ true → (y : Declaration) × (stmt_made x ≡ stmt.Declared y)
begins_void (s.Declared d) e = (d, refl)
begins_void (s.Assign p value) e = absurd (cc)
begins_void (s.Call c) e = absurd (cc)
begins_void (s.Block stmts) e = absurd (cc)
begins_void s.Empty e = absurd (cc)
begins_void (s.If condition body other) e = absurd (cc)
begins_void (s.While condition body) e = absurd (cc)
begins_void (s.Return t value) e = absurd (cc)

pub begins_base : (a : Kind) → is_base a ≡ true → (x : StmtLayer) → first_of x a ≡ true → (y : Declaration) × (stmt_made x ≡ stmt.Declared y)
begins_base (Some k.Int) h x e = begins_int x e
begins_base (Some k.Char) h x e = begins_char x e
begins_base (Some k.Void) h x e = begins_void x e
begins_base _ h x e = absurd (cc)

pub flat_here : (a : Kind) → a ≢ Some k.Semicolon → a ≢ Some k.OpenBrace → a ≢ Some k.If → a ≢ Some k.While → is_flat a ≡ true
flat_here (Some k.Semicolon) no_empty no_block no_if no_while = absurd (no_empty refl)
flat_here (Some k.OpenBrace) no_empty no_block no_if no_while = absurd (no_block refl)
flat_here (Some k.If) no_empty no_block no_if no_while = absurd (no_if refl)
flat_here (Some k.While) no_empty no_block no_if no_while = absurd (no_while refl)
flat_here _ no_empty no_block no_if no_while = refl
