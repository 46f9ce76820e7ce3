-- Each form of a statement without statements in it, at a place of the tokens.
use Rattle.std.proofs.Common.{◌≡◌, ◌≢◌, ◌∙◌, refl, sym, ap, ℕ, ◌+◌, ◌-◌, Bool, true, false, List, [], ◌∷◌, ◌++◌, append_assoc, Some, None, arith}
use Rattle.std.specs.Prelude.{Option}
use Rattle.c_lexer.specs.declared.token.TokenKind.TheVariants as k
use Rattle.c_tree.specs.declared.tree.Tok.{Tok}
use Rattle.c_tree.specs.declared.tree.Call.{Call}
use Rattle.c_tree.specs.declared.tree.Call.TheOpen as o
use Rattle.c_tree.specs.declared.tree.Call.TheVariants as call
use Rattle.c_tree.specs.declared.tree.Expr.{Expr}
use Rattle.c_tree.specs.declared.tree.Declaration.{Declaration}
use Rattle.c_tree.specs.declared.tree.Stmt.{Stmt}
use Rattle.c_tree.specs.declared.tree.Stmt.TheOpen as s
use Rattle.c_tree.specs.declared.tree.Stmt.TheVariants as stmt
use Rattle.c_tree.specs.declared.fault.Wrong.{Wrong}
use Rattle.c_tree.specs.declared.fault.Wrong.TheVariants.{Unexpected, TooDeep}
use Rattle.c_tree.specs.Said.{Kind, Said, word, mark, ◌⨾◌}
use Rattle.c_tree.specs.Tokens.{Source, kind_at, tok_of}
use Rattle.c_tree.specs.Grammar.{call_said, condition_said, expr_said, vars_said, declaration_said, returned_said, stmt_said}
use Rattle.c_tree.specs.Reading.{Stops, ReadsAt, RefusesAt}
use Rattle.c_tree.proofs.Layers.{StmtLayer, stmt_layer, stmt_made, stmt_made_said, stmt_by_layer, call_made_said}
use Rattle.c_tree.proofs.Parts.{tok, seq, seq_joined, TurnIf, Least, Joined}
use Rattle.c_tree.proofs.Places.{tok_at, tok_refused_at, joined_at, first_refused_at, second_refused_at, turn_if_at, turn_if_refused_at}
use Rattle.c_tree.proofs.Choices.{Headed, not_first, not_headed, quiet_parted, Shallow, deep_at, behind_mark_at, behind_mark_refused_at}
use Rattle.c_expressions.proofs.Heads.{is_start, expr_head, expr_goes, expr_least, some_tok}
use Rattle.c_expressions.proofs.Forms.{malloc_parts, malloc_of, malloc_call, malloc_at, malloc_refused_at}
use Rattle.c_parser.proofs.Vars.{is_base, base_kind, base_is, base_single}
use Rattle.c_parser.proofs.Stmts.{is_semicolon, is_return, is_return_is, is_malloc, is_malloc_is, first_of, first_known, first_passes, begins_return, begins_base, begins_malloc, stmt_least}

-- ---- an expression and its semicolon
abbrev pub ended : Expr × Unit {0} → Said
ended = seq expr_said (tok k.Semicolon)

pub semicolon_least : Least (tok k.Semicolon)
semicolon_least = record { tree = tt; flat = refl; nearest = refl }

pub ended_joined : Joined expr_said (tok k.Semicolon) ended
ended_joined = seq_joined expr_said (tok k.Semicolon) (λ a b r h. expr_goes a (Some k.Semicolon) refl refl refl) semicolon_least

pub ended_least : Least ended
ended_least = record { tree = (expr_least.tree, tt); flat = let n = expr_least.flat in omega arith; nearest = let n = expr_least.nearest in omega arith }

pub ended_at : (s : Source) (at room next : ℕ) (e : Expr) → ReadsAt expr_said s at room e next → kind_at s.tokens next ≡ Some k.Semicolon → ReadsAt ended s at room (e, tt) (next + 1)
ended_at s at room next e r c = joined_at expr_said (tok k.Semicolon) ended ended_joined s at next (next + 1) room e tt r (tok_at s next room k.Semicolon c)

pub ended_refused_at : (s : Source) (at room token : ℕ) (why : Wrong) → RefusesAt expr_said s at room token why → RefusesAt ended s at room token why
ended_refused_at s at room token why r = first_refused_at expr_said (tok k.Semicolon) ended ended_joined s at room token why r

pub unended_at : (s : Source) (at room next : ℕ) (e : Expr) → ReadsAt expr_said s at room e next → kind_at s.tokens next ≢ Some k.Semicolon → RefusesAt ended s at room next Unexpected
unended_at s at room next e r other = second_refused_at expr_said (tok k.Semicolon) ended ended_joined s at next room e next Unexpected r (tok_refused_at s next room k.Semicolon other)

-- ---- what a `return` gives
abbrev is_no_semicolon : Kind → Bool
is_no_semicolon (Some k.Semicolon) = false
is_no_semicolon _ = true

start_no_semicolon : (a : Kind) → is_start a ≡ true → is_no_semicolon a ≡ true
start_no_semicolon (Some k.Semicolon) e = absurd (cc)
start_no_semicolon _ e = refl

semicolon_no_start : (a : Kind) → is_semicolon a ≡ true → is_start a ≡ false
semicolon_no_start (Some k.Semicolon) e = refl
semicolon_no_start _ e = absurd (cc)

not_semicolon : (a : Kind) → a ≢ Some k.Semicolon → is_no_semicolon a ≡ true
not_semicolon (Some k.Semicolon) h = absurd (h refl)
not_semicolon _ h = refl

ended_head : (e : Expr) → Headed is_start (ended (e, tt))
ended_head e = let d = expr_head e in (d.0, (d.1.0 ++ Some k.Semicolon ∷ [], ap (λ w. w ++ Some k.Semicolon ∷ []) d.1.1, d.1.2))

abbrev none_of : Unit {0} → Option Expr
none_of x = None

abbrev some_of : Expr × Unit {0} → Option Expr
some_of x = Some x.0

none_turned : (t : Option Expr) (r : List Kind) (a : Kind) (more : List Kind) → (returned_said t).kinds ++ r ≡ a ∷ more → is_semicolon a ≡ true → (x : Unit {0}) × (t ≡ None)
none_turned None r a more e h = (tt, refl)
none_turned (Some v) r a more e h = absurd (not_headed is_semicolon is_start (ended (v, tt)) (ended_head v) semicolon_no_start r a more e h)

none_turn : TurnIf (tok k.Semicolon) returned_said none_of is_semicolon
none_turn = record { same = λ x. refl; turn = λ t r a more e h z. none_turned t r a more e h; begins = λ x. (Some k.Semicolon, ([], refl, refl)) }

some_turned : (t : Option Expr) (r : List Kind) (a : Kind) (more : List Kind) → (returned_said t).kinds ++ r ≡ a ∷ more → is_no_semicolon a ≡ true → (x : Expr × Unit {0}) × (t ≡ some_of x)
some_turned None r a more e h = absurd (not_first is_no_semicolon (Some k.Semicolon) a r more e h refl)
some_turned (Some v) r a more e h = ((v, tt), refl)

some_turn : TurnIf ended returned_said some_of is_no_semicolon
some_turn = record { same = λ x. refl; turn = λ t r a more e h z. some_turned t r a more e h; begins = λ x. let d = ended_head x.0 in (d.0, (d.1.0, d.1.1, start_no_semicolon d.0 d.1.2)) }

pub returned_least : Least returned_said
returned_least = record { tree = None; flat = refl; nearest = refl }

pub nothing_returned_at : (s : Source) (at room : ℕ) → kind_at s.tokens at ≡ Some k.Semicolon → ReadsAt returned_said s at room None (at + 1)
nothing_returned_at s at room e = turn_if_at (tok k.Semicolon) returned_said none_of is_semicolon none_turn s at (at + 1) room tt (tok_at s at room k.Semicolon e)

pub returned_at : (s : Source) (at room next : ℕ) (e : Expr) → ReadsAt expr_said s at room e next → kind_at s.tokens next ≡ Some k.Semicolon → ReadsAt returned_said s at room (Some e) (next + 1)
returned_at s at room next e r c = turn_if_at ended returned_said some_of is_no_semicolon some_turn s at (next + 1) room (e, tt) (ended_at s at room next e r c)

pub returned_refused_at : (s : Source) (at room token : ℕ) (why : Wrong) → kind_at s.tokens at ≢ Some k.Semicolon → RefusesAt expr_said s at room token why → RefusesAt returned_said s at room token why
returned_refused_at s at room token why other r = turn_if_refused_at ended returned_said some_of is_no_semicolon some_turn s at room token why (not_semicolon (kind_at s.tokens at) other) (ended_refused_at s at room token why r)

pub returned_unended_at : (s : Source) (at room next : ℕ) (e : Expr) → kind_at s.tokens at ≢ Some k.Semicolon → ReadsAt expr_said s at room e next → kind_at s.tokens next ≢ Some k.Semicolon → RefusesAt returned_said s at room next Unexpected
returned_unended_at s at room next e other r missing = turn_if_refused_at ended returned_said some_of is_no_semicolon some_turn s at room next Unexpected (not_semicolon (kind_at s.tokens at) other) (unended_at s at room next e r missing)

-- ---- `return`
abbrev return_parts : Tok × Option Expr → Said
return_parts = seq (mark k.Return) returned_said

abbrev return_of : Tok × Option Expr → Stmt
return_of x = stmt.Return x.0 x.1

return_turn : TurnIf return_parts stmt_said return_of is_return
return_turn = record {
  same = λ x. stmt_made_said (s.Return x.0 x.1);
  turn = stmt_by_layer (λ w t. (r : List Kind) (a : Kind) (more : List Kind) → w.kinds ++ r ≡ a ∷ more → is_return a ≡ true → Stops w r → (y : Tok × Option Expr) × (t ≡ return_of y)) (λ x r a more e h z. begins_return x (first_known x r a more (Some k.Return) e (is_return_is a h)));
  begins = λ x. (Some k.Return, ((returned_said x.1).kinds, refl, refl));
}

pub return_at : (s : Source) (at room next : ℕ) (v : Option Expr) → kind_at s.tokens at ≡ Some k.Return → ReadsAt returned_said s (at + 1) room v next → ReadsAt stmt_said s at room (stmt.Return (tok_of s.tokens at) v) next
return_at s at room next v e r = turn_if_at return_parts stmt_said return_of is_return return_turn s at next room (tok_of s.tokens at, v) (behind_mark_at returned_said returned_least s at room k.Return e next v r)

pub return_refused_at : (s : Source) (at room token : ℕ) (why : Wrong) → kind_at s.tokens at ≡ Some k.Return → RefusesAt returned_said s (at + 1) room token why → RefusesAt stmt_said s at room token why
return_refused_at s at room token why e r = turn_if_refused_at return_parts stmt_said return_of is_return return_turn s at room token why (ap is_return e) (behind_mark_refused_at returned_said returned_least s at room k.Return e token why r)

-- ---- a declaration
declared_turn : TurnIf declaration_said stmt_said stmt.Declared is_base
declared_turn = record {
  same = λ x. stmt_made_said (s.Declared x);
  turn = stmt_by_layer (λ w t. (r : List Kind) (a : Kind) (more : List Kind) → w.kinds ++ r ≡ a ∷ more → is_base a ≡ true → Stops w r → (y : Declaration) × (t ≡ stmt.Declared y)) (λ x r a more e h z. begins_base a h x (first_passes x r a more e));
  begins = λ d. (Some (base_kind d.base), ((vars_said d.vars).kinds, ap (λ w. w ++ (vars_said d.vars).kinds) (base_single.kinds_is d.base), base_is d.base));
}

pub declared_stmt_at : (s : Source) (at room next : ℕ) (d : Declaration) → ReadsAt declaration_said s at room d next → ReadsAt stmt_said s at room (stmt.Declared d) next
declared_stmt_at s at room next d r = turn_if_at declaration_said stmt_said stmt.Declared is_base declared_turn s at next room d r

pub declared_stmt_refused_at : (s : Source) (at room token : ℕ) (why : Wrong) → is_base (kind_at s.tokens at) ≡ true → RefusesAt declaration_said s at room token why → RefusesAt stmt_said s at room token why
declared_stmt_refused_at s at room token why passes r = turn_if_refused_at declaration_said stmt_said stmt.Declared is_base declared_turn s at room token why passes r

-- ---- a call of `malloc`
-- no other form than a call begins with `malloc`
not_call : (x : StmtLayer) (r : List Kind) (a : Kind) (more : List Kind) → (stmt_layer x).kinds ++ r ≡ a ∷ more → is_malloc a ≡ true → first_of x (Some k.Malloc) ≡ false → ⊥
not_call x r a more e h fails = let passes = first_known x r a more (Some k.Malloc) e (is_malloc_is a h) in cc

abbrev pub malloc_stmt_parts : (Tok × Expr) × Unit {0} → Said
malloc_stmt_parts = seq malloc_parts (tok k.Semicolon)

abbrev pub malloc_stmt : (Tok × Expr) × Unit {0} → Stmt
malloc_stmt x = stmt.Call (malloc_of x.0)

malloc_stmt_joined : Joined malloc_parts (tok k.Semicolon) malloc_stmt_parts
malloc_stmt_joined = seq_joined malloc_parts (tok k.Semicolon) (quiet_parted malloc_parts (tok k.Semicolon) (λ x a. refl)) semicolon_least

-- a statement that begins with `malloc` is a call of it
malloc_turned : (x : StmtLayer) (r : List Kind) (a : Kind) (more : List Kind) → (stmt_layer x).kinds ++ r ≡ a ∷ more → is_malloc a ≡ true → (y : (Tok × Expr) × Unit {0}) × (stmt_made x ≡ malloc_stmt y)
malloc_turned x r a more e h = of_call x r a more e h (begins_malloc x (first_known x r a more (Some k.Malloc) e (is_malloc_is a h)))
  where
    of_call : (x : StmtLayer) (r : List Kind) (a : Kind) (more : List Kind) → (stmt_layer x).kinds ++ r ≡ a ∷ more → is_malloc a ≡ true → (c : Call) × (stmt_made x ≡ stmt.Call c) → (y : (Tok × Expr) × Unit {0}) × (stmt_made x ≡ malloc_stmt y)
    of_call (s.Call c) r a more e h y = let f = malloc_call c ((tok k.Semicolon tt).kinds ++ r) a more (sym (append_assoc (call_said c).kinds (tok k.Semicolon tt).kinds r) ∙ e) h in ((f.0, tt), ap stmt.Call f.1)
    of_call (s.Declared d) r a more e h y = absurd (not_call (s.Declared d) r a more e h refl)
    of_call (s.Assign p v) r a more e h y = absurd (not_call (s.Assign p v) r a more e h refl)
    of_call (s.Block xs) r a more e h y = absurd (not_call (s.Block xs) r a more e h refl)
    of_call s.Empty r a more e h y = absurd (not_call s.Empty r a more e h refl)
    of_call (s.If c b o) r a more e h y = absurd (not_call (s.If c b o) r a more e h refl)
    of_call (s.While c b) r a more e h y = absurd (not_call (s.While c b) r a more e h refl)
    of_call (s.Return t v) r a more e h y = absurd (not_call (s.Return t v) r a more e h refl)

malloc_stmt_turn : TurnIf malloc_stmt_parts stmt_said malloc_stmt is_malloc
malloc_stmt_turn = record {
  same = λ x. stmt_made_said (s.Call (malloc_of x.0)) ∙ ap (λ w. w ⨾ word k.Semicolon) (call_made_said (o.Malloc x.0.0 x.0.1));
  turn = stmt_by_layer (λ w t. (r : List Kind) (a : Kind) (more : List Kind) → w.kinds ++ r ≡ a ∷ more → is_malloc a ≡ true → Stops w r → (y : (Tok × Expr) × Unit {0}) × (t ≡ malloc_stmt y)) (λ x r a more e h z. malloc_turned x r a more e h);
  begins = λ x. (Some k.Malloc, ((condition_said x.0.1).kinds ++ Some k.Semicolon ∷ [], refl, refl));
}

pub malloc_stmt_at : (s : Source) (at room next : ℕ) (e : Expr) → kind_at s.tokens at ≡ Some k.Malloc → room ≢ 0 → ReadsAt condition_said s (at + 1) (room - 1) e next → kind_at s.tokens next ≡ Some k.Semicolon → ReadsAt stmt_said s at room (stmt.Call (call.Malloc (tok_of s.tokens at) e)) (next + 1)
malloc_stmt_at s at room next e here some r c =
    turn_if_at malloc_stmt_parts stmt_said malloc_stmt is_malloc malloc_stmt_turn s at (next + 1) room ((tok_of s.tokens at, e), tt)
    (joined_at malloc_parts (tok k.Semicolon) malloc_stmt_parts malloc_stmt_joined s at next (next + 1) room (tok_of s.tokens at, e) tt (malloc_at s at room next e here some r) (tok_at s next room k.Semicolon c))

pub malloc_stmt_refused_at : (s : Source) (at room token : ℕ) (why : Wrong) → kind_at s.tokens at ≡ Some k.Malloc → room ≢ 0 → RefusesAt condition_said s (at + 1) (room - 1) token why → RefusesAt stmt_said s at room token why
malloc_stmt_refused_at s at room token why here some r =
    turn_if_refused_at malloc_stmt_parts stmt_said malloc_stmt is_malloc malloc_stmt_turn s at room token why (ap is_malloc here)
    (first_refused_at malloc_parts (tok k.Semicolon) malloc_stmt_parts malloc_stmt_joined s at room token why (malloc_refused_at s at room token why here some r))

pub malloc_stmt_unended_at : (s : Source) (at room next : ℕ) (e : Expr) → kind_at s.tokens at ≡ Some k.Malloc → room ≢ 0 → ReadsAt condition_said s (at + 1) (room - 1) e next → kind_at s.tokens next ≢ Some k.Semicolon → RefusesAt stmt_said s at room next Unexpected
malloc_stmt_unended_at s at room next e here some r other =
    turn_if_refused_at malloc_stmt_parts stmt_said malloc_stmt is_malloc malloc_stmt_turn s at room next Unexpected (ap is_malloc here)
    (second_refused_at malloc_parts (tok k.Semicolon) malloc_stmt_parts malloc_stmt_joined s at next room (tok_of s.tokens at, e) next Unexpected (malloc_at s at room next e here some r) (tok_refused_at s next room k.Semicolon other))

malloc_stmt_shallow : Shallow malloc_stmt_parts (Some k.Malloc)
malloc_stmt_shallow =
    let n = expr_least.flat in let z = expr_least.nearest in
    record { tree = ((some_tok, expr_least.tree), tt); tail = (condition_said expr_least.tree).kinds ++ Some k.Semicolon ∷ []; spelled = refl; one = omega arith; nearest = omega arith }

pub malloc_stmt_deep_at : (s : Source) (at room : ℕ) → kind_at s.tokens at ≡ Some k.Malloc → room ≡ 0 → RefusesAt stmt_said s at room at TooDeep
malloc_stmt_deep_at s at room e z = deep_at malloc_stmt_parts stmt_said malloc_stmt is_malloc malloc_stmt_turn (λ x. omega arith) k.Malloc malloc_stmt_shallow refl stmt_least s at room e z
