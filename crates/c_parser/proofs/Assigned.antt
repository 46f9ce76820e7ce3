-- Assignments, and calls of functions that stand alone: which of both it is, the second token tells.
use Rattle.std.proofs.Common.{◌≡◌, ◌≢◌, ◌⊎◌, inl, inr, ◌∙◌, refl, sym, ap, subst, ℕ, ◌+◌, ◌-◌, Bool, true, false, List, [], ◌∷◌, ◌++◌, length-append, append_assoc, Some, None, arith}
use Rattle.std.specs.Prelude.{map, ◌||◌}
use Rattle.c_lexer.specs.declared.token.TokenKind.TheVariants as k
use Rattle.c_tree.specs.declared.tree.Name.{Name}
use Rattle.c_tree.specs.declared.tree.Place.{Place}
use Rattle.c_tree.specs.declared.tree.Place.TheVariants as place
use Rattle.c_tree.specs.declared.tree.Call.{Call}
use Rattle.c_tree.specs.declared.tree.Call.TheOpen as o
use Rattle.c_tree.specs.declared.tree.Call.TheVariants as call
use Rattle.c_tree.specs.declared.tree.Expr.{Expr}
use Rattle.c_tree.specs.declared.tree.Declaration.{Declaration}
use Rattle.c_tree.specs.declared.tree.Stmt.{Stmt}
use Rattle.c_tree.specs.declared.tree.Stmt.TheOpen as s
use Rattle.c_tree.specs.declared.tree.Stmt.TheVariants as stmt
use Rattle.c_tree.specs.declared.fault.Wrong.{Wrong}
use Rattle.c_tree.specs.declared.fault.Wrong.TheVariants.{Unexpected, TooDeep}
use Rattle.c_tree.specs.Said.{Kind, Said, word, ◌⨾◌}
use Rattle.c_tree.specs.Tokens.{Source, kind_at, name_of}
use Rattle.c_tree.specs.Grammar.{is_open, args_of, condition_said, block_said, returned_said, vars_said, declaration_said, place_said, call_said, pointer_said, expr_said, stmt_said}
use Rattle.c_tree.specs.Reading.{Stops, Begins, ReadsAt, RefusesAt, from}
use Rattle.c_tree.proofs.Layers.{branches_of, CallLayer, call_layer, call_by_layer, StmtLayer, stmt_layer, stmt_made, stmt_made_said, stmt_by_layer, PlaceLayer, place_layer, place_by_layer, place_made_said, call_made_said}
use Rattle.c_tree.proofs.Parts.{tok, kind_of, tok_single, front_head, stops_same, seq, seq_joined, Least, joined_refused_first, joined_refused_second, Turn, Joined}
use Rattle.c_tree.proofs.Places.{some_name, from_more, from_some, first_refused_at, tok_at, tok_refused_at, joined_at, turn_at, turn_refused_at}
use Rattle.c_tree.proofs.Choices.{quiet_parted, single_joined, behind_tok_at, behind_tok_refused_at, deep_behind, from_at}
use Rattle.c_expressions.proofs.Heads.{args_quiet, place_goes, expr_least}
use Rattle.c_expressions.proofs.Forms.{place_name_at, function_parts, function_of, function_call, function_at, function_behind}
use Rattle.c_parser.proofs.Stmts.{first_of, first_passes}
use Rattle.c_parser.proofs.SimpleForms.{semicolon_least, ended, ended_least, ended_at, ended_refused_at, unended_at}
use Rattle.c_parser.proofs.Vars.{is_base, base_kind, base_is, base_single}
use Rattle.c_parser.proofs.Ahead.{Ahead, ahead_at, ahead_refuses, not_both}
use Rattle.c_parser.specs.Bases.{base_of}
use Rattle.c_parser.specs.Starts.{is_assigned, is_flat}

-- ---- a call of a function
abbrev pub function_stmt_parts : (Name × (Unit {0} × List Expr)) × Unit {0} → Said
function_stmt_parts = seq function_parts (tok k.Semicolon)

abbrev pub function_stmt : (Name × (Unit {0} × List Expr)) × Unit {0} → Stmt
function_stmt x = stmt.Call (function_of x.0)

function_stmt_joined : Joined function_parts (tok k.Semicolon) function_stmt_parts
function_stmt_joined = seq_joined function_parts (tok k.Semicolon) (quiet_parted function_parts (tok k.Semicolon) (λ x a. args_quiet (map expr_said x.1.1) a)) semicolon_least

assign_no_function : (p : Place) (w r more : List Kind) → ((place_said p).kinds ++ Some k.Assign ∷ w) ++ r ≡ Some k.Name ∷ Some k.OpenParen ∷ more → ⊥
assign_no_function = place_by_layer (λ s t. (w r more : List Kind) → (s.kinds ++ Some k.Assign ∷ w) ++ r ≡ Some k.Name ∷ Some k.OpenParen ∷ more → ⊥) layer
  where
    layer : (x : PlaceLayer) (w r more : List Kind) → ((place_layer x).kinds ++ Some k.Assign ∷ w) ++ r ≡ Some k.Name ∷ Some k.OpenParen ∷ more → ⊥
    layer (o.Place::Name name) w r more e = cc
    layer (o.Place::Star t inner) w r more e = cc

not_named : (x : StmtLayer) (r more : List Kind) → (stmt_layer x).kinds ++ r ≡ Some k.Name ∷ Some k.OpenParen ∷ more → first_of x (Some k.Name) ≡ false → ⊥
not_named x r more e fails = let passes = first_passes x r (Some k.Name) (Some k.OpenParen ∷ more) e in cc

function_turned : (x : StmtLayer) (r more : List Kind) → (stmt_layer x).kinds ++ r ≡ Some k.Name ∷ Some k.OpenParen ∷ more → (y : (Name × (Unit {0} × List Expr)) × Unit {0}) × (stmt_made x ≡ function_stmt y)
function_turned (s.Declared d) r more e = absurd (not_named (s.Declared d) r more e refl)
function_turned (s.Assign p v) r more e = absurd (assign_no_function p ((expr_said v).kinds ++ Some k.Semicolon ∷ []) r more e)
function_turned (s.Call c) r more e = let f = function_call c (Some k.Semicolon ∷ r) more (sym (append_assoc (call_said c).kinds (Some k.Semicolon ∷ []) r) ∙ e) in ((f.0, tt), ap stmt.Call f.1)
function_turned (s.Block xs) r more e = absurd (not_named (s.Block xs) r more e refl)
function_turned s.Empty r more e = absurd (not_named s.Empty r more e refl)
function_turned (s.If c b i) r more e = absurd (not_named (s.If c b i) r more e refl)
function_turned (s.While c b) r more e = absurd (not_named (s.While c b) r more e refl)
function_turned (s.Return t v) r more e = absurd (not_named (s.Return t v) r more e refl)

function_turn : Turn function_stmt_parts stmt_said function_stmt (Some k.Name ∷ Some k.OpenParen ∷ [])
function_turn = record {
  same = λ x. stmt_made_said (s.Call (function_of x.0)) ∙ ap (λ w. w ⨾ word k.Semicolon) (call_made_said (o.Function x.0.0 x.0.1.1));
  turn = stmt_by_layer (λ w t. (r more : List Kind) → w.kinds ++ r ≡ Some k.Name ∷ Some k.OpenParen ∷ more → Stops w r → (y : (Name × (Unit {0} × List Expr)) × Unit {0}) × (t ≡ function_stmt y)) (λ x r more e h. function_turned x r more e);
  begins = λ x. ((args_of x.0.1.1).kinds ++ Some k.Semicolon ∷ [], refl);
}

pub function_stmt_at : (s : Source) (at room next : ℕ) (args : List Expr) → kind_at s.tokens at ≡ Some k.Name → kind_at s.tokens (at + 1) ≡ Some k.OpenParen → room ≢ 0 → ReadsAt args_of s (at + 2) (room - 1) args next → kind_at s.tokens next ≡ Some k.Semicolon → ReadsAt stmt_said s at room (stmt.Call (call.Function (name_of s at) args)) (next + 1)
function_stmt_at s at room next args e i some r c =
    turn_at function_stmt_parts stmt_said function_stmt (Some k.Name ∷ Some k.OpenParen ∷ []) function_turn s at (next + 1) room ((name_of s at, (tt, args)), tt)
    (joined_at function_parts (tok k.Semicolon) function_stmt_parts function_stmt_joined s at next (next + 1) room (name_of s at, (tt, args)) tt (function_at s at room next args e i some r) (tok_at s next room k.Semicolon c))

pub function_stmt_refused_at : (s : Source) (at room token : ℕ) (why : Wrong) → kind_at s.tokens at ≡ Some k.Name → kind_at s.tokens (at + 1) ≡ Some k.OpenParen → room ≢ 0 → RefusesAt args_of s (at + 2) (room - 1) token why → RefusesAt stmt_said s at room token why
function_stmt_refused_at s at room token why e i some r =
    let b = function_behind s at room token why e i some r in
    turn_refused_at function_stmt_parts stmt_said function_stmt (Some k.Name ∷ Some k.OpenParen ∷ []) function_turn s at room token why
    (record {
      front = b.front;
      bad = b.bad;
      refuses = joined_refused_first function_parts (tok k.Semicolon) function_stmt_parts function_stmt_joined (from s.tokens at) room (Some k.Name ∷ Some k.OpenParen ∷ b.front) b.bad why b.refuses;
      place = b.place;
    })

pub function_stmt_unended_at : (s : Source) (at room next : ℕ) (args : List Expr) → kind_at s.tokens at ≡ Some k.Name → kind_at s.tokens (at + 1) ≡ Some k.OpenParen → room ≢ 0 → ReadsAt args_of s (at + 2) (room - 1) args next → kind_at s.tokens next ≢ Some k.Semicolon → RefusesAt stmt_said s at room next Unexpected
function_stmt_unended_at s at room next args e i some r other =
    let ra = function_at s at room next args e i some r in
    let t = tok_refused_at s next room k.Semicolon other in
    let p = ra.place in let q = t.place in
    let n = length-append (args_of args).kinds t.front in
    turn_refused_at function_stmt_parts stmt_said function_stmt (Some k.Name ∷ Some k.OpenParen ∷ []) function_turn s at room next Unexpected
    (record {
      front = (args_of args).kinds ++ t.front;
      bad = t.bad;
      refuses = joined_refused_second function_parts (tok k.Semicolon) function_stmt_parts function_stmt_joined (from s.tokens at) (from s.tokens next) room (name_of s at, (tt, args)) t.front t.bad Unexpected ra.reads t.refuses;
      place = omega arith;
    })

-- some statement without a level begins with a name
name_begins : Begins stmt_said 0 (Some k.Name ∷ [])
name_begins =
    let n = stmt_made_said (s.Assign (place.Name some_name) expr_least.tree) in
    let p = place_made_said (o.Place::Name some_name) in
    let l = expr_least.flat in let z = expr_least.nearest in
    let pl = ap (λ s. s.levels) p in let pz = ap (λ s. s.strays) p in
    let nl = ap (λ s. s.levels) n in let nz = ap (λ s. s.strays) n in
    record {
      tree = stmt.Assign (place.Name some_name) expr_least.tree;
      more = Some k.Assign ∷ ((expr_said expr_least.tree).kinds ++ Some k.Semicolon ∷ []);
      spelled = ap (λ s. s.kinds) n ∙ ap (λ s. s.kinds ++ Some k.Assign ∷ ((expr_said expr_least.tree).kinds ++ Some k.Semicolon ∷ [])) p;
      within = omega arith;
      nearest = omega arith;
    }

pub function_stmt_deep_at : (s : Source) (at room : ℕ) → kind_at s.tokens at ≡ Some k.Name → kind_at s.tokens (at + 1) ≡ Some k.OpenParen → room ≡ 0 → RefusesAt stmt_said s at room (at + 1) TooDeep
function_stmt_deep_at s at room e i z =
    let m = from_more s at k.Name e in
    let f = from_at s (at + 1) (Some k.OpenParen) i in
    deep_behind function_stmt_parts stmt_said function_stmt (Some k.Name ∷ []) (Some k.OpenParen) function_turn (λ x. omega arith) ((some_name, (tt, [])), tt) (omega arith) refl name_begins s at room f.0 (m.0 ∙ ap (λ w. Some k.Name ∷ w) f.1) z

-- ---- an assignment
-- whether the next tokens begin an assignment, by the two first
abbrev pub is_ahead : List Kind → Bool
is_ahead [] = false
is_ahead (a ∷ []) = is_assigned a None
is_ahead (a ∷ b ∷ r) = is_assigned a b

ahead_false : (a : Kind) → ((b : Kind) → is_assigned a b ≡ false) → (r : List Kind) → is_ahead (a ∷ r) ≡ false
ahead_false a f [] = f None
ahead_false a f (b ∷ r) = f b

abbrev assign_tail : Unit {0} × (Expr × Unit {0}) → Said
assign_tail = seq (tok k.Assign) ended

abbrev pub assign_parts : Place × (Unit {0} × (Expr × Unit {0})) → Said
assign_parts = seq place_said assign_tail

abbrev pub assign_of : Place × (Unit {0} × (Expr × Unit {0})) → Stmt
assign_of x = stmt.Assign x.0 x.1.1.0

assign_tail_least : Least assign_tail
assign_tail_least = let n = ended_least.flat in let z = ended_least.nearest in record { tree = (tt, ended_least.tree); flat = omega arith; nearest = omega arith }

assign_joined : Joined place_said assign_tail assign_parts
assign_joined = seq_joined place_said assign_tail (λ p b r h. place_goes p (Some k.Assign) refl) assign_tail_least

base_not_ahead : (a : Kind) → is_base a ≡ true → (b : Kind) → is_assigned a b ≡ false
base_not_ahead (Some k.Int) e b = refl
base_not_ahead (Some k.Char) e b = refl
base_not_ahead (Some k.Void) e b = refl
base_not_ahead _ e b = absurd (cc)

no_truth : (b : Bool) → b ≡ true → b ≡ false → ⊥
no_truth b e f = cc

declared_not_ahead : (d : Declaration) (r : List Kind) → is_ahead ((declaration_said d).kinds ++ r) ≡ false
declared_not_ahead d r =
    let h = base_single.kinds_is d.base in
    ap (λ w. is_ahead ((w ++ (vars_said d.vars).kinds) ++ r)) h ∙ ahead_false (Some (base_kind d.base)) (base_not_ahead (Some (base_kind d.base)) (base_is d.base)) ((vars_said d.vars).kinds ++ r)

call_not_ahead : (c : Call) (r : List Kind) → is_ahead ((call_said c).kinds ++ r) ≡ false
call_not_ahead = call_by_layer (λ s t. (r : List Kind) → is_ahead (s.kinds ++ r) ≡ false) layer
  where
    layer : (x : CallLayer) (r : List Kind) → is_ahead ((call_layer x).kinds ++ r) ≡ false
    layer (o.Function name args) r = refl
    layer (o.Malloc t size) r = refl

assign_turned : (x : StmtLayer) (r : List Kind) → is_ahead ((stmt_layer x).kinds ++ r) ≡ true → (y : Place × (Unit {0} × (Expr × Unit {0}))) × (stmt_made x ≡ assign_of y)
assign_turned (s.Declared d) r e = absurd (no_truth (is_ahead ((declaration_said d).kinds ++ r)) e (declared_not_ahead d r))
assign_turned (s.Assign p v) r e = ((p, (tt, (v, tt))), refl)
assign_turned (s.Call c) r e = absurd (no_truth (is_ahead ((call_said c).kinds ++ (Some k.Semicolon ∷ r))) (ap is_ahead (sym (append_assoc (call_said c).kinds (Some k.Semicolon ∷ []) r)) ∙ e) (call_not_ahead c (Some k.Semicolon ∷ r)))
assign_turned (s.Block xs) r e = absurd (no_truth (is_ahead ((stmt_layer (s.Block xs)).kinds ++ r)) e (ahead_false (Some k.OpenBrace) (λ b. refl) ((block_said (map stmt_said xs)).kinds ++ r)))
assign_turned s.Empty r e = absurd (no_truth (is_ahead (Some k.Semicolon ∷ r)) e (ahead_false (Some k.Semicolon) (λ b. refl) r))
assign_turned (s.If c b i) r e = absurd (no_truth (is_ahead ((stmt_layer (s.If c b i)).kinds ++ r)) e (ahead_false (Some k.If) (λ b. refl) ((condition_said c ⨾ branches_of b i).kinds ++ r)))
assign_turned (s.While c b) r e = absurd (no_truth (is_ahead ((stmt_layer (s.While c b)).kinds ++ r)) e (ahead_false (Some k.While) (λ b. refl) ((condition_said c ⨾ stmt_said b).kinds ++ r)))
assign_turned (s.Return t v) r e = absurd (no_truth (is_ahead ((stmt_layer (s.Return t v)).kinds ++ r)) e (ahead_false (Some k.Return) (λ b. refl) ((returned_said v).kinds ++ r)))

-- a place that stops before what follows begins an assignment
star_ahead : (r : List Kind) → is_ahead (Some k.Star ∷ r) ≡ true
star_ahead [] = refl
star_ahead (b ∷ r) = refl

name_ahead : (b : Kind) → (is_open b || false) ≡ false → is_assigned (Some k.Name) b ≡ true
name_ahead (Some k.OpenParen) e = absurd (cc)
name_ahead _ e = refl

pub place_ahead : (p : Place) (r : List Kind) → Stops (place_said p) r → is_ahead ((place_said p).kinds ++ r) ≡ true
place_ahead = place_by_layer (λ s t. (r : List Kind) → Stops s r → is_ahead (s.kinds ++ r) ≡ true) layer
  where
    layer : (x : PlaceLayer) (r : List Kind) → Stops (place_layer x) r → is_ahead ((place_layer x).kinds ++ r) ≡ true
    layer (o.Place::Name name) [] h = absurd h
    layer (o.Place::Name name) (b ∷ r) h = name_ahead b h
    layer (o.Place::Star t inner) r h = star_ahead ((pointer_said inner).kinds ++ r)

assign_ahead : Ahead assign_parts stmt_said assign_of is_ahead
assign_ahead = record {
  same = λ x. stmt_made_said (s.Assign x.0 x.1.1.0);
  turn = stmt_by_layer (λ w t. (r : List Kind) → is_ahead (w.kinds ++ r) ≡ true → w.strays ≡ 0 → (y : Place × (Unit {0} × (Expr × Unit {0}))) × (t ≡ assign_of y)) (λ x r e n. assign_turned x r e);
  begins = λ x r h. ap is_ahead (append_assoc (place_said x.0).kinds (assign_tail x.1).kinds r) ∙ place_ahead x.0 ((assign_tail x.1).kinds ++ r) (place_goes x.0 (Some k.Assign) refl);
}

pub assign_at : (s : Source) (at room next after : ℕ) (p : Place) (v : Expr) → ReadsAt place_said s at room p next → kind_at s.tokens next ≡ Some k.Assign → ReadsAt expr_said s (next + 1) room v after → kind_at s.tokens after ≡ Some k.Semicolon → ReadsAt stmt_said s at room (stmt.Assign p v) (after + 1)
assign_at s at room next after p v r e t c =
    ahead_at assign_parts stmt_said assign_of is_ahead assign_ahead s at (after + 1) room (p, (tt, (v, tt)))
    (joined_at place_said assign_tail assign_parts assign_joined s at next (after + 1) room p (tt, (v, tt)) r
    (behind_tok_at ended ended_least s next room k.Assign e (after + 1) (v, tt) (ended_at s (next + 1) room after v t c)))

-- what stands behind the place, refused
assign_behind : (s : Source) (at room next token : ℕ) (why : Wrong) (p : Place) → ReadsAt place_said s at room p next → RefusesAt assign_tail s next room token why → RefusesAt stmt_said s at room token why
assign_behind s at room next token why p r t =
    let pr = r.place in let pt = t.place in
    let n = length-append (place_said p).kinds t.front in
    ahead_refuses assign_parts stmt_said assign_of is_ahead assign_ahead s at room token why ((place_said p).kinds ++ t.front) t.bad
    (joined_refused_second place_said assign_tail assign_parts assign_joined (from s.tokens at) (from s.tokens next) room p t.front t.bad why r.reads t.refuses)
    (omega arith)
    (λ more. ap is_ahead (append_assoc (place_said p).kinds t.front (t.bad ∷ more)) ∙ place_ahead p (t.front ++ t.bad ∷ more) (stops_same (place_said p) t.front t.bad t.refuses.rest more (subst (Stops (place_said p)) t.refuses.stands r.reads.stops)))

pub assign_missing : (s : Source) (at room next : ℕ) (p : Place) → ReadsAt place_said s at room p next → kind_at s.tokens next ≢ Some k.Assign → RefusesAt stmt_said s at room next Unexpected
assign_missing s at room next p r other = assign_behind s at room next next Unexpected p r (first_refused_at (tok k.Assign) ended assign_tail (single_joined (tok k.Assign) (kind_of k.Assign) (tok_single k.Assign) ended ended_least) s next room next Unexpected (tok_refused_at s next room k.Assign other))

pub assign_value_refused : (s : Source) (at room next token : ℕ) (why : Wrong) (p : Place) → ReadsAt place_said s at room p next → kind_at s.tokens next ≡ Some k.Assign → RefusesAt expr_said s (next + 1) room token why → RefusesAt stmt_said s at room token why
assign_value_refused s at room next token why p r e t = assign_behind s at room next token why p r (behind_tok_refused_at ended ended_least s next room k.Assign e token why (ended_refused_at s (next + 1) room token why t))

pub assign_unended : (s : Source) (at room next after : ℕ) (p : Place) (v : Expr) → ReadsAt place_said s at room p next → kind_at s.tokens next ≡ Some k.Assign → ReadsAt expr_said s (next + 1) room v after → kind_at s.tokens after ≢ Some k.Semicolon → RefusesAt stmt_said s at room after Unexpected
assign_unended s at room next after p v r e t other = assign_behind s at room next after Unexpected p r (behind_tok_refused_at ended ended_least s next room k.Assign e after Unexpected (unended_at s (next + 1) room after v t other))

-- a token that isn't a name begins an assignment or none, whatever follows
first_decides : (a : Kind) → a ≢ Some k.Name → (b c : Kind) → is_assigned a b ≡ is_assigned a c
first_decides (Some k.Name) h b c = absurd (h refl)
first_decides (Some k.Semicolon) h b c = refl
first_decides (Some k.OpenBrace) h b c = refl
first_decides (Some k.If) h b c = refl
first_decides (Some k.While) h b c = refl
first_decides (Some k.Return) h b c = refl
first_decides (Some k.Malloc) h b c = refl
first_decides (Some k.Int) h b c = refl
first_decides (Some k.Char) h b c = refl
first_decides (Some k.Void) h b c = refl
first_decides _ h b c = refl

ahead_by_first : (a : Kind) → a ≢ Some k.Name → (b : Kind) → is_assigned a b ≡ true → (r : List Kind) → is_ahead (a ∷ r) ≡ true
ahead_by_first a h b e [] = first_decides a h None b ∙ e
ahead_by_first a h b e (c ∷ r) = first_decides a h c b ∙ e

name_second : (b : Kind) → is_assigned (Some k.Name) b ≡ true → is_open b ≡ false
name_second (Some k.OpenParen) e = absurd (cc)
name_second _ e = refl

is_name_or : (a : Kind) → (a ≡ Some k.Name) ⊎ (a ≢ Some k.Name)
is_name_or (Some k.Name) = inl refl
is_name_or _ = inr (λ h. cc)

pub assign_place_refused : (s : Source) (at room token : ℕ) (why : Wrong) → is_assigned (kind_at s.tokens at) (kind_at s.tokens (at + 1)) ≡ true → RefusesAt place_said s at room token why → RefusesAt stmt_said s at room token why
assign_place_refused s at room token why e r =
    elim (is_name_or (kind_at s.tokens at)) as (λ _. RefusesAt stmt_said s at room token why) [
      | inl h ↦ absurd (not_both place_said s at room (at + 1) token why (place.Name (name_of s at)) (place_name_at s at room h (name_second (kind_at s.tokens (at + 1)) (subst (λ a. is_assigned a (kind_at s.tokens (at + 1)) ≡ true) h e))) r)
      | inr h ↦ ahead_refuses assign_parts stmt_said assign_of is_ahead assign_ahead s at room token why r.front r.bad
          (joined_refused_first place_said assign_tail assign_parts assign_joined (from s.tokens at) room r.front r.bad why r.refuses) r.place (decided h)
    ]
  where
    n : (rest : List Kind) × (from s.tokens at ≡ kind_at s.tokens at ∷ rest)
    n = from_some s at

    decided : kind_at s.tokens at ≢ Some k.Name → (more : List Kind) → is_ahead (r.front ++ r.bad ∷ more) ≡ true
    decided h more =
        let f = front_head r.front r.bad r.refuses.rest (kind_at s.tokens at) n.0 more (sym r.refuses.stands ∙ n.1) in
        ap is_ahead f.1 ∙ ahead_by_first (kind_at s.tokens at) h (kind_at s.tokens (at + 1)) e f.0

-- what begins no other statement without statements in it begins an assignment
pub name_assigned : (b : Kind) → b ≢ Some k.OpenParen → is_assigned (Some k.Name) b ≡ true
name_assigned (Some k.OpenParen) h = absurd (h refl)
name_assigned _ h = refl

pub assigned_here : (a b : Kind) → is_flat a ≡ true → base_of a ≡ None → a ≢ Some k.Return → a ≢ Some k.Malloc → a ≢ Some k.Name → is_assigned a b ≡ true
assigned_here (Some k.Semicolon) b flat no_base no_return no_malloc no_name = absurd (cc)
assigned_here (Some k.OpenBrace) b flat no_base no_return no_malloc no_name = absurd (cc)
assigned_here (Some k.If) b flat no_base no_return no_malloc no_name = absurd (cc)
assigned_here (Some k.While) b flat no_base no_return no_malloc no_name = absurd (cc)
assigned_here (Some k.Int) b flat no_base no_return no_malloc no_name = absurd (cc)
assigned_here (Some k.Char) b flat no_base no_return no_malloc no_name = absurd (cc)
assigned_here (Some k.Void) b flat no_base no_return no_malloc no_name = absurd (cc)
assigned_here (Some k.Return) b flat no_base no_return no_malloc no_name = absurd (no_return refl)
assigned_here (Some k.Malloc) b flat no_base no_return no_malloc no_name = absurd (no_malloc refl)
assigned_here (Some k.Name) b flat no_base no_return no_malloc no_name = absurd (no_name refl)
assigned_here _ b flat no_base no_return no_malloc no_name = refl
