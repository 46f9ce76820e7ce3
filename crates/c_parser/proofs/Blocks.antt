-- Lists of statements, blocks, branches, `if` and `while`, at a place of the tokens.
use Rattle.std.proofs.Common.{◌≡◌, ◌≢◌, ◌∙◌, refl, sym, ap, subst, ℕ, ◌+◌, ◌-◌, ◌≤◌, max, Bool, true, false, List, [], ◌∷◌, ◌++◌, length, append-nil, arith, Some, None}
use Rattle.std.specs.Prelude.{Option}
use Rattle.c_lexer.specs.declared.token.TokenKind.TheVariants as k
use Rattle.c_tree.specs.declared.tree.Expr.{Expr}
use Rattle.c_tree.specs.declared.tree.Stmt.{Stmt}
use Rattle.c_tree.specs.declared.tree.Stmt.TheOpen as s
use Rattle.c_tree.specs.declared.tree.Stmt.TheVariants as stmt
use Rattle.c_tree.specs.declared.fault.Wrong.{Wrong}
use Rattle.c_tree.specs.declared.fault.Wrong.TheVariants.{TooDeep}
use Rattle.c_tree.specs.Said.{Kind, Said, word, ◌⨾◌, deeper, nothing, moved}
use Rattle.c_tree.specs.Tokens.{Source, kind_at}
use Rattle.c_tree.specs.Grammar.{is_else, condition_said, stray, stmt_said}
use Rattle.c_tree.specs.Reading.{Stops, Only, ReadsAt, RefusesAt}
use Rattle.c_tree.proofs.Layers.{stmt_made_said, stmt_by_layer}
use Rattle.c_tree.proofs.Layers.{branches_of as layer_branches}
use Rattle.c_tree.proofs.Parts.{tok, seq, seq_joined, below, Turn, TurnIf, Least, Joined}
use Rattle.c_tree.proofs.Places.{from_some, tok_at, joined_at, first_refused_at, second_refused_at, turn_at, turn_if_at, turn_if_refused_at}
use Rattle.c_tree.proofs.Choices.{Headed, or_first, or_second, or_both, not_first, not_headed, headed_parted, quiet_parted, whole_refused_at, in_level_at, in_level_refused_at, deep_at, Shallow, behind_tok_at, behind_tok_refused_at}
use Rattle.c_expressions.proofs.Arguments.{condition_least}
use Rattle.c_parser.specs.declared.branches.Branches.{Branches}
use Rattle.c_parser.specs.Branches.{branches_of, branches_read, block_of}
use Rattle.c_parser.proofs.Stmts.{is_semicolon, is_semicolon_is, is_brace, is_brace_is, is_if, is_if_is, is_while, is_while_is, is_stmt, first_known, stmt_head, stmt_goes, stmt_least, begins_empty, begins_block, begins_if, begins_while}

-- ---- statements up to the brace
abbrev pub listed : Stmt × List Stmt → Said
listed = seq stmt_said block_of

abbrev pub is_no_else : Kind → Bool
is_no_else (Some k.Else) = false
is_no_else _ = true

abbrev pub is_close : Kind → Bool
is_close (Some k.CloseBrace) = true
is_close _ = false

abbrev pub is_no_close : Kind → Bool
is_no_close (Some k.CloseBrace) = false
is_no_close _ = true

stmt_no_else : (a : Kind) → is_stmt a ≡ true → is_no_else a ≡ true
stmt_no_else (Some k.Else) e = absurd (cc)
stmt_no_else _ e = refl

stmt_no_close : (a : Kind) → is_stmt a ≡ true → is_no_close a ≡ true
stmt_no_close (Some k.CloseBrace) e = absurd (cc)
stmt_no_close _ e = refl

no_else_false : (a : Kind) → is_no_else a ≡ true → is_else a ≡ false
no_else_false (Some k.Else) e = absurd (cc)
no_else_false _ e = refl

pub not_close : (a : Kind) → a ≢ Some k.CloseBrace → is_no_close a ≡ true
not_close (Some k.CloseBrace) h = absurd (h refl)
not_close _ h = refl

block_head : (xs : List Stmt) → Headed is_no_else (block_of xs)
block_head [] = (Some k.CloseBrace, ([], refl, refl))
block_head (x ∷ xs) = let h = stmt_head x in (h.0, (h.1.0 ++ (block_of xs).kinds, ap (λ w. w ++ (block_of xs).kinds) h.1.1, stmt_no_else h.0 h.1.2))

pub block_least : Least block_of
block_least = record { tree = []; flat = refl; nearest = refl }

listed_joined : Joined stmt_said block_of listed
listed_joined = seq_joined stmt_said block_of (headed_parted stmt_said block_of is_no_else block_head (λ t a h. stmt_goes t a (no_else_false a h))) block_least

abbrev pub none_of : Unit {0} → List Stmt
none_of x = []

abbrev pub cons_of : Stmt × List Stmt → List Stmt
cons_of x = x.0 ∷ x.1

close_no_stmt : (a : Kind) → is_close a ≡ true → is_stmt a ≡ false
close_no_stmt (Some k.CloseBrace) e = refl
close_no_stmt _ e = absurd (cc)

brace_turned : (t : List Stmt) (r : List Kind) (a : Kind) (more : List Kind) → (block_of t).kinds ++ r ≡ a ∷ more → is_close a ≡ true → (x : Unit {0}) × (t ≡ [])
brace_turned [] r a more e h = (tt, refl)
brace_turned (x ∷ xs) r a more e h =
    let d = stmt_head x in
    absurd (not_headed is_close is_stmt (listed (x, xs)) (d.0, (d.1.0 ++ (block_of xs).kinds, ap (λ w. w ++ (block_of xs).kinds) d.1.1, d.1.2)) close_no_stmt r a more e h)

brace_turn : TurnIf (tok k.CloseBrace) block_of none_of is_close
brace_turn = record { same = λ x. refl; turn = λ t r a more e h s. brace_turned t r a more e h; begins = λ x. (Some k.CloseBrace, ([], refl, refl)) }

cons_turned : (t : List Stmt) (r : List Kind) (a : Kind) (more : List Kind) → (block_of t).kinds ++ r ≡ a ∷ more → is_no_close a ≡ true → (x : Stmt × List Stmt) × (t ≡ cons_of x)
cons_turned [] r a more e h = absurd (not_first is_no_close (Some k.CloseBrace) a r more e h refl)
cons_turned (x ∷ xs) r a more e h = ((x, xs), refl)

cons_turn : TurnIf listed block_of cons_of is_no_close
cons_turn = record {
  same = λ x. refl;
  turn = λ t r a more e h s. cons_turned t r a more e h;
  begins = λ x. let d = stmt_head x.0 in (d.0, (d.1.0 ++ (block_of x.1).kinds, ap (λ w. w ++ (block_of x.1).kinds) d.1.1, stmt_no_close d.0 d.1.2));
}

pub brace_at : (s : Source) (at room : ℕ) → kind_at s.tokens at ≡ Some k.CloseBrace → ReadsAt block_of s at room [] (at + 1)
brace_at s at room e = turn_if_at (tok k.CloseBrace) block_of none_of is_close brace_turn s at (at + 1) room tt (tok_at s at room k.CloseBrace e)

pub item_at : (s : Source) (at middle room : ℕ) (x : Stmt) → ReadsAt stmt_said s at room x middle → (xs : List Stmt) (n : ℕ) → ReadsAt block_of s middle room xs n → ReadsAt block_of s at room (x ∷ xs) n
item_at s at middle room x r xs n t = turn_if_at listed block_of cons_of is_no_close cons_turn s at n room (x, xs) (joined_at stmt_said block_of listed listed_joined s at middle n room x xs r t)

pub item_refused : (s : Source) (at room token : ℕ) (why : Wrong) → kind_at s.tokens at ≢ Some k.CloseBrace → RefusesAt stmt_said s at room token why → RefusesAt block_of s at room token why
item_refused s at room token why other r = turn_if_refused_at listed block_of cons_of is_no_close cons_turn s at room token why (not_close (kind_at s.tokens at) other) (first_refused_at stmt_said block_of listed listed_joined s at room token why r)

pub later_refused : (s : Source) (at middle room : ℕ) (x : Stmt) → kind_at s.tokens at ≢ Some k.CloseBrace → ReadsAt stmt_said s at room x middle → (token : ℕ) (why : Wrong) → RefusesAt block_of s middle room token why → RefusesAt block_of s at room token why
later_refused s at middle room x other r token why t = turn_if_refused_at listed block_of cons_of is_no_close cons_turn s at room token why (not_close (kind_at s.tokens at) other) (second_refused_at stmt_said block_of listed listed_joined s at middle room x token why r t)

-- a statement has a token
pub stmt_advances : (s : Source) (at next room : ℕ) (x : Stmt) → ReadsAt stmt_said s at room x next → at + 1 ≤ next
stmt_advances s at next room x r =
    let h = stmt_head x in
    let n = ap length h.1.1 in
    let place = r.place in
    omega arith

-- ---- `;`
abbrev pub empty_of : Unit {0} → Stmt
empty_of x = stmt.Empty

empty_turn : TurnIf (tok k.Semicolon) stmt_said empty_of is_semicolon
empty_turn = record {
  same = λ x. stmt_made_said s.Empty;
  turn = stmt_by_layer (λ w t. (r : List Kind) (a : Kind) (more : List Kind) → w.kinds ++ r ≡ a ∷ more → is_semicolon a ≡ true → Stops w r → (y : Unit {0}) × (t ≡ stmt.Empty)) (λ x r a more e h z. begins_empty x (first_known x r a more (Some k.Semicolon) e (is_semicolon_is a h)));
  begins = λ x. (Some k.Semicolon, ([], refl, refl));
}

pub empty_at : (s : Source) (at room : ℕ) → kind_at s.tokens at ≡ Some k.Semicolon → ReadsAt stmt_said s at room stmt.Empty (at + 1)
empty_at s at room e = turn_if_at (tok k.Semicolon) stmt_said empty_of is_semicolon empty_turn s at (at + 1) room tt (tok_at s at room k.Semicolon e)

-- ---- a block
abbrev pub block_parts : Unit {0} × List Stmt → Said
block_parts = below (seq (tok k.OpenBrace) block_of)

abbrev pub block_made : Unit {0} × List Stmt → Stmt
block_made x = stmt.Block x.1

block_turn : TurnIf block_parts stmt_said block_made is_brace
block_turn = record {
  same = λ x. stmt_made_said (s.Block x.1);
  turn = stmt_by_layer (λ w t. (r : List Kind) (a : Kind) (more : List Kind) → w.kinds ++ r ≡ a ∷ more → is_brace a ≡ true → Stops w r → (y : Unit {0} × List Stmt) × (t ≡ block_made y)) (λ x r a more e h z. let y = begins_block x (first_known x r a more (Some k.OpenBrace) e (is_brace_is a h)) in ((tt, y.0), y.1));
  begins = λ x. (Some k.OpenBrace, ((block_of x.1).kinds, refl, refl));
}

pub block_shallow : Shallow block_parts (Some k.OpenBrace)
block_shallow = record { tree = (tt, []); tail = Some k.CloseBrace ∷ []; spelled = refl; one = omega arith; nearest = refl }

pub block_at : (s : Source) (at room next : ℕ) (xs : List Stmt) → kind_at s.tokens at ≡ Some k.OpenBrace → room ≢ 0 → ReadsAt block_of s (at + 1) (room - 1) xs next → ReadsAt stmt_said s at room (stmt.Block xs) next
block_at s at room next xs e some r =
    turn_if_at block_parts stmt_said block_made is_brace block_turn s at next room (tt, xs)
    (in_level_at (seq (tok k.OpenBrace) block_of) s at next room (tt, xs) some (behind_tok_at block_of block_least s at (room - 1) k.OpenBrace e next xs r))

pub block_refused : (s : Source) (at room token : ℕ) (why : Wrong) → kind_at s.tokens at ≡ Some k.OpenBrace → room ≢ 0 → RefusesAt block_of s (at + 1) (room - 1) token why → RefusesAt stmt_said s at room token why
block_refused s at room token why e some r =
    turn_if_refused_at block_parts stmt_said block_made is_brace block_turn s at room token why (ap is_brace e)
    (in_level_refused_at (seq (tok k.OpenBrace) block_of) s at room token why some (behind_tok_refused_at block_of block_least s at (room - 1) k.OpenBrace e token why r))

pub block_deep : (s : Source) (at room : ℕ) → kind_at s.tokens at ≡ Some k.OpenBrace → room ≡ 0 → RefusesAt stmt_said s at room at TooDeep
block_deep s at room e z = deep_at block_parts stmt_said block_made is_brace block_turn (λ x. omega arith) k.OpenBrace block_shallow refl stmt_least s at room e z

-- ---- what stands behind a body: nothing, or `else` and a statement
abbrev pub else_said : Option Stmt → Said
else_said None = nothing is_else
else_said (Some other) = word k.Else ⨾ stmt_said other

abbrev pub both_said : Stmt × Option Stmt → Said
both_said x = branches_of x.0 x.1

stray_zero : (b : Bool) → b ≡ false → stray b ≡ 0
stray_zero true e = absurd (cc)
stray_zero false e = refl

stray_none : (b : Bool) → stray b ≡ 0 → b ≡ false
stray_none true e = absurd (omega arith)
stray_none false e = refl

branches_kinds : (a : Stmt) (b : Option Stmt) → (both_said (a, b)).kinds ≡ (stmt_said a).kinds ++ (else_said b).kinds
branches_kinds a None = sym (append-nil (stmt_said a).kinds)
branches_kinds a (Some other) = refl

branches_kept : (a : Stmt) (b : Option Stmt) → (both_said (a, b)).kept ≡ (stmt_said a).kept ++ moved (length (stmt_said a).kinds) (else_said b).kept
branches_kept a None = sym (append-nil (stmt_said a).kept)
branches_kept a (Some other) = refl

branches_levels : (a : Stmt) (b : Option Stmt) → (both_said (a, b)).levels ≡ max (stmt_said a).levels (else_said b).levels
branches_levels a None = omega arith
branches_levels a (Some other) = refl

branches_strays : (a : Stmt) (b : Option Stmt) → (both_said (a, b)).strays ≡ 0 → ((stmt_said a).strays ≡ 0) × ((else_said b).strays ≡ 0)
branches_strays a None n = (n, refl)
branches_strays a (Some other) n = (omega arith, omega arith)

branches_apart : (a : Stmt) (b : Option Stmt) (r : List Kind) → Stops (both_said (a, b)) r → (both_said (a, b)).strays ≡ 0 → Stops (stmt_said a) ((else_said b).kinds ++ r) × Stops (else_said b) r
branches_apart a None [] h n = absurd h
branches_apart a None (x ∷ r) h n = (or_second (is_else x) ((stmt_said a).goes_on x) h, or_first (is_else x) ((stmt_said a).goes_on x) h)
branches_apart a (Some other) [] h n = absurd h
branches_apart a (Some other) (x ∷ r) h n = (stray_none ((stmt_said a).goes_on (Some k.Else)) (omega arith), h)

branches_meets : (a : Stmt) (b : Option Stmt) (r : List Kind) → Stops (stmt_said a) ((else_said b).kinds ++ r) → Stops (else_said b) r → Stops (both_said (a, b)) r
branches_meets a None [] h i = absurd i
branches_meets a None (x ∷ r) h i = or_both (is_else x) ((stmt_said a).goes_on x) i h
branches_meets a (Some other) [] h i = absurd i
branches_meets a (Some other) (x ∷ r) h i = i

branches_fits : (a : Stmt) (b : Option Stmt) (r : List Kind) → (stmt_said a).strays ≡ 0 → (else_said b).strays ≡ 0 → Stops (stmt_said a) ((else_said b).kinds ++ r) → (both_said (a, b)).strays ≡ 0
branches_fits a None r na nb h = na
branches_fits a (Some other) r na nb h = let z = stray_zero ((stmt_said a).goes_on (Some k.Else)) h in omega arith

branches_joined : Joined stmt_said else_said both_said
branches_joined = record {
  kinds_is = branches_kinds;
  kept_is = branches_kept;
  levels_is = branches_levels;
  strays_of = branches_strays;
  apart = branches_apart;
  meets = branches_meets;
  fits = branches_fits;
  least = record { tree = None; flat = refl; nearest = refl };
  least_fits = λ a na. na;
}

abbrev pub other_of : Unit {0} × Stmt → Option Stmt
other_of x = Some x.1

no_else : (a : Kind) (r more : List Kind) → r ≡ a ∷ more → is_else a ≡ true → Stops (nothing is_else) r → ⊥
no_else a [] more e passes h = h
no_else a (x ∷ r) more e passes h = let is : x ≡ a = cc in let fails : is_else a ≡ false = subst (λ a. is_else a ≡ false) is h in cc

else_turned : (t : Option Stmt) (r : List Kind) (a : Kind) (more : List Kind) → (else_said t).kinds ++ r ≡ a ∷ more → is_else a ≡ true → Stops (else_said t) r → (x : Unit {0} × Stmt) × (t ≡ other_of x)
else_turned None r a more e passes h = absurd (no_else a r more e passes h)
else_turned (Some other) r a more e passes h = ((tt, other), refl)

else_turn : TurnIf (seq (tok k.Else) stmt_said) else_said other_of is_else
else_turn = record { same = λ x. refl; turn = else_turned; begins = λ x. (Some k.Else, ((stmt_said x.1).kinds, refl, refl)) }

none_only : Only else_said None
none_only None r r' e h h' n = (e, λ stood at p p'. refl)
none_only (Some other) r r' e h h' n = absurd (no_else (Some k.Else) r ((stmt_said other).kinds ++ r') e refl h)

no_else_at : (s : Source) (at room : ℕ) → at ≤ length s.tokens → is_else (kind_at s.tokens at) ≡ false → ReadsAt else_said s at room None at
no_else_at s at room inside fails =
    let n = from_some s at in
    record {
      reads = record { spelled = refl; within = omega arith; nearest = refl; stops = subst (Stops (nothing is_else)) (sym n.1) fails; only = none_only };
      inside = inside;
      place = omega arith;
      placed = tt;
    }

abbrev pub as_branches : Stmt × Option Stmt → Branches
as_branches x = record { body = x.0; other = x.1 }

branches_turn : Turn both_said branches_read as_branches []
branches_turn = record { same = λ x. refl; turn = λ t r more e h. ((t.body, t.other), refl); begins = λ x. ((both_said x).kinds, refl) }

pub not_else : (a : Kind) → a ≢ Some k.Else → is_else a ≡ false
not_else (Some k.Else) h = absurd (h refl)
not_else _ h = refl

pub branches_at : (s : Source) (at next room : ℕ) (body : Stmt) → ReadsAt stmt_said s at room body next → is_else (kind_at s.tokens next) ≡ false → ReadsAt branches_read s at room (as_branches (body, None)) next
branches_at s at next room body r fails =
    turn_at both_said branches_read as_branches [] branches_turn s at next room (body, None)
    (joined_at stmt_said else_said both_said branches_joined s at next next room body None r (no_else_at s next room r.inside fails))

pub branches_else_at : (s : Source) (at next after room : ℕ) (body other : Stmt) → ReadsAt stmt_said s at room body next → kind_at s.tokens next ≡ Some k.Else → ReadsAt stmt_said s (next + 1) room other after → ReadsAt branches_read s at room (as_branches (body, Some other)) after
branches_else_at s at next after room body other r e t =
    turn_at both_said branches_read as_branches [] branches_turn s at after room (body, Some other)
    (joined_at stmt_said else_said both_said branches_joined s at next after room body (Some other) r
    (turn_if_at (seq (tok k.Else) stmt_said) else_said other_of is_else else_turn s next after room (tt, other) (behind_tok_at stmt_said stmt_least s next room k.Else e after other t)))

pub body_refused : (s : Source) (at room token : ℕ) (why : Wrong) → RefusesAt stmt_said s at room token why → RefusesAt branches_read s at room token why
body_refused s at room token why r = whole_refused_at both_said branches_read as_branches branches_turn s at room token why (first_refused_at stmt_said else_said both_said branches_joined s at room token why r)

pub other_refused : (s : Source) (at next room : ℕ) (body : Stmt) (token : ℕ) (why : Wrong) → ReadsAt stmt_said s at room body next → kind_at s.tokens next ≡ Some k.Else → RefusesAt stmt_said s (next + 1) room token why → RefusesAt branches_read s at room token why
other_refused s at next room body token why r e t =
    whole_refused_at both_said branches_read as_branches branches_turn s at room token why (second_refused_at stmt_said else_said both_said branches_joined s at next room body token why r
    (turn_if_refused_at (seq (tok k.Else) stmt_said) else_said other_of is_else else_turn s next room token why (ap is_else e) (behind_tok_refused_at stmt_said stmt_least s next room k.Else e token why t)))

-- ---- `if`
pub branches_least : Least branches_read
branches_least = record { tree = as_branches (stmt_least.tree, None); flat = stmt_least.flat; nearest = stmt_least.nearest }

abbrev pub tested : Expr × Branches → Said
tested = seq condition_said branches_read

tested_joined : Joined condition_said branches_read tested
tested_joined = seq_joined condition_said branches_read (quiet_parted condition_said branches_read (λ e a. refl)) branches_least

tested_least : Least tested
tested_least = record { tree = (condition_least.tree, branches_least.tree); flat = let a = condition_least.flat in let b = branches_least.flat in omega arith; nearest = let a = condition_least.nearest in let b = branches_least.nearest in omega arith }

abbrev pub if_parts : Unit {0} × (Expr × Branches) → Said
if_parts = below (seq (tok k.If) tested)

abbrev pub if_made : Unit {0} × (Expr × Branches) → Stmt
if_made x = stmt.If x.1.0 x.1.1.body x.1.1.other

branches_same : (body : Stmt) (other : Option Stmt) → layer_branches body other ≡ branches_of body other
branches_same body None = refl
branches_same body (Some other) = refl

if_same : (x : Unit {0} × (Expr × Branches)) → stmt_said (if_made x) ≡ if_parts x
if_same x = stmt_made_said (s.If x.1.0 x.1.1.body x.1.1.other) ∙ ap (λ w. deeper (word k.If ⨾ condition_said x.1.0 ⨾ w)) (branches_same x.1.1.body x.1.1.other)

if_turn : TurnIf if_parts stmt_said if_made is_if
if_turn = record {
  same = if_same;
  turn = stmt_by_layer (λ w t. (r : List Kind) (a : Kind) (more : List Kind) → w.kinds ++ r ≡ a ∷ more → is_if a ≡ true → Stops w r → (y : Unit {0} × (Expr × Branches)) × (t ≡ if_made y)) (λ x r a more e h z. let y = begins_if x (first_known x r a more (Some k.If) e (is_if_is a h)) in ((tt, (y.0.0, as_branches y.0.1)), y.1));
  begins = λ x. (Some k.If, ((tested x.1).kinds, refl, refl));
}

if_shallow : Shallow if_parts (Some k.If)
if_shallow =
    let n = tested_least.flat in let z = tested_least.nearest in
    record { tree = (tt, tested_least.tree); tail = (tested tested_least.tree).kinds; spelled = refl; one = omega arith; nearest = omega arith }

pub if_at : (s : Source) (at room next after : ℕ) (c : Expr) (b : Branches) → kind_at s.tokens at ≡ Some k.If → room ≢ 0 → ReadsAt condition_said s (at + 1) (room - 1) c next → ReadsAt branches_read s next (room - 1) b after → ReadsAt stmt_said s at room (stmt.If c b.body b.other) after
if_at s at room next after c b e some r t =
    turn_if_at if_parts stmt_said if_made is_if if_turn s at after room (tt, (c, b))
    (in_level_at (seq (tok k.If) tested) s at after room (tt, (c, b)) some
    (behind_tok_at tested tested_least s at (room - 1) k.If e after (c, b)
    (joined_at condition_said branches_read tested tested_joined s (at + 1) next after (room - 1) c b r t)))

if_behind : (s : Source) (at room token : ℕ) (why : Wrong) → kind_at s.tokens at ≡ Some k.If → room ≢ 0 → RefusesAt tested s (at + 1) (room - 1) token why → RefusesAt stmt_said s at room token why
if_behind s at room token why e some r =
    turn_if_refused_at if_parts stmt_said if_made is_if if_turn s at room token why (ap is_if e)
    (in_level_refused_at (seq (tok k.If) tested) s at room token why some (behind_tok_refused_at tested tested_least s at (room - 1) k.If e token why r))

pub if_condition_refused : (s : Source) (at room token : ℕ) (why : Wrong) → kind_at s.tokens at ≡ Some k.If → room ≢ 0 → RefusesAt condition_said s (at + 1) (room - 1) token why → RefusesAt stmt_said s at room token why
if_condition_refused s at room token why e some r = if_behind s at room token why e some (first_refused_at condition_said branches_read tested tested_joined s (at + 1) (room - 1) token why r)

pub if_branches_refused : (s : Source) (at room next : ℕ) (c : Expr) (token : ℕ) (why : Wrong) → kind_at s.tokens at ≡ Some k.If → room ≢ 0 → ReadsAt condition_said s (at + 1) (room - 1) c next → RefusesAt branches_read s next (room - 1) token why → RefusesAt stmt_said s at room token why
if_branches_refused s at room next c token why e some r t = if_behind s at room token why e some (second_refused_at condition_said branches_read tested tested_joined s (at + 1) next (room - 1) c token why r t)

pub if_deep : (s : Source) (at room : ℕ) → kind_at s.tokens at ≡ Some k.If → room ≡ 0 → RefusesAt stmt_said s at room at TooDeep
if_deep s at room e z = deep_at if_parts stmt_said if_made is_if if_turn (λ x. omega arith) k.If if_shallow refl stmt_least s at room e z

-- ---- `while`
abbrev pub repeated : Expr × Stmt → Said
repeated = seq condition_said stmt_said

repeated_joined : Joined condition_said stmt_said repeated
repeated_joined = seq_joined condition_said stmt_said (quiet_parted condition_said stmt_said (λ e a. refl)) stmt_least

repeated_least : Least repeated
repeated_least = record { tree = (condition_least.tree, stmt_least.tree); flat = let a = condition_least.flat in let b = stmt_least.flat in omega arith; nearest = let a = condition_least.nearest in let b = stmt_least.nearest in omega arith }

abbrev pub while_parts : Unit {0} × (Expr × Stmt) → Said
while_parts = below (seq (tok k.While) repeated)

abbrev pub while_made : Unit {0} × (Expr × Stmt) → Stmt
while_made x = stmt.While x.1.0 x.1.1

while_turn : TurnIf while_parts stmt_said while_made is_while
while_turn = record {
  same = λ x. stmt_made_said (s.While x.1.0 x.1.1);
  turn = stmt_by_layer (λ w t. (r : List Kind) (a : Kind) (more : List Kind) → w.kinds ++ r ≡ a ∷ more → is_while a ≡ true → Stops w r → (y : Unit {0} × (Expr × Stmt)) × (t ≡ while_made y)) (λ x r a more e h z. let y = begins_while x (first_known x r a more (Some k.While) e (is_while_is a h)) in ((tt, y.0), y.1));
  begins = λ x. (Some k.While, ((repeated x.1).kinds, refl, refl));
}

while_shallow : Shallow while_parts (Some k.While)
while_shallow =
    let n = repeated_least.flat in let z = repeated_least.nearest in
    record { tree = (tt, repeated_least.tree); tail = (repeated repeated_least.tree).kinds; spelled = refl; one = omega arith; nearest = omega arith }

pub while_at : (s : Source) (at room next after : ℕ) (c : Expr) (b : Stmt) → kind_at s.tokens at ≡ Some k.While → room ≢ 0 → ReadsAt condition_said s (at + 1) (room - 1) c next → ReadsAt stmt_said s next (room - 1) b after → ReadsAt stmt_said s at room (stmt.While c b) after
while_at s at room next after c b e some r t =
    turn_if_at while_parts stmt_said while_made is_while while_turn s at after room (tt, (c, b))
    (in_level_at (seq (tok k.While) repeated) s at after room (tt, (c, b)) some
    (behind_tok_at repeated repeated_least s at (room - 1) k.While e after (c, b)
    (joined_at condition_said stmt_said repeated repeated_joined s (at + 1) next after (room - 1) c b r t)))

while_behind : (s : Source) (at room token : ℕ) (why : Wrong) → kind_at s.tokens at ≡ Some k.While → room ≢ 0 → RefusesAt repeated s (at + 1) (room - 1) token why → RefusesAt stmt_said s at room token why
while_behind s at room token why e some r =
    turn_if_refused_at while_parts stmt_said while_made is_while while_turn s at room token why (ap is_while e)
    (in_level_refused_at (seq (tok k.While) repeated) s at room token why some (behind_tok_refused_at repeated repeated_least s at (room - 1) k.While e token why r))

pub while_condition_refused : (s : Source) (at room token : ℕ) (why : Wrong) → kind_at s.tokens at ≡ Some k.While → room ≢ 0 → RefusesAt condition_said s (at + 1) (room - 1) token why → RefusesAt stmt_said s at room token why
while_condition_refused s at room token why e some r = while_behind s at room token why e some (first_refused_at condition_said stmt_said repeated repeated_joined s (at + 1) (room - 1) token why r)

pub while_body_refused : (s : Source) (at room next : ℕ) (c : Expr) (token : ℕ) (why : Wrong) → kind_at s.tokens at ≡ Some k.While → room ≢ 0 → ReadsAt condition_said s (at + 1) (room - 1) c next → RefusesAt stmt_said s next (room - 1) token why → RefusesAt stmt_said s at room token why
while_body_refused s at room next c token why e some r t = while_behind s at room token why e some (second_refused_at condition_said stmt_said repeated repeated_joined s (at + 1) next (room - 1) c token why r t)

pub while_deep : (s : Source) (at room : ℕ) → kind_at s.tokens at ≡ Some k.While → room ≡ 0 → RefusesAt stmt_said s at room at TooDeep
while_deep s at room e z = deep_at while_parts stmt_said while_made is_while while_turn (λ x. omega arith) k.While while_shallow refl stmt_least s at room e z
