-- Variables and declarations.
use Rattle.std.proofs.Common.{◌≡◌, ◌≢◌, ◌∙◌, refl, sym, ap, subst, ℕ, zero, suc, ◌+◌, ◌≤◌, Bool, true, false, List, [], ◌∷◌, ◌++◌, length, Some, None, arith}
use Rattle.std.specs.Prelude.{Option}
use Rattle.c_lexer.specs.declared.token.TokenKind.{TokenKind}
use Rattle.c_lexer.specs.declared.token.TokenKind.TheVariants as k
use Rattle.c_tree.specs.declared.tree.Base.{Base}
use Rattle.c_tree.specs.declared.tree.Base.TheVariants as base
use Rattle.c_tree.specs.declared.tree.Name.{Name}
use Rattle.c_tree.specs.declared.tree.Expr.{Expr}
use Rattle.c_tree.specs.declared.tree.Var.{Var}
use Rattle.c_tree.specs.declared.tree.Declaration.{Declaration}
use Rattle.c_tree.specs.declared.fault.Wrong.{Wrong}
use Rattle.c_tree.specs.declared.fault.Wrong.TheVariants.{Unexpected}
use Rattle.c_tree.specs.Said.{Kind, Said, is_star, star_kinds, stars, named, nothing}
use Rattle.c_tree.specs.Tokens.{Source, kind_at, name_of}
use Rattle.c_tree.specs.Grammar.{is_assign, expr_said, base_said, value_said, var_said, more_vars, declaration_said}
use Rattle.c_tree.specs.Reading.{Placed, Stops, Only, ReadsAt, RefusesAt, from}
use Rattle.c_tree.proofs.Parts.{Single, tok, kind_of, named_single, seq, seq_joined, Turn, TurnIf, Least, Joined}
use Rattle.c_tree.proofs.Places.{from_more, from_some, some_name, single_at, tok_at, named_at, named_refused_at, joined_at, first_refused_at, second_refused_at, turn_at, turn_if_at, turn_if_refused_at}
use Rattle.c_tree.proofs.Choices.{Headed, not_first, unheaded_at, headed_parted, whole_refused_at, single_joined, behind_single_at, behind_single_refused_at, behind_tok_at, behind_tok_refused_at}
use Rattle.c_expressions.proofs.Heads.{expr_goes, expr_least}
use Rattle.c_parser.specs.Bases.{base_of}
use Rattle.c_parser.proofs.Wholes.{Whole, whole_at, whole_refused}

-- ---- base types
abbrev pub base_kind : Base → TokenKind
base_kind base.Int = k.Int
base_kind base.Char = k.Char
base_kind base.Void = k.Void

some_same : {T : Type 0} (x y : T) → Some x ≡ Some y → x ≡ y
some_same x y e = cc

base_back : (b : Base) → base_of (Some (base_kind b)) ≡ Some b
base_back base.Int = refl
base_back base.Char = refl
base_back base.Void = refl

base_tells : (a b : Base) → base_kind a ≡ base_kind b → a ≡ b
base_tells a b e = some_same a b (sym (base_back a) ∙ ap (λ n. base_of (Some n)) e ∙ base_back b)

pub base_kind_is : (a : Kind) (b : Base) → base_of a ≡ Some b → a ≡ Some (base_kind b)
base_kind_is (Some k.Int) b e = ap (λ b. Some (base_kind b)) (some_same base.Int b e)
base_kind_is (Some k.Char) b e = ap (λ b. Some (base_kind b)) (some_same base.Char b e)
base_kind_is (Some k.Void) b e = ap (λ b. Some (base_kind b)) (some_same base.Void b e)
base_kind_is _ b e = absurd (cc)

base_kinds : (b : Base) → (base_said b).kinds ≡ Some (base_kind b) ∷ []
base_kinds base.Int = refl
base_kinds base.Char = refl
base_kinds base.Void = refl

base_flat : (b : Base) → (base_said b).levels ≡ 0
base_flat base.Int = refl
base_flat base.Char = refl
base_flat base.Void = refl

base_nearest : (b : Base) → (base_said b).strays ≡ 0
base_nearest base.Int = refl
base_nearest base.Char = refl
base_nearest base.Void = refl

base_quiet : (b : Base) (a : Kind) → (base_said b).goes_on a ≡ false
base_quiet base.Int a = refl
base_quiet base.Char a = refl
base_quiet base.Void a = refl

pub base_single : Single base_said base_kind
base_single = record {
  kinds_is = base_kinds;
  flat = base_flat;
  nearest = base_nearest;
  quiet = base_quiet;
  same = λ t u e stood at p p'. base_tells t u e;
}

base_placed : (b : Base) (stood : ℕ → Name) (at : ℕ) → Placed stood at (base_said b).kept
base_placed base.Int stood at = tt
base_placed base.Char stood at = tt
base_placed base.Void stood at = tt

pub base_at : (s : Source) (at room : ℕ) (b : Base) → kind_at s.tokens at ≡ Some (base_kind b) → ReadsAt base_said s at room b (at + 1)
base_at s at room b e = single_at base_said base_kind base_single s at room b e (base_placed b (name_of s) at)

abbrev pub is_base : Kind → Bool
is_base (Some k.Int) = true
is_base (Some k.Char) = true
is_base (Some k.Void) = true
is_base _ = false

pub base_is : (b : Base) → is_base (Some (base_kind b)) ≡ true
base_is base.Int = refl
base_is base.Char = refl
base_is base.Void = refl

-- ---- stars
star_stops : (n m : ℕ) (r : List Kind) → Stops (stars n) r → Stops (stars m) r
star_stops n m [] h = h
star_stops n m (a ∷ r) h = h

no_star : (n : ℕ) (r more : List Kind) → r ≡ Some k.Star ∷ more → Stops (stars n) r → ⊥
no_star n [] more e h = h
no_star n (a ∷ r) more e h = let is : a ≡ Some k.Star = cc in let fails : true ≡ false = subst (λ a. is_star a ≡ false) is h in cc

star_tail : (a b : List Kind) → Some k.Star ∷ a ≡ Some k.Star ∷ b → a ≡ b
star_tail a b e = cc

pub stars_only : (n : ℕ) → Only stars n
stars_only zero zero r r' e h h' z = (e, λ stood at p p'. refl)
stars_only zero (suc m) r r' e h h' z = absurd (no_star 0 r (star_kinds m ++ r') e h)
stars_only (suc n) zero r r' e h h' z = absurd (no_star 0 r' (star_kinds n ++ r) (sym e) h')
stars_only (suc n) (suc m) r r' e h h' z =
    let o = stars_only n m r r' (star_tail (star_kinds n ++ r) (star_kinds m ++ r') e) (star_stops (suc n) n r h) (star_stops (suc m) m r' h') refl in
    (o.0, λ stood at p p'. ap suc (o.1 stood at tt tt))

-- no star: nothing more stands there
pub stars_end_at : (s : Source) (at room : ℕ) → at ≤ length s.tokens → is_star (kind_at s.tokens at) ≡ false → ReadsAt stars s at room 0 at
stars_end_at s at room inside fails =
    let n = from_some s at in
    record {
      reads = record { spelled = refl; within = omega arith; nearest = refl; stops = subst (Stops (stars 0)) (sym n.1) fails; only = stars_only 0 };
      inside = inside;
      place = omega arith;
      placed = tt;
    }

pub stars_more_at : (s : Source) (at next room m : ℕ) → kind_at s.tokens at ≡ Some k.Star → ReadsAt stars s (at + 1) room m next → ReadsAt stars s at room (suc m) next
stars_more_at s at next room m e r =
    let p = r.place in
    record {
      reads = record {
        spelled = (from_more s at k.Star e).0 ∙ ap (λ w. Some k.Star ∷ w) r.reads.spelled;
        within = omega arith;
        nearest = refl;
        stops = star_stops m (suc m) (from s.tokens next) r.reads.stops;
        only = stars_only (suc m);
      };
      inside = r.inside;
      place = omega arith;
      placed = tt;
    }

pub not_star : (a : Kind) → a ≢ Some k.Star → is_star a ≡ false
not_star (Some k.Star) h = absurd (h refl)
not_star _ h = refl

-- stars that were counted, and those that stand behind them
pub stars_started : (s : Source) (at room m n : ℕ) → ReadsAt stars s (at + 0) room m n → ReadsAt stars s at room (0 + m) n
stars_started s at room m n r =
    let here : at + 0 ≡ at = omega arith in
    let all : m ≡ 0 + m = omega arith in
    subst (λ x. ReadsAt stars s at room x n) all (subst (λ x. ReadsAt stars s x room m n) here r)

pub stars_counted : (s : Source) (at room count m n : ℕ) → kind_at s.tokens (at + count) ≡ Some k.Star → ((m n : ℕ) → ReadsAt stars s (at + count) room m n → ReadsAt stars s at room (count + m) n) → ReadsAt stars s (at + (count + 1)) room m n → ReadsAt stars s at room (count + 1 + m) n
stars_counted s at room count m n e before r =
    let next : at + (count + 1) ≡ at + count + 1 = omega arith in
    let all : count + suc m ≡ count + 1 + m = omega arith in
    let more = stars_more_at s (at + count) n room m e (subst (λ x. ReadsAt stars s x room m n) next r) in
    subst (λ x. ReadsAt stars s at room x n) all (before (suc m) n more)

pub stars_ended : (s : Source) (at room count : ℕ) → at + count ≤ length s.tokens → kind_at s.tokens (at + count) ≢ Some k.Star → ((m n : ℕ) → ReadsAt stars s (at + count) room m n → ReadsAt stars s at room (count + m) n) → ReadsAt stars s at room count (at + count)
stars_ended s at room count inside other before =
    let all : count + 0 ≡ count = omega arith in
    let none = stars_end_at s (at + count) room inside (not_star (kind_at s.tokens (at + count)) other) in
    subst (λ x. ReadsAt stars s at room x (at + count)) all (before 0 (at + count) none)

-- ---- the value of a variable
abbrev pub value_some_of : Unit {0} × Expr → Option Expr
value_some_of x = Some x.1

no_assign : (a : Kind) (r more : List Kind) → r ≡ a ∷ more → is_assign a ≡ true → Stops (nothing is_assign) r → ⊥
no_assign a [] more e passes h = h
no_assign a (x ∷ r) more e passes h = let is : x ≡ a = cc in let fails : is_assign a ≡ false = subst (λ a. is_assign a ≡ false) is h in cc

value_turned : (t : Option Expr) (r : List Kind) (a : Kind) (more : List Kind) → (value_said t).kinds ++ r ≡ a ∷ more → is_assign a ≡ true → Stops (value_said t) r → (x : Unit {0} × Expr) × (t ≡ value_some_of x)
value_turned None r a more e passes h = absurd (no_assign a r more e passes h)
value_turned (Some v) r a more e passes h = ((tt, v), refl)

value_turn : TurnIf (seq (tok k.Assign) expr_said) value_said value_some_of is_assign
value_turn = record { same = λ x. refl; turn = value_turned; begins = λ x. (Some k.Assign, ((expr_said x.1).kinds, refl, refl)) }

none_only : Only value_said None
none_only None r r' e h h' n = (e, λ stood at p p'. refl)
none_only (Some v) r r' e h h' n = absurd (no_assign (Some k.Assign) r ((expr_said v).kinds ++ r') e refl h)

pub no_value_at : (s : Source) (at room : ℕ) → at ≤ length s.tokens → is_assign (kind_at s.tokens at) ≡ false → ReadsAt value_said s at room None at
no_value_at s at room inside fails =
    let n = from_some s at in
    record {
      reads = record { spelled = refl; within = omega arith; nearest = refl; stops = subst (Stops (nothing is_assign)) (sym n.1) fails; only = none_only };
      inside = inside;
      place = omega arith;
      placed = tt;
    }

pub value_at : (s : Source) (at room next : ℕ) (v : Expr) → kind_at s.tokens at ≡ Some k.Assign → ReadsAt expr_said s (at + 1) room v next → ReadsAt value_said s at room (Some v) next
value_at s at room next v e r = turn_if_at (seq (tok k.Assign) expr_said) value_said value_some_of is_assign value_turn s at next room (tt, v) (behind_tok_at expr_said expr_least s at room k.Assign e next v r)

pub value_refused_at : (s : Source) (at room token : ℕ) (why : Wrong) → kind_at s.tokens at ≡ Some k.Assign → RefusesAt expr_said s (at + 1) room token why → RefusesAt value_said s at room token why
value_refused_at s at room token why e r = turn_if_refused_at (seq (tok k.Assign) expr_said) value_said value_some_of is_assign value_turn s at room token why (ap is_assign e) (behind_tok_refused_at expr_said expr_least s at room k.Assign e token why r)

pub not_assign : (a : Kind) → a ≢ Some k.Assign → is_assign a ≡ false
not_assign (Some k.Assign) h = absurd (h refl)
not_assign _ h = refl

value_least : Least value_said
value_least = record { tree = None; flat = refl; nearest = refl }

-- the tokens that end a variable: `,` and `;`
abbrev pub is_more_var : Kind → Bool
is_more_var (Some k.Semicolon) = true
is_more_var (Some k.Comma) = true
is_more_var _ = false

expr_ends : (v : Expr) (a : Kind) → is_more_var a ≡ true → (expr_said v).goes_on a ≡ false
expr_ends v (Some k.Semicolon) e = expr_goes v (Some k.Semicolon) refl refl refl
expr_ends v (Some k.Comma) e = expr_goes v (Some k.Comma) refl refl refl
expr_ends v _ e = absurd (cc)

none_ends : (a : Kind) → is_more_var a ≡ true → is_assign a ≡ false
none_ends (Some k.Semicolon) e = refl
none_ends (Some k.Comma) e = refl
none_ends _ e = absurd (cc)

pub value_ends : (v : Option Expr) (a : Kind) → is_more_var a ≡ true → (value_said v).goes_on a ≡ false
value_ends None a e = none_ends a e
value_ends (Some v) a e = expr_ends v a e

-- ---- a variable
abbrev pub named_value : Name × Option Expr → Said
named_value = seq named value_said

named_value_joined : Joined named value_said named_value
named_value_joined = single_joined named (kind_of k.Name) named_single value_said value_least

named_value_least : Least named_value
named_value_least = record { tree = (some_name, None); flat = refl; nearest = refl }

abbrev pub var_parts : ℕ × (Name × Option Expr) → Said
var_parts = seq stars named_value

abbrev pub var_of : ℕ × (Name × Option Expr) → Var
var_of x = record { stars = x.0; name = x.1.0; value = x.1.1 }

abbrev pub is_name : Kind → Bool
is_name (Some k.Name) = true
is_name _ = false

pub name_no_star : (a : Kind) → is_name a ≡ true → is_star a ≡ false
name_no_star (Some k.Name) e = refl
name_no_star _ e = absurd (cc)

stars_joined : Joined stars named_value var_parts
stars_joined = seq_joined stars named_value (headed_parted stars named_value is_name (λ b. (Some k.Name, ((value_said b.1).kinds, refl, refl))) (λ n a h. name_no_star a h)) named_value_least

var_turn : Turn var_parts var_said var_of []
var_turn = record { same = λ x. refl; turn = λ t r more e h. ((t.stars, (t.name, t.value)), refl); begins = λ x. ((var_parts x).kinds, refl) }

pub var_at : (s : Source) (at middle next room n : ℕ) (v : Option Expr) → ReadsAt stars s at room n middle → kind_at s.tokens middle ≡ Some k.Name → ReadsAt value_said s (middle + 1) room v next → ReadsAt var_said s at room (record { stars = n; name = name_of s middle; value = v }) next
var_at s at middle next room n v r e t =
    turn_at var_parts var_said var_of [] var_turn s at next room (n, (name_of s middle, v))
    (joined_at stars named_value var_parts stars_joined s at middle next room n (name_of s middle, v) r
    (behind_single_at named (kind_of k.Name) named_single value_said value_least s middle next room (name_of s middle) v (named_at s middle room e) t))

var_behind : (s : Source) (at middle room n token : ℕ) (why : Wrong) → ReadsAt stars s at room n middle → RefusesAt named_value s middle room token why → RefusesAt var_said s at room token why
var_behind s at middle room n token why r t = whole_refused_at var_parts var_said var_of var_turn s at room token why (second_refused_at stars named_value var_parts stars_joined s at middle room n token why r t)

pub var_unnamed_at : (s : Source) (at middle room n : ℕ) → ReadsAt stars s at room n middle → kind_at s.tokens middle ≢ Some k.Name → RefusesAt var_said s at room middle Unexpected
var_unnamed_at s at middle room n r other = var_behind s at middle room n middle Unexpected r (first_refused_at named value_said named_value named_value_joined s middle room middle Unexpected (named_refused_at s middle room other))

pub var_refused_at : (s : Source) (at middle room n token : ℕ) (why : Wrong) → ReadsAt stars s at room n middle → kind_at s.tokens middle ≡ Some k.Name → RefusesAt value_said s (middle + 1) room token why → RefusesAt var_said s at room token why
var_refused_at s at middle room n token why r e t = var_behind s at middle room n token why r (behind_single_refused_at named (kind_of k.Name) named_single value_said value_least s middle room token why (name_of s middle) (named_at s middle room e) t)

pub var_least : Least var_said
var_least = record { tree = var_of (0, (some_name, None)); flat = refl; nearest = refl }

-- ---- the variables behind the first one
abbrev pub listed_vars : Var × List Var → Said
listed_vars = seq var_said more_vars

pub more_head : (xs : List Var) → Headed is_more_var (more_vars xs)
more_head [] = (Some k.Semicolon, ([], refl, refl))
more_head (x ∷ xs) = (Some k.Comma, ((listed_vars (x, xs)).kinds, refl, refl))

pub more_least : Least more_vars
more_least = record { tree = []; flat = refl; nearest = refl }

pub listed_joined : Joined var_said more_vars listed_vars
listed_joined = seq_joined var_said more_vars (headed_parted var_said more_vars is_more_var more_head (λ v a h. value_ends v.value a h)) more_least

pub listed_least : Least listed_vars
unfolding var_least
listed_least = record { tree = (var_least.tree, []); flat = refl; nearest = refl }

abbrev pub none_of : Unit {0} → List Var
none_of x = []

abbrev pub comma_of : Unit {0} × (Var × List Var) → List Var
comma_of x = x.1.0 ∷ x.1.1

abbrev pub is_semicolon : Kind → Bool
is_semicolon (Some k.Semicolon) = true
is_semicolon _ = false

abbrev pub is_comma : Kind → Bool
is_comma (Some k.Comma) = true
is_comma _ = false

semicolon_turned : (t : List Var) (r : List Kind) (a : Kind) (more : List Kind) → (more_vars t).kinds ++ r ≡ a ∷ more → is_semicolon a ≡ true → (x : Unit {0}) × (t ≡ [])
semicolon_turned [] r a more e h = (tt, refl)
semicolon_turned (x ∷ xs) r a more e h = absurd (not_first is_semicolon (Some k.Comma) a ((listed_vars (x, xs)).kinds ++ r) more e h refl)

semicolon_turn : TurnIf (tok k.Semicolon) more_vars none_of is_semicolon
semicolon_turn = record { same = λ x. refl; turn = λ t r a more e h s. semicolon_turned t r a more e h; begins = λ x. (Some k.Semicolon, ([], refl, refl)) }

comma_turned : (t : List Var) (r : List Kind) (a : Kind) (more : List Kind) → (more_vars t).kinds ++ r ≡ a ∷ more → is_comma a ≡ true → (x : Unit {0} × (Var × List Var)) × (t ≡ comma_of x)
comma_turned [] r a more e h = absurd (not_first is_comma (Some k.Semicolon) a r more e h refl)
comma_turned (x ∷ xs) r a more e h = ((tt, (x, xs)), refl)

comma_turn : TurnIf (seq (tok k.Comma) listed_vars) more_vars comma_of is_comma
comma_turn = record { same = λ x. refl; turn = λ t r a more e h s. comma_turned t r a more e h; begins = λ x. (Some k.Comma, ((listed_vars x.1).kinds, refl, refl)) }

pub no_more_at : (s : Source) (at room : ℕ) → kind_at s.tokens at ≡ Some k.Semicolon → ReadsAt more_vars s at room [] (at + 1)
no_more_at s at room e = turn_if_at (tok k.Semicolon) more_vars none_of is_semicolon semicolon_turn s at (at + 1) room tt (tok_at s at room k.Semicolon e)

pub more_at : (s : Source) (at middle room : ℕ) (x : Var) → kind_at s.tokens at ≡ Some k.Comma → ReadsAt var_said s (at + 1) room x middle → (xs : List Var) (n : ℕ) → ReadsAt more_vars s middle room xs n → ReadsAt more_vars s at room (x ∷ xs) n
more_at s at middle room x e r xs n t =
    turn_if_at (seq (tok k.Comma) listed_vars) more_vars comma_of is_comma comma_turn s at n room (tt, (x, xs))
    (behind_tok_at listed_vars listed_least s at room k.Comma e n (x, xs)
    (joined_at var_said more_vars listed_vars listed_joined s (at + 1) middle n room x xs r t))

more_behind : (s : Source) (at room token : ℕ) (why : Wrong) → kind_at s.tokens at ≡ Some k.Comma → RefusesAt listed_vars s (at + 1) room token why → RefusesAt more_vars s at room token why
more_behind s at room token why e r = turn_if_refused_at (seq (tok k.Comma) listed_vars) more_vars comma_of is_comma comma_turn s at room token why (ap is_comma e) (behind_tok_refused_at listed_vars listed_least s at room k.Comma e token why r)

pub more_first_refused : (s : Source) (at room token : ℕ) (why : Wrong) → kind_at s.tokens at ≡ Some k.Comma → RefusesAt var_said s (at + 1) room token why → RefusesAt more_vars s at room token why
more_first_refused s at room token why e r = more_behind s at room token why e (first_refused_at var_said more_vars listed_vars listed_joined s (at + 1) room token why r)

pub more_rest_refused : (s : Source) (at middle room : ℕ) (x : Var) → kind_at s.tokens at ≡ Some k.Comma → ReadsAt var_said s (at + 1) room x middle → (token : ℕ) (why : Wrong) → RefusesAt more_vars s middle room token why → RefusesAt more_vars s at room token why
more_rest_refused s at middle room x e r token why t = more_behind s at room token why e (second_refused_at var_said more_vars listed_vars listed_joined s (at + 1) middle room x token why r t)

not_more : (a : Kind) → a ≢ Some k.Semicolon → a ≢ Some k.Comma → is_more_var a ≡ false
not_more (Some k.Semicolon) p q = absurd (p refl)
not_more (Some k.Comma) p q = absurd (q refl)
not_more _ p q = refl

pub more_missing_at : (s : Source) (at room : ℕ) → kind_at s.tokens at ≢ Some k.Semicolon → kind_at s.tokens at ≢ Some k.Comma → RefusesAt more_vars s at room at Unexpected
more_missing_at s at room p q = unheaded_at more_vars is_more_var more_head more_least s at room (not_more (kind_at s.tokens at) p q)

-- ---- a declaration
abbrev pub declared_parts : Base × (Var × List Var) → Said
declared_parts = seq base_said listed_vars

abbrev pub declared_of : Base × (Var × List Var) → Declaration
declared_of x = record { base = x.0; vars = x.1.0 ∷ x.1.1 }

pub no_vars : (b : Base) → (declaration_said (record { base = b; vars = [] })).strays ≡ 0 → ⊥
no_vars b e = let n = base_nearest b in omega arith

declared_turned : (b : Base) (vs : List Var) → (declaration_said (record { base = b; vars = vs })).strays ≡ 0 → (x : Base × (Var × List Var)) × (record { base = b; vars = vs } ≡ declared_of x)
declared_turned b [] e = absurd (no_vars b e)
declared_turned b (v ∷ vs) e = ((b, (v, vs)), refl)

pub declared_whole : Whole declared_parts declaration_said declared_of
declared_whole = record { same = λ x. refl; turn = λ t e. declared_turned t.base t.vars e }

pub declared_at : (s : Source) (at middle next room : ℕ) (b : Base) (v : Var) (vs : List Var) → kind_at s.tokens at ≡ Some (base_kind b) → ReadsAt var_said s (at + 1) room v middle → ReadsAt more_vars s middle room vs next → ReadsAt declaration_said s at room (record { base = b; vars = v ∷ vs }) next
declared_at s at middle next room b v vs e r t =
    whole_at declared_parts declaration_said declared_of declared_whole s at next room (b, (v, vs))
    (behind_single_at base_said base_kind base_single listed_vars listed_least s at next room b (v, vs) (base_at s at room b e)
    (joined_at var_said more_vars listed_vars listed_joined s (at + 1) middle next room v vs r t))

declared_behind : (s : Source) (at room token : ℕ) (why : Wrong) (b : Base) → kind_at s.tokens at ≡ Some (base_kind b) → RefusesAt listed_vars s (at + 1) room token why → RefusesAt declaration_said s at room token why
declared_behind s at room token why b e r = whole_refused declared_parts declaration_said declared_of declared_whole s at room token why (behind_single_refused_at base_said base_kind base_single listed_vars listed_least s at room token why b (base_at s at room b e) r)

pub declared_first_refused : (s : Source) (at room token : ℕ) (why : Wrong) (b : Base) → kind_at s.tokens at ≡ Some (base_kind b) → RefusesAt var_said s (at + 1) room token why → RefusesAt declaration_said s at room token why
declared_first_refused s at room token why b e r = declared_behind s at room token why b e (first_refused_at var_said more_vars listed_vars listed_joined s (at + 1) room token why r)

pub declared_rest_refused : (s : Source) (at middle room token : ℕ) (why : Wrong) (b : Base) (v : Var) → kind_at s.tokens at ≡ Some (base_kind b) → ReadsAt var_said s (at + 1) room v middle → RefusesAt more_vars s middle room token why → RefusesAt declaration_said s at room token why
declared_rest_refused s at middle room token why b v e r t = declared_behind s at room token why b e (second_refused_at var_said more_vars listed_vars listed_joined s (at + 1) middle room v token why r t)
