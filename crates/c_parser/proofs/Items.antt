-- Items, at a place of the tokens: what stands behind the name, and both together.
use Rattle.std.proofs.Common.{◌≡◌, ◌≢◌, ◌∙◌, ◌⊎◌, inl, inr, refl, sym, ap, ℕ, Bool, true, false, List, [], ◌∷◌, ◌++◌, Some, None, arith}
use Rattle.std.specs.Prelude.{map, Option}
use Rattle.c_lexer.specs.declared.token.TokenKind.TheVariants as k
use Rattle.c_tree.specs.declared.tree.Base.{Base}
use Rattle.c_tree.specs.declared.tree.Param.{Param}
use Rattle.c_tree.specs.declared.tree.Expr.{Expr}
use Rattle.c_tree.specs.declared.tree.Var.{Var}
use Rattle.c_tree.specs.declared.tree.Function.{Function}
use Rattle.c_tree.specs.declared.tree.Item.TheVariants as item
use Rattle.c_tree.specs.declared.fault.Wrong.{Wrong}
use Rattle.c_tree.specs.Said.{Kind, Said, stars, named, ◌⨾◌}
use Rattle.c_tree.specs.Tokens.{Source, kind_at}
use Rattle.c_tree.specs.Grammar.{is_open, base_said, param_said, value_said, more_vars, expr_said, stmt_said}
use Rattle.c_tree.specs.Reading.{ReadsAt, RefusesAt}
use Rattle.c_tree.proofs.Parts.{seq, seq_joined, TurnIf, Least, Joined}
use Rattle.c_tree.proofs.Places.{joined_at, first_refused_at, second_refused_at, turn_if_at, turn_if_refused_at}
use Rattle.c_tree.proofs.Choices.{Headed, not_first, not_headed, quiet_parted, headed_parted}
use Rattle.c_parser.specs.declared.item.FunctionRest.{FunctionRest}
use Rattle.c_parser.specs.Flagged.{params_of}
use Rattle.c_parser.specs.Behind.{function_behind}
use Rattle.c_parser.specs.Program.{Written, written_said}
use Rattle.c_parser.proofs.Wholes.{Whole, whole_at, whole_refused}
use Rattle.c_parser.proofs.Vars.{is_base, base_is, base_kind, base_single, value_ends, more_head, more_least, listed_vars, is_more_var, no_vars}
use Rattle.c_parser.proofs.Stmts.{block_quiet, vars_quiet, declared_head}
use Rattle.c_parser.proofs.Sequences.{seq_assoc}
use Rattle.c_parser.proofs.Functions.{body_parts}

-- ---- what stands behind the name: of a function, or of a variable
abbrev pub Behind : Type 0
Behind = (Bool × FunctionRest) ⊎ (Option Expr × List Var)

abbrev pub value_more : Option Expr × List Var → Said
value_more = seq value_said more_vars

abbrev pub behind_said : Behind → Said
behind_said (inl f) = function_behind f
behind_said (inr d) = value_more d

abbrev pub as_function : Bool × FunctionRest → Behind
as_function f = inl f

abbrev pub as_declared : Option Expr × List Var → Behind
as_declared d = inr d

abbrev pub is_not_open : Kind → Bool
is_not_open (Some k.OpenParen) = false
is_not_open _ = true

open_fails : (a : Kind) → is_open a ≡ true → is_not_open a ≡ false
open_fails (Some k.OpenParen) e = refl
open_fails _ e = absurd (cc)

var_head : (v : Option Expr) (vs : List Var) → Headed is_not_open (value_more (v, vs))
var_head None [] = (Some k.Semicolon, ([], refl, refl))
var_head None (x ∷ xs) = (Some k.Comma, ((listed_vars (x, xs)).kinds, refl, refl))
var_head (Some e) vs = (Some k.Assign, ((expr_said e).kinds ++ (more_vars vs).kinds, refl, refl))

abbrev function_tail : Bool × FunctionRest → List Kind
function_tail f = (seq params_of body_parts ((f.0, f.1.params), (tt, f.1.block))).kinds

function_turned : (t : Behind) (r : List Kind) (a : Kind) (more : List Kind) → (behind_said t).kinds ++ r ≡ a ∷ more → is_open a ≡ true → (x : Bool × FunctionRest) × (t ≡ as_function x)
function_turned (inl f) r a more e h = (f, refl)
function_turned (inr d) r a more e h = absurd (not_headed is_open is_not_open (value_more d) (var_head d.0 d.1) open_fails r a more e h)

function_turn : TurnIf function_behind behind_said as_function is_open
function_turn = record { same = λ x. refl; turn = λ t r a more e h z. function_turned t r a more e h; begins = λ x. (Some k.OpenParen, (function_tail x, refl, refl)) }

declared_turned : (t : Behind) (r : List Kind) (a : Kind) (more : List Kind) → (behind_said t).kinds ++ r ≡ a ∷ more → is_not_open a ≡ true → (x : Option Expr × List Var) × (t ≡ as_declared x)
declared_turned (inl f) r a more e h = absurd (not_first is_not_open (Some k.OpenParen) a (function_tail f ++ r) more e h refl)
declared_turned (inr d) r a more e h = (d, refl)

declared_turn : TurnIf value_more behind_said as_declared is_not_open
declared_turn = record { same = λ x. refl; turn = λ t r a more e h z. declared_turned t r a more e h; begins = λ x. var_head x.0 x.1 }

behind_least : Least behind_said
behind_least = record { tree = inr (None, []); flat = refl; nearest = refl }

value_joined : Joined value_said more_vars value_more
value_joined = seq_joined value_said more_vars (headed_parted value_said more_vars is_more_var more_head (λ v a h. value_ends v a h)) more_least

-- ---- an item
abbrev pub item_parts : Param × Behind → Said
item_parts = seq param_said behind_said

abbrev pub item_made : Param × Behind → Written
item_made (p, inl f) = (f.0, item.Function (record { base = p.base; stars = p.stars; name = p.name; params = f.1.params; block = f.1.block }))
item_made (p, inr d) = (false, item.Declared (record { base = p.base; vars = record { stars = p.stars; name = p.name; value = d.0 } ∷ d.1 }))

item_joined : Joined param_said behind_said item_parts
item_joined = seq_joined param_said behind_said (quiet_parted param_said behind_said (λ p a. refl)) behind_least

-- how the brackets stand in the grammar of a function
function_grouped : (b n m f : Said) → b ⨾ (n ⨾ (m ⨾ f)) ≡ (b ⨾ (n ⨾ m)) ⨾ f
function_grouped b n m f = ap (λ w. b ⨾ w) (sym (seq_assoc n m f)) ∙ sym (seq_assoc b (n ⨾ m) f)

-- and in that of a declaration
declared_grouped : (b n m v d : Said) → b ⨾ ((n ⨾ (m ⨾ v)) ⨾ d) ≡ (b ⨾ (n ⨾ m)) ⨾ (v ⨾ d)
declared_grouped b n m v d =
    ap (λ w. b ⨾ (w ⨾ d)) (sym (seq_assoc n m v))
    ∙ ap (λ w. b ⨾ w) (seq_assoc (n ⨾ m) v d)
    ∙ sym (seq_assoc b (n ⨾ m) (v ⨾ d))

item_same : (p : Param) (b : Behind) → written_said (item_made (p, b)) ≡ item_parts (p, b)
item_same p (inl f) = function_grouped (base_said p.base) (stars p.stars) (named p.name) (function_behind f)
item_same p (inr d) = declared_grouped (base_said p.base) (stars p.stars) (named p.name) (value_said d.0) (more_vars d.1)

abbrev DeclaredFrom : Base → List Var → Type 0
DeclaredFrom b vs = (x : Param × Behind) × ((false, item.Declared (record { base = b; vars = vs })) ≡ item_made x)

declared_from : (b : Base) (vs : List Var) → (written_said (false, item.Declared (record { base = b; vars = vs }))).strays ≡ 0 → DeclaredFrom b vs
declared_from b [] e = absurd (no_vars b e)
declared_from b (v ∷ vs) e = ((record { base = b; stars = v.stars; name = v.name }, inr (v.value, vs)), refl)

item_turned : (t : Written) → (written_said t).strays ≡ 0 → (x : Param × Behind) × (t ≡ item_made x)
item_turned (flag, item.Function f) e = ((record { base = f.base; stars = f.stars; name = f.name }, inl (flag, record { params = f.params; block = f.block })), refl)
item_turned (false, item.Declared d) e = declared_from d.base d.vars e
item_turned (true, item.Declared d) e = absurd (omega arith)

item_whole : Whole item_parts written_said item_made
item_whole = record { same = λ x. item_same x.0 x.1; turn = item_turned }

-- ---- reading one
pub head_refused : (s : Source) (at room token : ℕ) (why : Wrong) → RefusesAt param_said s at room token why → RefusesAt written_said s at room token why
head_refused s at room token why r = whole_refused item_parts written_said item_made item_whole s at room token why (first_refused_at param_said behind_said item_parts item_joined s at room token why r)

behind_refused : (s : Source) (at middle room token : ℕ) (why : Wrong) (p : Param) → ReadsAt param_said s at room p middle → RefusesAt behind_said s middle room token why → RefusesAt written_said s at room token why
behind_refused s at middle room token why p r t = whole_refused item_parts written_said item_made item_whole s at room token why (second_refused_at param_said behind_said item_parts item_joined s at middle room p token why r t)

item_at : (s : Source) (at middle next room : ℕ) (p : Param) (b : Behind) → ReadsAt param_said s at room p middle → ReadsAt behind_said s middle room b next → ReadsAt written_said s at room (item_made (p, b)) next
item_at s at middle next room p b r t = whole_at item_parts written_said item_made item_whole s at next room (p, b) (joined_at param_said behind_said item_parts item_joined s at middle next room p b r t)

pub function_item_at : (s : Source) (at middle next room : ℕ) (p : Param) (f : Bool × FunctionRest) → ReadsAt param_said s at room p middle → ReadsAt function_behind s middle room f next → ReadsAt written_said s at room (item_made (p, inl f)) next
function_item_at s at middle next room p f r t = item_at s at middle next room p (inl f) r (turn_if_at function_behind behind_said as_function is_open function_turn s middle next room f t)

pub function_item_refused : (s : Source) (at middle room token : ℕ) (why : Wrong) (p : Param) → kind_at s.tokens middle ≡ Some k.OpenParen → ReadsAt param_said s at room p middle → RefusesAt function_behind s middle room token why → RefusesAt written_said s at room token why
function_item_refused s at middle room token why p e r t = behind_refused s at middle room token why p r (turn_if_refused_at function_behind behind_said as_function is_open function_turn s middle room token why (ap is_open e) t)

not_opened : (a : Kind) → a ≢ Some k.OpenParen → is_not_open a ≡ true
not_opened (Some k.OpenParen) h = absurd (h refl)
not_opened _ h = refl

pub declared_item_at : (s : Source) (at middle after next room : ℕ) (p : Param) (v : Option Expr) (vs : List Var) → ReadsAt param_said s at room p middle → ReadsAt value_said s middle room v after → ReadsAt more_vars s after room vs next → ReadsAt written_said s at room (item_made (p, inr (v, vs))) next
declared_item_at s at middle after next room p v vs r t u =
    item_at s at middle next room p (inr (v, vs)) r
    (turn_if_at value_more behind_said as_declared is_not_open declared_turn s middle next room (v, vs)
    (joined_at value_said more_vars value_more value_joined s middle after next room v vs t u))

declared_refused : (s : Source) (at middle room token : ℕ) (why : Wrong) (p : Param) → kind_at s.tokens middle ≢ Some k.OpenParen → ReadsAt param_said s at room p middle → RefusesAt value_more s middle room token why → RefusesAt written_said s at room token why
declared_refused s at middle room token why p other r t = behind_refused s at middle room token why p r (turn_if_refused_at value_more behind_said as_declared is_not_open declared_turn s middle room token why (not_opened (kind_at s.tokens middle) other) t)

pub item_value_refused : (s : Source) (at middle room token : ℕ) (why : Wrong) (p : Param) → kind_at s.tokens middle ≢ Some k.OpenParen → ReadsAt param_said s at room p middle → RefusesAt value_said s middle room token why → RefusesAt written_said s at room token why
item_value_refused s at middle room token why p other r t = declared_refused s at middle room token why p other r (first_refused_at value_said more_vars value_more value_joined s middle room token why t)

pub item_vars_refused : (s : Source) (at middle after room token : ℕ) (why : Wrong) (p : Param) (v : Option Expr) → kind_at s.tokens middle ≢ Some k.OpenParen → ReadsAt param_said s at room p middle → ReadsAt value_said s middle room v after → RefusesAt more_vars s after room token why → RefusesAt written_said s at room token why
item_vars_refused s at middle after room token why p v other r t u = declared_refused s at middle room token why p other r (second_refused_at value_said more_vars value_more value_joined s middle after room v token why t u)

-- ---- what an item says
-- an item goes on with nothing
pub item_quiet : (t : Written) (a : Kind) → (written_said t).goes_on a ≡ false
item_quiet (flag, item.Function f) a = block_quiet (map stmt_said f.block) a
item_quiet (true, item.Declared d) a = vars_quiet d.vars a
item_quiet (false, item.Declared d) a = vars_quiet d.vars a

function_head : (flag : Bool) (f : Function) → Headed is_base (written_said (flag, item.Function f))
function_head flag f =
    let rest = stars f.stars ⨾ (named f.name ⨾ function_behind (flag, record { params = f.params; block = f.block })) in
    (Some (base_kind f.base), (rest.kinds, ap (λ w. w ++ rest.kinds) (base_single.kinds_is f.base), base_is f.base))

-- an item begins with a base type
pub item_head : (t : Written) → Headed is_base (written_said t)
item_head (flag, item.Function f) = function_head flag f
item_head (true, item.Declared d) = declared_head d
item_head (false, item.Declared d) = declared_head d
