-- Parameters, at a place of the tokens.
use Rattle.std.proofs.Common.{◌≡◌, ◌≢◌, refl, ap, ℕ, ◌+◌, Bool, true, false, List, [], ◌∷◌, ◌++◌, Some, None}
use Rattle.c_lexer.specs.declared.token.TokenKind.TheVariants as k
use Rattle.c_tree.specs.declared.tree.Base.{Base}
use Rattle.c_tree.specs.declared.tree.Base.TheVariants as base
use Rattle.c_tree.specs.declared.tree.Name.{Name}
use Rattle.c_tree.specs.declared.tree.Param.{Param}
use Rattle.c_tree.specs.declared.fault.Wrong.{Wrong}
use Rattle.c_tree.specs.declared.fault.Wrong.TheVariants.{Unexpected}
use Rattle.c_tree.specs.Said.{Kind, Said, stars, named}
use Rattle.c_tree.specs.Tokens.{Source, kind_at, name_of}
use Rattle.c_tree.specs.Grammar.{base_said, param_said, more_params}
use Rattle.c_tree.specs.Reading.{ReadsAt, RefusesAt}
use Rattle.c_tree.proofs.Parts.{tok, seq, seq_joined, Turn, TurnIf, Least, Joined}
use Rattle.c_tree.proofs.Places.{some_name, tok_at, named_at, named_refused_at, joined_at, first_refused_at, second_refused_at, turn_at, turn_if_at, turn_if_refused_at}
use Rattle.c_tree.proofs.Choices.{Headed, not_first, unheaded_at, headed_parted, quiet_parted, whole_refused_at, behind_single_at, behind_single_refused_at, behind_tok_at, behind_tok_refused_at}
use Rattle.c_expressions.proofs.Arguments.{is_close}
use Rattle.c_parser.specs.Bases.{base_of}
use Rattle.c_parser.proofs.Vars.{is_base, base_kind, base_is, base_single, base_at, is_name, name_no_star, is_comma}

-- ---- a parameter
abbrev pub starred_name : ℕ × Name → Said
starred_name = seq stars named

name_least : Least named
name_least = record { tree = some_name; flat = refl; nearest = refl }

pub starred_joined : Joined stars named starred_name
starred_joined = seq_joined stars named (headed_parted stars named is_name (λ b. (Some k.Name, ([], refl, refl))) (λ n a h. name_no_star a h)) name_least

pub starred_least : Least starred_name
starred_least = record { tree = (0, some_name); flat = refl; nearest = refl }

abbrev pub param_parts : Base × (ℕ × Name) → Said
param_parts = seq base_said starred_name

abbrev pub param_of : Base × (ℕ × Name) → Param
param_of x = record { base = x.0; stars = x.1.0; name = x.1.1 }

param_turn : Turn param_parts param_said param_of []
param_turn = record { same = λ x. refl; turn = λ t r more e h. ((t.base, (t.stars, t.name)), refl); begins = λ x. ((param_parts x).kinds, refl) }

pub param_at : (s : Source) (at middle room n : ℕ) (b : Base) → kind_at s.tokens at ≡ Some (base_kind b) → ReadsAt stars s (at + 1) room n middle → kind_at s.tokens middle ≡ Some k.Name → ReadsAt param_said s at room (record { base = b; stars = n; name = name_of s middle }) (middle + 1)
param_at s at middle room n b e r i =
    turn_at param_parts param_said param_of [] param_turn s at (middle + 1) room (b, (n, name_of s middle))
    (behind_single_at base_said base_kind base_single starred_name starred_least s at (middle + 1) room b (n, name_of s middle) (base_at s at room b e)
    (joined_at stars named starred_name starred_joined s (at + 1) middle (middle + 1) room n (name_of s middle) r (named_at s middle room i)))

pub param_unnamed_at : (s : Source) (at middle room n : ℕ) (b : Base) → kind_at s.tokens at ≡ Some (base_kind b) → ReadsAt stars s (at + 1) room n middle → kind_at s.tokens middle ≢ Some k.Name → RefusesAt param_said s at room middle Unexpected
param_unnamed_at s at middle room n b e r other =
    whole_refused_at param_parts param_said param_of param_turn s at room middle Unexpected
    (behind_single_refused_at base_said base_kind base_single starred_name starred_least s at room middle Unexpected b (base_at s at room b e)
    (second_refused_at stars named starred_name starred_joined s (at + 1) middle room n middle Unexpected r (named_refused_at s middle room other)))

pub param_head : (p : Param) → Headed is_base (param_said p)
param_head p = (Some (base_kind p.base), ((starred_name (p.stars, p.name)).kinds, ap (λ w. w ++ (starred_name (p.stars, p.name)).kinds) (base_single.kinds_is p.base), base_is p.base))

pub param_least : Least param_said
param_least = record { tree = param_of (base.Int, (0, some_name)); flat = refl; nearest = refl }

pub no_base : (a : Kind) → base_of a ≡ None → is_base a ≡ false
no_base (Some k.Int) e = absurd (cc)
no_base (Some k.Char) e = absurd (cc)
no_base (Some k.Void) e = absurd (cc)
no_base _ e = refl

pub no_param_at : (s : Source) (at room : ℕ) → is_base (kind_at s.tokens at) ≡ false → RefusesAt param_said s at room at Unexpected
no_param_at s at room fails = unheaded_at param_said is_base param_head param_least s at room fails

-- ---- the parameters behind the first one
abbrev pub listed_params : Param × List Param → Said
listed_params = seq param_said more_params

abbrev pub is_more_param : Kind → Bool
is_more_param (Some k.CloseParen) = true
is_more_param (Some k.Comma) = true
is_more_param _ = false

more_head : (xs : List Param) → Headed is_more_param (more_params xs)
more_head [] = (Some k.CloseParen, ([], refl, refl))
more_head (x ∷ xs) = (Some k.Comma, ((listed_params (x, xs)).kinds, refl, refl))

pub more_least : Least more_params
more_least = record { tree = []; flat = refl; nearest = refl }

pub listed_joined : Joined param_said more_params listed_params
listed_joined = seq_joined param_said more_params (quiet_parted param_said more_params (λ p a. refl)) more_least

pub listed_least : Least listed_params
unfolding param_least
listed_least = record { tree = (param_least.tree, []); flat = refl; nearest = refl }

abbrev none_of : Unit {0} → List Param
none_of x = []

abbrev comma_of : Unit {0} × (Param × List Param) → List Param
comma_of x = x.1.0 ∷ x.1.1

close_turned : (t : List Param) (r : List Kind) (a : Kind) (more : List Kind) → (more_params t).kinds ++ r ≡ a ∷ more → is_close a ≡ true → (x : Unit {0}) × (t ≡ [])
close_turned [] r a more e h = (tt, refl)
close_turned (x ∷ xs) r a more e h = absurd (not_first is_close (Some k.Comma) a ((listed_params (x, xs)).kinds ++ r) more e h refl)

close_turn : TurnIf (tok k.CloseParen) more_params none_of is_close
close_turn = record { same = λ x. refl; turn = λ t r a more e h z. close_turned t r a more e h; begins = λ x. (Some k.CloseParen, ([], refl, refl)) }

comma_turned : (t : List Param) (r : List Kind) (a : Kind) (more : List Kind) → (more_params t).kinds ++ r ≡ a ∷ more → is_comma a ≡ true → (x : Unit {0} × (Param × List Param)) × (t ≡ comma_of x)
comma_turned [] r a more e h = absurd (not_first is_comma (Some k.CloseParen) a r more e h refl)
comma_turned (x ∷ xs) r a more e h = ((tt, (x, xs)), refl)

comma_turn : TurnIf (seq (tok k.Comma) listed_params) more_params comma_of is_comma
comma_turn = record { same = λ x. refl; turn = λ t r a more e h z. comma_turned t r a more e h; begins = λ x. (Some k.Comma, ((listed_params x.1).kinds, refl, refl)) }

pub no_more_at : (s : Source) (at room : ℕ) → kind_at s.tokens at ≡ Some k.CloseParen → ReadsAt more_params s at room [] (at + 1)
no_more_at s at room e = turn_if_at (tok k.CloseParen) more_params none_of is_close close_turn s at (at + 1) room tt (tok_at s at room k.CloseParen e)

pub more_at : (s : Source) (at middle room : ℕ) (x : Param) → kind_at s.tokens at ≡ Some k.Comma → ReadsAt param_said s (at + 1) room x middle → (xs : List Param) (n : ℕ) → ReadsAt more_params s middle room xs n → ReadsAt more_params s at room (x ∷ xs) n
more_at s at middle room x e r xs n t =
    turn_if_at (seq (tok k.Comma) listed_params) more_params comma_of is_comma comma_turn s at n room (tt, (x, xs))
    (behind_tok_at listed_params listed_least s at room k.Comma e n (x, xs) (joined_at param_said more_params listed_params listed_joined s (at + 1) middle n room x xs r t))

more_behind : (s : Source) (at room token : ℕ) (why : Wrong) → kind_at s.tokens at ≡ Some k.Comma → RefusesAt listed_params s (at + 1) room token why → RefusesAt more_params s at room token why
more_behind s at room token why e r = turn_if_refused_at (seq (tok k.Comma) listed_params) more_params comma_of is_comma comma_turn s at room token why (ap is_comma e) (behind_tok_refused_at listed_params listed_least s at room k.Comma e token why r)

pub more_first_refused : (s : Source) (at room token : ℕ) (why : Wrong) → kind_at s.tokens at ≡ Some k.Comma → RefusesAt param_said s (at + 1) room token why → RefusesAt more_params s at room token why
more_first_refused s at room token why e r = more_behind s at room token why e (first_refused_at param_said more_params listed_params listed_joined s (at + 1) room token why r)

pub more_rest_refused : (s : Source) (at middle room : ℕ) (x : Param) → kind_at s.tokens at ≡ Some k.Comma → ReadsAt param_said s (at + 1) room x middle → (token : ℕ) (why : Wrong) → RefusesAt more_params s middle room token why → RefusesAt more_params s at room token why
more_rest_refused s at middle room x e r token why t = more_behind s at room token why e (second_refused_at param_said more_params listed_params listed_joined s (at + 1) middle room x token why r t)

not_more : (a : Kind) → a ≢ Some k.CloseParen → a ≢ Some k.Comma → is_more_param a ≡ false
not_more (Some k.CloseParen) p q = absurd (p refl)
not_more (Some k.Comma) p q = absurd (q refl)
not_more _ p q = refl

pub more_missing_at : (s : Source) (at room : ℕ) → kind_at s.tokens at ≢ Some k.CloseParen → kind_at s.tokens at ≢ Some k.Comma → RefusesAt more_params s at room at Unexpected
more_missing_at s at room p q = unheaded_at more_params is_more_param more_head more_least s at room (not_more (kind_at s.tokens at) p q)
