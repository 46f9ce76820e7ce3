-- Lists of arguments, and expressions in brackets.
use Rattle.std.proofs.Common.{◌≡◌, ◌≢◌, refl, ap, ℕ, ◌+◌, max, Bool, true, false, List, [], ◌∷◌, ◌++◌, Some, arith}
use Rattle.std.specs.Prelude.{map}
use Rattle.c_lexer.specs.declared.token.TokenKind.TheVariants as k
use Rattle.c_tree.specs.declared.tree.Expr.{Expr}
use Rattle.c_tree.specs.declared.fault.Wrong.{Wrong}
use Rattle.c_tree.specs.declared.fault.Wrong.TheVariants.{Unexpected}
use Rattle.c_tree.specs.Said.{Kind, Said}
use Rattle.c_tree.specs.Tokens.{Source, kind_at}
use Rattle.c_tree.specs.Grammar.{is_open, is_add, is_compare, more_args, args_of, condition_said, expr_said}
use Rattle.c_tree.specs.Reading.{ReadsAt, RefusesAt}
use Rattle.c_tree.proofs.Parts.{tok, seq, TurnIf, Least, Parted, Joined, seq_joined}
use Rattle.c_tree.proofs.Places.{tok_at, tok_refused_at, joined_at, first_refused_at, second_refused_at, turn_if_at, turn_if_refused_at}
use Rattle.c_tree.proofs.Choices.{Headed, not_first, not_headed, unheaded_at, headed_parted, behind_tok_at, behind_tok_refused_at}
use Rattle.c_expressions.proofs.Heads.{is_start, expr_head, expr_goes, expr_least}

-- ---- tests
abbrev pub is_close : Kind → Bool
is_close (Some k.CloseParen) = true
is_close _ = false

abbrev is_no_close : Kind → Bool
is_no_close (Some k.CloseParen) = false
is_no_close _ = true

abbrev is_comma : Kind → Bool
is_comma (Some k.Comma) = true
is_comma _ = false

-- what stands behind an argument
abbrev is_more : Kind → Bool
is_more (Some k.CloseParen) = true
is_more (Some k.Comma) = true
is_more _ = false

pub not_close : (kind : Kind) → kind ≢ Some k.CloseParen → is_no_close kind ≡ true
not_close (Some k.CloseParen) h = absurd (h refl)
not_close _ h = refl

pub not_more : (kind : Kind) → kind ≢ Some k.CloseParen → kind ≢ Some k.Comma → is_more kind ≡ false
not_more (Some k.CloseParen) a b = absurd (a refl)
not_more (Some k.Comma) a b = absurd (b refl)
not_more _ a b = refl

start_no_close : (kind : Kind) → is_start kind ≡ true → is_no_close kind ≡ true
start_no_close (Some k.CloseParen) e = absurd (cc)
start_no_close _ e = refl

close_no_start : (kind : Kind) → is_close kind ≡ true → is_start kind ≡ false
close_no_start (Some k.CloseParen) e = refl
close_no_start _ e = absurd (cc)

more_no_open : (kind : Kind) → is_more kind ≡ true → is_open kind ≡ false
more_no_open (Some k.CloseParen) e = refl
more_no_open (Some k.Comma) e = refl
more_no_open _ e = absurd (cc)

more_no_add : (kind : Kind) → is_more kind ≡ true → is_add kind ≡ false
more_no_add (Some k.CloseParen) e = refl
more_no_add (Some k.Comma) e = refl
more_no_add _ e = absurd (cc)

more_no_compare : (kind : Kind) → is_more kind ≡ true → is_compare kind ≡ false
more_no_compare (Some k.CloseParen) e = refl
more_no_compare (Some k.Comma) e = refl
more_no_compare _ e = absurd (cc)

-- ---- an argument and what stands behind it
abbrev pub more_of : List Expr → Said
more_of xs = more_args (map expr_said xs)

abbrev pub listed : Expr × List Expr → Said
listed = seq expr_said more_of

more_head : (xs : List Expr) → Headed is_more (more_of xs)
more_head [] = (Some k.CloseParen, ([], refl, refl))
more_head (x ∷ xs) = (Some k.Comma, ((listed (x, xs)).kinds, refl, refl))

more_parted : Parted expr_said more_of
more_parted = headed_parted expr_said more_of is_more more_head (λ e kind h. expr_goes e kind (more_no_open kind h) (more_no_add kind h) (more_no_compare kind h))

more_least : Least more_of
more_least = record { tree = []; flat = refl; nearest = refl }

listed_joined : Joined expr_said more_of listed
listed_joined = seq_joined expr_said more_of more_parted more_least

listed_least : Least listed
listed_least = record { tree = (expr_least.tree, []); flat = ap (λ n. max n 0) expr_least.flat; nearest = ap (λ n. n + 0) expr_least.nearest }

abbrev none_of : Unit {0} → List Expr
none_of x = []

abbrev comma_of : Unit {0} × (Expr × List Expr) → List Expr
comma_of x = x.1.0 ∷ x.1.1

abbrev cons_of : Expr × List Expr → List Expr
cons_of x = x.0 ∷ x.1

close_turned : (t : List Expr) (r : List Kind) (kind : Kind) (more : List Kind) → (more_of t).kinds ++ r ≡ kind ∷ more → is_close kind ≡ true → (x : Unit {0}) × (t ≡ [])
close_turned [] r kind more e h = (tt, refl)
close_turned (x ∷ xs) r kind more e h = absurd (not_first is_close (Some k.Comma) kind ((listed (x, xs)).kinds ++ r) more e h refl)

close_turn : TurnIf (tok k.CloseParen) more_of none_of is_close
close_turn = record { same = λ x. refl; turn = λ t r kind more e h s. close_turned t r kind more e h; begins = λ x. (Some k.CloseParen, ([], refl, refl)) }

comma_turned : (t : List Expr) (r : List Kind) (kind : Kind) (more : List Kind) → (more_of t).kinds ++ r ≡ kind ∷ more → is_comma kind ≡ true → (x : Unit {0} × (Expr × List Expr)) × (t ≡ comma_of x)
comma_turned [] r kind more e h = absurd (not_first is_comma (Some k.CloseParen) kind r more e h refl)
comma_turned (x ∷ xs) r kind more e h = ((tt, (x, xs)), refl)

comma_turn : TurnIf (seq (tok k.Comma) listed) more_of comma_of is_comma
comma_turn = record { same = λ x. refl; turn = λ t r kind more e h s. comma_turned t r kind more e h; begins = λ x. (Some k.Comma, ((listed x.1).kinds, refl, refl)) }

pub last_listed : (s : Source) (at middle room : ℕ) (x : Expr) → ReadsAt expr_said s at room x middle → kind_at s.tokens middle ≡ Some k.CloseParen → ReadsAt listed s at room (x, []) (middle + 1)
last_listed s at middle room x r e =
    joined_at expr_said more_of listed listed_joined s at middle (middle + 1) room x [] r
    (turn_if_at (tok k.CloseParen) more_of none_of is_close close_turn s middle (middle + 1) room tt (tok_at s middle room k.CloseParen e))

pub next_listed : (s : Source) (at middle room : ℕ) (x : Expr) → ReadsAt expr_said s at room x middle → kind_at s.tokens middle ≡ Some k.Comma → (y : Expr) (ys : List Expr) (n : ℕ) → ReadsAt listed s (middle + 1) room (y, ys) n → ReadsAt listed s at room (x, y ∷ ys) n
next_listed s at middle room x r e y ys n t =
    joined_at expr_said more_of listed listed_joined s at middle n room x (y ∷ ys) r
    (turn_if_at (seq (tok k.Comma) listed) more_of comma_of is_comma comma_turn s middle n room (tt, (y, ys)) (behind_tok_at listed listed_least s middle room k.Comma e n (y, ys) t))

pub next_refused : (s : Source) (at middle room : ℕ) (x : Expr) → ReadsAt expr_said s at room x middle → kind_at s.tokens middle ≡ Some k.Comma → (token : ℕ) (why : Wrong) → RefusesAt listed s (middle + 1) room token why → RefusesAt listed s at room token why
next_refused s at middle room x r e token why t =
    second_refused_at expr_said more_of listed listed_joined s at middle room x token why r
    (turn_if_refused_at (seq (tok k.Comma) listed) more_of comma_of is_comma comma_turn s middle room token why (ap is_comma e) (behind_tok_refused_at listed listed_least s middle room k.Comma e token why t))

pub unlisted : (s : Source) (at middle room : ℕ) (x : Expr) → ReadsAt expr_said s at room x middle → kind_at s.tokens middle ≢ Some k.CloseParen → kind_at s.tokens middle ≢ Some k.Comma → RefusesAt listed s at room middle Unexpected
unlisted s at middle room x r a b =
    second_refused_at expr_said more_of listed listed_joined s at middle room x middle Unexpected r
    (unheaded_at more_of is_more more_head more_least s middle room (not_more (kind_at s.tokens middle) a b))

pub listed_refused : (s : Source) (at room token : ℕ) (why : Wrong) → RefusesAt expr_said s at room token why → RefusesAt listed s at room token why
listed_refused s at room token why r = first_refused_at expr_said more_of listed listed_joined s at room token why r

-- ---- no argument, or some
none_turned : (t : List Expr) (r : List Kind) (kind : Kind) (more : List Kind) → (args_of t).kinds ++ r ≡ kind ∷ more → is_close kind ≡ true → (x : Unit {0}) × (t ≡ [])
none_turned [] r kind more e h = (tt, refl)
none_turned (x ∷ xs) r kind more e h =
    let d = expr_head x in
    absurd (not_headed is_close is_start (listed (x, xs)) (d.0, (d.1.0 ++ (more_of xs).kinds, ap (λ w. w ++ (more_of xs).kinds) d.1.1, d.1.2)) close_no_start r kind more e h)

none_turn : TurnIf (tok k.CloseParen) args_of none_of is_close
none_turn = record { same = λ x. refl; turn = λ t r kind more e h s. none_turned t r kind more e h; begins = λ x. (Some k.CloseParen, ([], refl, refl)) }

some_turned : (t : List Expr) (r : List Kind) (kind : Kind) (more : List Kind) → (args_of t).kinds ++ r ≡ kind ∷ more → is_no_close kind ≡ true → (x : Expr × List Expr) × (t ≡ cons_of x)
some_turned [] r kind more e h = absurd (not_first is_no_close (Some k.CloseParen) kind r more e h refl)
some_turned (x ∷ xs) r kind more e h = ((x, xs), refl)

some_turn : TurnIf listed args_of cons_of is_no_close
some_turn = record {
  same = λ x. refl;
  turn = λ t r kind more e h s. some_turned t r kind more e h;
  begins = λ x. let d = expr_head x.0 in (d.0, (d.1.0 ++ (more_of x.1).kinds, ap (λ w. w ++ (more_of x.1).kinds) d.1.1, start_no_close d.0 d.1.2));
}

pub args_least : Least args_of
args_least = record { tree = []; flat = refl; nearest = refl }

pub no_args_at : (s : Source) (at room : ℕ) → kind_at s.tokens at ≡ Some k.CloseParen → ReadsAt args_of s at room [] (at + 1)
no_args_at s at room e = turn_if_at (tok k.CloseParen) args_of none_of is_close none_turn s at (at + 1) room tt (tok_at s at room k.CloseParen e)

pub some_args_at : (s : Source) (at room next : ℕ) (x : Expr) (xs : List Expr) → ReadsAt listed s at room (x, xs) next → ReadsAt args_of s at room (x ∷ xs) next
some_args_at s at room next x xs r = turn_if_at listed args_of cons_of is_no_close some_turn s at next room (x, xs) r

pub some_args_refused_at : (s : Source) (at room token : ℕ) (why : Wrong) → kind_at s.tokens at ≢ Some k.CloseParen → RefusesAt listed s at room token why → RefusesAt args_of s at room token why
some_args_refused_at s at room token why other r = turn_if_refused_at listed args_of cons_of is_no_close some_turn s at room token why (not_close (kind_at s.tokens at) other) r

-- ---- an expression in brackets
abbrev closed : Expr × Unit {0} → Said
closed = seq expr_said (tok k.CloseParen)

close_least : Least (tok k.CloseParen)
close_least = record { tree = tt; flat = refl; nearest = refl }

closed_joined : Joined expr_said (tok k.CloseParen) closed
closed_joined = seq_joined expr_said (tok k.CloseParen) (λ a b r s. expr_goes a (Some k.CloseParen) refl refl refl) close_least

closed_least : Least closed
closed_least = record { tree = (expr_least.tree, tt); flat = let n = expr_least.flat in omega arith; nearest = let n = expr_least.nearest in omega arith }

abbrev bracket_parts : Unit {0} × (Expr × Unit {0}) → Said
bracket_parts = seq (tok k.OpenParen) closed

abbrev inner_of : Unit {0} × (Expr × Unit {0}) → Expr
inner_of x = x.1.0

bracket_turn : TurnIf bracket_parts condition_said inner_of is_open
bracket_turn = record {
  same = λ x. refl;
  turn = λ t r kind more e h s. ((tt, (t, tt)), refl);
  begins = λ x. (Some k.OpenParen, ((closed x.1).kinds, refl, refl));
}

pub condition_head : (e : Expr) → Headed is_open (condition_said e)
condition_head e = (Some k.OpenParen, ((closed (e, tt)).kinds, refl, refl))

pub condition_least : Least condition_said
condition_least = record { tree = expr_least.tree; flat = let n = expr_least.flat in omega arith; nearest = let n = expr_least.nearest in omega arith }

pub bracketed_at : (s : Source) (at room next : ℕ) (e : Expr) → kind_at s.tokens at ≡ Some k.OpenParen → ReadsAt expr_said s (at + 1) room e next → kind_at s.tokens next ≡ Some k.CloseParen → ReadsAt condition_said s at room e (next + 1)
bracketed_at s at room next e o r c =
    turn_if_at bracket_parts condition_said inner_of is_open bracket_turn s at (next + 1) room (tt, (e, tt))
    (behind_tok_at closed closed_least s at room k.OpenParen o (next + 1) (e, tt)
    (joined_at expr_said (tok k.CloseParen) closed closed_joined s (at + 1) next (next + 1) room e tt r (tok_at s next room k.CloseParen c)))

behind_bracket : (s : Source) (at room token : ℕ) (why : Wrong) → kind_at s.tokens at ≡ Some k.OpenParen → RefusesAt closed s (at + 1) room token why → RefusesAt condition_said s at room token why
behind_bracket s at room token why o r =
    turn_if_refused_at bracket_parts condition_said inner_of is_open bracket_turn s at room token why (ap is_open o) (behind_tok_refused_at closed closed_least s at room k.OpenParen o token why r)

pub bracketed_refused_at : (s : Source) (at room token : ℕ) (why : Wrong) → kind_at s.tokens at ≡ Some k.OpenParen → RefusesAt expr_said s (at + 1) room token why → RefusesAt condition_said s at room token why
bracketed_refused_at s at room token why o r = behind_bracket s at room token why o (first_refused_at expr_said (tok k.CloseParen) closed closed_joined s (at + 1) room token why r)

pub unclosed_at : (s : Source) (at room next : ℕ) (e : Expr) → kind_at s.tokens at ≡ Some k.OpenParen → ReadsAt expr_said s (at + 1) room e next → kind_at s.tokens next ≢ Some k.CloseParen → RefusesAt condition_said s at room next Unexpected
unclosed_at s at room next e o r other =
    behind_bracket s at room next Unexpected o
    (second_refused_at expr_said (tok k.CloseParen) closed closed_joined s (at + 1) next room e next Unexpected r (tok_refused_at s next room k.CloseParen other))

pub not_open : (kind : Kind) → kind ≢ Some k.OpenParen → is_open kind ≡ false
not_open (Some k.OpenParen) h = absurd (h refl)
not_open _ h = refl

pub unopened_at : (s : Source) (at room : ℕ) → kind_at s.tokens at ≢ Some k.OpenParen → RefusesAt condition_said s at room at Unexpected
unopened_at s at room other = unheaded_at condition_said is_open condition_head condition_least s at room (not_open (kind_at s.tokens at) other)
