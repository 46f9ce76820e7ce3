-- The parameters of a function up to the bracket, none of them in one of two ways, at a place of the tokens.
use Rattle.std.proofs.Common.{◌≡◌, ◌≢◌, ◌∙◌, ◌⊎◌, inl, inr, refl, sym, ap, subst, ℕ, zero, suc, ◌+◌, Bool, true, false, List, [], ◌∷◌, ◌++◌, Some, None, arith}
use Rattle.c_lexer.specs.declared.token.TokenKind.TheVariants as k
use Rattle.c_tree.specs.declared.tree.Base.{Base}
use Rattle.c_tree.specs.declared.tree.Base.TheVariants as base
use Rattle.c_tree.specs.declared.tree.Param.{Param}
use Rattle.c_tree.specs.declared.fault.Wrong.{Wrong}
use Rattle.c_tree.specs.Said.{Kind, Said, star_kinds}
use Rattle.c_tree.specs.Tokens.{Source, kind_at}
use Rattle.c_tree.specs.Grammar.{param_said, more_params}
use Rattle.c_tree.specs.Reading.{Refuses, ReadsAt, RefusesAt, from}
use Rattle.c_tree.proofs.Parts.{tok, seq, Turn, TurnIf, Least}
use Rattle.c_tree.proofs.Places.{from_some, from_more, some_name, tok_at, joined_at, first_refused_at, second_refused_at, turn_at, turn_if_at, word_joined}
use Rattle.c_tree.proofs.Choices.{not_first, not_headed, headed_longer}
use Rattle.c_expressions.proofs.Arguments.{is_close}
use Rattle.c_parser.specs.Flagged.{SaysVoid, params_of}
use Rattle.c_parser.proofs.Vars.{is_base, base_kind, base_single}
use Rattle.c_parser.proofs.Ahead.{Ahead, ahead_at, ahead_refused}
use Rattle.c_parser.proofs.Flags.{counts_within}
use Rattle.c_parser.proofs.ParamForms.{param_of, param_head, listed_params, listed_joined}

-- ---- what begins with a parameter
-- the first token of listed parameters, and what is behind it
listed_tail : (p : Param) (ps : List Param) (r : List Kind) → (listed_params (p, ps)).kinds ++ r ≡ Some (base_kind p.base) ∷ (((star_kinds p.stars ++ Some k.Name ∷ []) ++ (more_params ps).kinds) ++ r)
listed_tail p ps r = ap (λ w. ((w ++ (star_kinds p.stars ++ Some k.Name ∷ [])) ++ (more_params ps).kinds) ++ r) (base_single.kinds_is p.base)

base_no_close : (a : Kind) → is_close a ≡ true → is_base a ≡ false
base_no_close (Some k.CloseParen) e = refl
base_no_close _ e = absurd (cc)

listed_no_close : (p : Param) (ps : List Param) (r : List Kind) (a : Kind) (more : List Kind) → (listed_params (p, ps)).kinds ++ r ≡ a ∷ more → is_close a ≡ true → ⊥
listed_no_close p ps r a more e h = not_headed is_close is_base (listed_params (p, ps)) (headed_longer is_base (param_said p) (listed_params (p, ps)) (more_params ps).kinds (param_head p) refl) base_no_close r a more e h

starred_no_close : (n : ℕ) (w r more : List Kind) → ((star_kinds n ++ Some k.Name ∷ []) ++ w) ++ r ≡ Some k.CloseParen ∷ more → ⊥
starred_no_close zero w r more e = cc
starred_no_close (suc n) w r more e = cc

behind_first : (a b : Kind) (xs ys : List Kind) → a ∷ xs ≡ b ∷ ys → xs ≡ ys
behind_first a b xs ys e = cc

listed_no_void : (p : Param) (ps : List Param) (r more : List Kind) → (listed_params (p, ps)).kinds ++ r ≡ Some k.Void ∷ Some k.CloseParen ∷ more → ⊥
listed_no_void p ps r more e =
    let tail = ((star_kinds p.stars ++ Some k.Name ∷ []) ++ (more_params ps).kinds) ++ r in
    starred_no_close p.stars (more_params ps).kinds r more (behind_first (Some (base_kind p.base)) (Some k.Void) tail (Some k.CloseParen ∷ more) (sym (listed_tail p ps r) ∙ e))

-- ---- `)`
abbrev pub none_made : Unit {0} → Bool × List Param
none_made x = (false, [])

close_turned : (t : Bool × List Param) (r : List Kind) (a : Kind) (more : List Kind) → (params_of t).kinds ++ r ≡ a ∷ more → is_close a ≡ true → (x : Unit {0}) × (t ≡ none_made x)
close_turned (true, []) r a more e h = absurd (not_first is_close (Some k.Void) a (Some k.CloseParen ∷ r) more e h refl)
close_turned (false, []) r a more e h = (tt, refl)
close_turned (true, p ∷ ps) r a more e h = absurd (listed_no_close p ps r a more e h)
close_turned (false, p ∷ ps) r a more e h = absurd (listed_no_close p ps r a more e h)

close_turn : TurnIf (tok k.CloseParen) params_of none_made is_close
close_turn = record { same = λ x. refl; turn = λ t r a more e h z. close_turned t r a more e h; begins = λ x. (Some k.CloseParen, ([], refl, refl)) }

pub no_params_at : (s : Source) (at room : ℕ) → kind_at s.tokens at ≡ Some k.CloseParen → ReadsAt params_of s at room (false, []) (at + 1)
no_params_at s at room e = turn_if_at (tok k.CloseParen) params_of none_made is_close close_turn s at (at + 1) room tt (tok_at s at room k.CloseParen e)

-- ---- `void )`
abbrev pub void_parts : Unit {0} × Unit {0} → Said
void_parts = seq (tok k.Void) (tok k.CloseParen)

abbrev pub void_made : Unit {0} × Unit {0} → Bool × List Param
void_made x = (true, [])

close_least : Least (tok k.CloseParen)
close_least = record { tree = tt; flat = refl; nearest = refl }

void_turned : (t : Bool × List Param) (r more : List Kind) → (params_of t).kinds ++ r ≡ Some k.Void ∷ Some k.CloseParen ∷ more → (x : Unit {0} × Unit {0}) × (t ≡ void_made x)
void_turned (true, []) r more e = ((tt, tt), refl)
void_turned (false, []) r more e = absurd (cc)
void_turned (true, p ∷ ps) r more e = absurd (listed_no_void p ps r more e)
void_turned (false, p ∷ ps) r more e = absurd (listed_no_void p ps r more e)

void_turn : Turn void_parts params_of void_made (Some k.Void ∷ Some k.CloseParen ∷ [])
void_turn = record { same = λ x. refl; turn = λ t r more e z. void_turned t r more e; begins = λ x. ([], refl) }

two_further : (at : ℕ) → at + 1 + 1 ≡ at + 2
two_further at = omega arith

pub void_params_at : (s : Source) (at room : ℕ) → kind_at s.tokens at ≡ Some k.Void → kind_at s.tokens (at + 1) ≡ Some k.CloseParen → ReadsAt params_of s at room (true, []) (at + 2)
void_params_at s at room e i =
    subst (ReadsAt params_of s at room (true, [])) (two_further at)
    (turn_at void_parts params_of void_made (Some k.Void ∷ Some k.CloseParen ∷ []) void_turn s at (at + 1 + 1) room (tt, tt)
    (joined_at (tok k.Void) (tok k.CloseParen) void_parts (word_joined k.Void (tok k.CloseParen) close_least) s at (at + 1) (at + 1 + 1) room tt tt (tok_at s at room k.Void e) (tok_at s (at + 1) room k.CloseParen i)))

-- ---- a parameter, and those behind it
abbrev pub listed_made : Param × List Param → Bool × List Param
listed_made x = (false, x.0 ∷ x.1)

-- whether a parameter begins here, by the two next tokens
abbrev pub is_param : Kind → Kind → Bool
is_param (Some k.CloseParen) _ = false
is_param (Some k.Void) (Some k.CloseParen) = false
is_param _ _ = true

abbrev pub is_listed : List Kind → Bool
is_listed [] = false
is_listed (a ∷ []) = is_param a None
is_listed (a ∷ b ∷ r) = is_param a b

close_unlisted : (r : List Kind) → is_listed (Some k.CloseParen ∷ r) ≡ false
close_unlisted [] = refl
close_unlisted (b ∷ r) = refl

listed_turned : (t : Bool × List Param) (r : List Kind) → is_listed ((params_of t).kinds ++ r) ≡ true → (params_of t).strays ≡ 0 → (x : Param × List Param) × (t ≡ listed_made x)
listed_turned (true, []) r e z = absurd (cc)
listed_turned (false, []) r e z = absurd (let fails = close_unlisted r in cc)
listed_turned (true, p ∷ ps) r e z = absurd (omega arith)
listed_turned (false, p ∷ ps) r e z = ((p, ps), refl)

starred_listed : (b : Base) (n : ℕ) (w r : List Kind) → is_listed (Some (base_kind b) ∷ (((star_kinds n ++ Some k.Name ∷ []) ++ w) ++ r)) ≡ true
starred_listed base.Int zero w r = refl
starred_listed base.Int (suc n) w r = refl
starred_listed base.Char zero w r = refl
starred_listed base.Char (suc n) w r = refl
starred_listed base.Void zero w r = refl
starred_listed base.Void (suc n) w r = refl

listed_ahead : Ahead listed_params params_of listed_made is_listed
listed_ahead = record {
  same = λ x. refl;
  turn = listed_turned;
  begins = λ x r h. ap is_listed (listed_tail x.0 x.1 r) ∙ starred_listed x.0.base x.0.stars (more_params x.1).kinds r;
}

pub params_at : (s : Source) (at middle next room : ℕ) (p : Param) (ps : List Param) → ReadsAt param_said s at room p middle → ReadsAt more_params s middle room ps next → ReadsAt params_of s at room (false, p ∷ ps) next
params_at s at middle next room p ps r t = ahead_at listed_params params_of listed_made is_listed listed_ahead s at next room (p, ps) (joined_at param_said more_params listed_params listed_joined s at middle next room p ps r t)

-- ---- which it is
-- no bracket, and no `void` before one
pub record IsListed (s : Source) (at : ℕ) : Type 0 where
  pub unclosed : kind_at s.tokens at ≢ Some k.CloseParen
  pub unvoided : SaysVoid s.tokens at → ⊥

param_by : (a b : Kind) → a ≢ Some k.CloseParen → (a ≡ Some k.Void → b ≢ Some k.CloseParen) → is_param a b ≡ true
param_by (Some k.CloseParen) b f g = absurd (f refl)
param_by (Some k.Void) (Some k.CloseParen) f g = absurd (g refl refl)
param_by _ _ f g = refl

by_two : (a : Kind) (rest : List Kind) → ((b : Kind) → is_param a b ≡ true) → is_listed (a ∷ rest) ≡ true
by_two a [] f = f None
by_two a (b ∷ rest) f = f b

void_two : (s : Source) (at : ℕ) → kind_at s.tokens at ≡ Some k.Void → kind_at s.tokens (at + 1) ≢ Some k.CloseParen → is_listed (from s.tokens at) ≡ true
void_two s at e other =
    let m = from_more s at k.Void e in
    let n = from_some s (at + 1) in
    ap is_listed (m.0 ∙ ap (λ w. Some k.Void ∷ w) n.1) ∙ param_by (Some k.Void) (kind_at s.tokens (at + 1)) (λ h. void_no_close h) (λ h. other)
  where
    void_no_close : Some k.Void ≢ Some k.CloseParen
    void_no_close h = cc

-- the first token is `void`, or it isn't
is_void_or : (a : Kind) → (a ≡ Some k.Void → ⊥) ⊎ (a ≡ Some k.Void)
is_void_or (Some k.Void) = inr refl
is_void_or _ = inl (λ h. cc)

listed_here : (s : Source) (at : ℕ) → IsListed s at → is_listed (from s.tokens at) ≡ true
listed_here s at is =
    let n = from_some s at in
    elim (is_void_or (kind_at s.tokens at)) as (λ _. is_listed (from s.tokens at) ≡ true) [
      | inl other ↦ ap is_listed n.1 ∙ by_two (kind_at s.tokens at) n.0 (λ b. param_by (kind_at s.tokens at) b is.unclosed (λ h. absurd (other h)))
      | inr h ↦ void_two s at h (λ i. is.unvoided (h, i))
    ]

not_closed : (bad : Kind) (rest : List Kind) → is_listed (bad ∷ rest) ≡ true → bad ≢ Some k.CloseParen
not_closed bad rest e is =
    let passes : is_listed (Some k.CloseParen ∷ rest) ≡ true = subst (λ a. is_listed (a ∷ rest) ≡ true) is e in
    let fails = close_unlisted rest in
    cc

-- the test is decided by the tokens up to the refused one
decided : (front : List Kind) (bad : Kind) (rest more : List Kind) → is_listed (front ++ bad ∷ rest) ≡ true → (front ≡ [] → bad ≢ Some k.Void) → is_listed (front ++ bad ∷ more) ≡ true
decided [] bad rest more e other = by_two bad more (λ b. param_by bad b (not_closed bad rest e) (λ h. absurd (other refl h)))
decided (a ∷ []) bad rest more e other = e
decided (a ∷ b ∷ front) bad rest more e other = e

-- parameters begin with `void`
void_begins : (input : List Kind) (room : ℕ) (front : List Kind) (bad : Kind) (why : Wrong) → Refuses listed_params input room front bad why → front ≡ [] → bad ≢ Some k.Void
void_begins input room front bad why r empty is =
    r.none (param_of (base.Void, (0, some_name)), []) (None ∷ []) (Some k.Name ∷ Some k.CloseParen ∷ None ∷ []) (sym (ap (λ w. w ++ bad ∷ Some k.Name ∷ Some k.CloseParen ∷ None ∷ []) empty ∙ ap (λ a. a ∷ Some k.Name ∷ Some k.CloseParen ∷ None ∷ []) is)) refl refl (counts_within why room 0 (omega arith))

listed_refused : (s : Source) (at room token : ℕ) (why : Wrong) → IsListed s at → RefusesAt listed_params s at room token why → RefusesAt params_of s at room token why
listed_refused s at room token why is r =
    ahead_refused listed_params params_of listed_made is_listed listed_ahead s at room token why r
    (λ more. decided r.front r.bad r.refuses.rest more (ap is_listed (sym r.refuses.stands) ∙ listed_here s at is) (void_begins (from s.tokens at) room r.front r.bad why r.refuses))

pub param_refused : (s : Source) (at room token : ℕ) (why : Wrong) → IsListed s at → RefusesAt param_said s at room token why → RefusesAt params_of s at room token why
param_refused s at room token why is r = listed_refused s at room token why is (first_refused_at param_said more_params listed_params listed_joined s at room token why r)

pub later_refused : (s : Source) (at middle room : ℕ) (p : Param) (token : ℕ) (why : Wrong) → IsListed s at → ReadsAt param_said s at room p middle → RefusesAt more_params s middle room token why → RefusesAt params_of s at room token why
later_refused s at middle room p token why is r t = listed_refused s at room token why is (second_refused_at param_said more_params listed_params listed_joined s at middle room p token why r t)

-- ---- what parameters say
more_quiet : (ps : List Param) (a : Kind) → (more_params ps).goes_on a ≡ false
more_quiet [] a = refl
more_quiet (p ∷ ps) a = more_quiet ps a

pub params_quiet : (x : Bool × List Param) (a : Kind) → (params_of x).goes_on a ≡ false
params_quiet (true, []) a = refl
params_quiet (false, []) a = refl
params_quiet (true, p ∷ ps) a = more_quiet ps a
params_quiet (false, p ∷ ps) a = more_quiet ps a

param_flat : (p : Param) → (param_said p).levels ≡ 0
param_flat p = let b = base_single.flat p.base in omega arith

more_flat : (ps : List Param) → (more_params ps).levels ≡ 0
more_flat [] = refl
more_flat (p ∷ ps) = let a = param_flat p in let b = more_flat ps in omega arith

-- parameters open no level
pub params_flat : (x : Bool × List Param) → (params_of x).levels ≡ 0
params_flat (true, []) = refl
params_flat (false, []) = refl
params_flat (true, p ∷ ps) = let a = param_flat p in let b = more_flat ps in omega arith
params_flat (false, p ∷ ps) = let a = param_flat p in let b = more_flat ps in omega arith

pub params_least : Least params_of
params_least = record { tree = (false, []); flat = refl; nearest = refl }
