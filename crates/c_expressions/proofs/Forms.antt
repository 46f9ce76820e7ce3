-- The forms of calls, pointers, places and operands, at a place of the tokens.
use Rattle.std.proofs.Common.{◌≡◌, ◌≢◌, ◌∙◌, refl, ap, subst, ℕ, ◌+◌, ◌-◌, Bool, true, false, List, [], ◌∷◌, ◌++◌, Some, arith}
use Rattle.std.specs.Prelude.{◌||◌}
use Rattle.c_lexer.specs.declared.token.TokenKind.TheVariants as k
use Rattle.c_tree.specs.declared.tree.Tok.{Tok}
use Rattle.c_tree.specs.declared.tree.Name.{Name}
use Rattle.c_tree.specs.declared.tree.Call.{Call}
use Rattle.c_tree.specs.declared.tree.Call.TheOpen as o
use Rattle.c_tree.specs.declared.tree.Call.TheVariants as call
use Rattle.c_tree.specs.declared.tree.Place.{Place}
use Rattle.c_tree.specs.declared.tree.Place.TheVariants as place
use Rattle.c_tree.specs.declared.tree.Pointer.{Pointer}
use Rattle.c_tree.specs.declared.tree.Pointer.TheVariants as pointer
use Rattle.c_tree.specs.declared.tree.Expr.{Expr}
use Rattle.c_tree.specs.declared.fault.Wrong.{Wrong}
use Rattle.c_tree.specs.declared.fault.Wrong.TheVariants.{Unexpected, TooDeep}
use Rattle.c_tree.specs.Said.{Kind, Said, is_star, mark, named, nothing}
use Rattle.c_tree.specs.Tokens.{Source, kind_at, tok_of, name_of}
use Rattle.c_tree.specs.Grammar.{is_open, args_of, condition_said, expr_said, call_said, place_said, pointer_said}
use Rattle.c_tree.specs.Reading.{Stops, ReadsAt, RefusesAt, from}
use Rattle.c_tree.proofs.Layers.{CallLayer, call_layer, call_made, call_made_said, call_by_layer, PlaceLayer, place_layer, place_made, place_made_said, place_by_layer, PointerLayer, pointer_layer, pointer_made, pointer_made_said, pointer_by_layer}
use Rattle.c_tree.proofs.Parts.{kind_of, named_single, joined_refused_second, tok, seq, below, Turn, TurnIf, Least}
use Rattle.c_tree.proofs.Places.{behind_token, behind_below, some_name, named_at, turn_at, turn_refused_at, turn_if_at, turn_if_refused_at, from_more, RefusesBehind}
use Rattle.c_tree.proofs.Bare.{Bare, bare_at, bare_begins}
use Rattle.c_tree.proofs.Choices.{suc_pred, single_joined, behind_single_at, not_first, not_headed, unheaded_at, in_level_at, in_level_refused_at, deep_at, deep_behind, from_at, Shallow, behind_tok_at, behind_mark_at, behind_mark_refused_at}
use Rattle.c_expressions.proofs.Heads.{is_place_start, is_call_start, is_pointer_start, call_head, place_head, pointer_head, place_least, pointer_least, expr_least, some_tok}
use Rattle.c_expressions.proofs.Arguments.{args_least, condition_least}

abbrev pub is_name : Kind → Bool
is_name (Some k.Name) = true
is_name _ = false

-- a name that no bracket follows begins no call
call_not_bare : (c : Call) (r r' : List Kind) → (call_said c).kinds ++ r' ≡ Some k.Name ∷ r → Stops (nothing is_open) r → ⊥
call_not_bare = call_by_layer (λ s t. (r r' : List Kind) → s.kinds ++ r' ≡ Some k.Name ∷ r → Stops (nothing is_open) r → ⊥) layer
  where
    opened : (r more : List Kind) → Some k.Name ∷ Some k.OpenParen ∷ more ≡ Some k.Name ∷ r → Stops (nothing is_open) r → ⊥
    opened [] more e h = h
    opened (x ∷ r) more e h = let is : x ≡ Some k.OpenParen = cc in let fails : true ≡ false = subst (λ x. is_open x ≡ false) is h in cc

    layer : (x : CallLayer) (r r' : List Kind) → (call_layer x).kinds ++ r' ≡ Some k.Name ∷ r → Stops (nothing is_open) r → ⊥
    layer (o.Function name args) r r' e h = opened r ((args_of args).kinds ++ r') e h
    layer (o.Malloc t size) r r' e h = not_first is_name (Some k.Malloc) (Some k.Name) ((condition_said size).kinds ++ r') r e refl refl

-- ---- `malloc`
abbrev pub is_malloc : Kind → Bool
is_malloc (Some k.Malloc) = true
is_malloc _ = false

abbrev pub malloc_parts : Tok × Expr → Said
malloc_parts = below (seq (mark k.Malloc) condition_said)

abbrev pub malloc_of : Tok × Expr → Call
malloc_of x = call.Malloc x.0 x.1

-- which of two calls it is, the first token tells
pub malloc_call : (c : Call) (r : List Kind) (kind : Kind) (more : List Kind) → (call_said c).kinds ++ r ≡ kind ∷ more → is_malloc kind ≡ true → (y : Tok × Expr) × (c ≡ malloc_of y)
malloc_call = call_by_layer (λ s t. (r : List Kind) (kind : Kind) (more : List Kind) → s.kinds ++ r ≡ kind ∷ more → is_malloc kind ≡ true → (y : Tok × Expr) × (t ≡ malloc_of y)) layer
  where
    layer : (x : CallLayer) (r : List Kind) (kind : Kind) (more : List Kind) → (call_layer x).kinds ++ r ≡ kind ∷ more → is_malloc kind ≡ true → (y : Tok × Expr) × (call_made x ≡ malloc_of y)
    layer (o.Function name args) r kind more e h = absurd (not_first is_malloc (Some k.Name) kind (Some k.OpenParen ∷ ((args_of args).kinds ++ r)) more e h refl)
    layer (o.Malloc t size) r kind more e h = ((t, size), refl)

pub malloc_at : (s : Source) (at room next : ℕ) (e : Expr) → kind_at s.tokens at ≡ Some k.Malloc → room ≢ 0 → ReadsAt condition_said s (at + 1) (room - 1) e next → ReadsAt malloc_parts s at room (tok_of s.tokens at, e) next
malloc_at s at room next e here some r =
    in_level_at (seq (mark k.Malloc) condition_said) s at next room (tok_of s.tokens at, e) some
    (behind_mark_at condition_said condition_least s at (room - 1) k.Malloc here next e r)

pub malloc_refused_at : (s : Source) (at room token : ℕ) (why : Wrong) → kind_at s.tokens at ≡ Some k.Malloc → room ≢ 0 → RefusesAt condition_said s (at + 1) (room - 1) token why → RefusesAt malloc_parts s at room token why
malloc_refused_at s at room token why here some r =
    in_level_refused_at (seq (mark k.Malloc) condition_said) s at room token why some
    (behind_mark_refused_at condition_said condition_least s at (room - 1) k.Malloc here token why r)

pub malloc_shallow : Shallow malloc_parts (Some k.Malloc)
malloc_shallow =
    let n = expr_least.flat in let z = expr_least.nearest in
    record { tree = (some_tok, expr_least.tree); tail = (condition_said expr_least.tree).kinds; spelled = refl; one = omega arith; nearest = omega arith }

-- ---- a name alone
pointer_bare_turned : (x : PointerLayer) (r r' : List Kind) → (pointer_layer x).kinds ++ r' ≡ Some k.Name ∷ r → Stops (nothing is_open) r → (n : Name) × (pointer_made x ≡ pointer.Name n)
pointer_bare_turned (o.Pointer::Name name) r r' e h = (name, refl)
pointer_bare_turned (o.Pointer::Star t inner) r r' e h = absurd (not_first is_name (Some k.Star) (Some k.Name) ((pointer_said inner).kinds ++ r') r e refl refl)
pointer_bare_turned (o.Pointer::Call c) r r' e h = absurd (call_not_bare c r r' e h)
pointer_bare_turned (o.Pointer::Paren i) r r' e h = absurd (not_first is_name (Some k.OpenParen) (Some k.Name) (((expr_said i).kinds ++ Some k.CloseParen ∷ []) ++ r') r e refl refl)

pointer_bare : Bare pointer_said pointer.Name
pointer_bare = record {
  same = λ n. pointer_made_said (o.Pointer::Name n);
  turn = pointer_by_layer (λ s t. (r r' : List Kind) → s.kinds ++ r' ≡ Some k.Name ∷ r → Stops (nothing is_open) r → (n : Name) × (t ≡ pointer.Name n)) pointer_bare_turned;
}

place_bare_turned : (x : PlaceLayer) (r r' : List Kind) → (place_layer x).kinds ++ r' ≡ Some k.Name ∷ r → (n : Name) × (place_made x ≡ place.Name n)
place_bare_turned (o.Place::Name name) r r' e = (name, refl)
place_bare_turned (o.Place::Star t inner) r r' e = absurd (not_first is_name (Some k.Star) (Some k.Name) ((pointer_said inner).kinds ++ r') r e refl refl)

place_bare : Bare place_said place.Name
place_bare = record {
  same = λ n. place_made_said (o.Place::Name n);
  turn = place_by_layer (λ s t. (r r' : List Kind) → s.kinds ++ r' ≡ Some k.Name ∷ r → Stops (nothing is_open) r → (n : Name) × (t ≡ place.Name n)) (λ x r r' e h. place_bare_turned x r r' e);
}

pub pointer_name_at : (s : Source) (at room : ℕ) → kind_at s.tokens at ≡ Some k.Name → is_open (kind_at s.tokens (at + 1)) ≡ false → ReadsAt pointer_said s at room (pointer.Name (name_of s at)) (at + 1)
pointer_name_at s at room e no_open = bare_at pointer_said pointer.Name pointer_bare s at room e no_open

pub place_name_at : (s : Source) (at room : ℕ) → kind_at s.tokens at ≡ Some k.Name → is_open (kind_at s.tokens (at + 1)) ≡ false → ReadsAt place_said s at room (place.Name (name_of s at)) (at + 1)
place_name_at s at room e no_open = bare_at place_said place.Name place_bare s at room e no_open

-- a name before a bracket is no place
open_no_place : (t : Place) (r more : List Kind) → (place_said t).kinds ++ r ≡ Some k.Name ∷ Some k.OpenParen ∷ more → Stops (place_said t) r → ⊥
open_no_place = place_by_layer (λ s t. (r more : List Kind) → s.kinds ++ r ≡ Some k.Name ∷ Some k.OpenParen ∷ more → Stops s r → ⊥) layer
  where
    layer : (x : PlaceLayer) (r more : List Kind) → (place_layer x).kinds ++ r ≡ Some k.Name ∷ Some k.OpenParen ∷ more → Stops (place_layer x) r → ⊥
    layer (o.Place::Name name) [] more e h = h
    layer (o.Place::Name name) (x ∷ r) more e h = let is : x ≡ Some k.OpenParen = cc in let fails : true ≡ false = subst (λ x. (is_open x || false) ≡ false) is h in cc
    layer (o.Place::Star t inner) r more e h = not_first is_name (Some k.Star) (Some k.Name) ((pointer_said inner).kinds ++ r) (Some k.OpenParen ∷ more) e refl refl

pub place_no_call_at : (s : Source) (at room : ℕ) → kind_at s.tokens at ≡ Some k.Name → kind_at s.tokens (at + 1) ≡ Some k.OpenParen → RefusesAt place_said s at room (at + 1) Unexpected
place_no_call_at s at room e i =
    let m = from_more s at k.Name e in
    let f = from_at s (at + 1) (Some k.OpenParen) i in
    record {
      front = Some k.Name ∷ [];
      bad = Some k.OpenParen;
      refuses = record {
        rest = f.0;
        stands = m.0 ∙ ap (λ w. Some k.Name ∷ w) f.1;
        some = bare_begins place_said place.Name place_bare room;
        none = λ t r more e h z c. open_no_place t r more e h;
        deep = tt;
      };
      place = refl;
    }

-- ---- a call of a function
abbrev pub function_args : Unit {0} × List Expr → Said
function_args = seq (tok k.OpenParen) args_of

function_args_least : Least function_args
function_args_least = record { tree = (tt, []); flat = refl; nearest = refl }

abbrev pub function_parts : Name × (Unit {0} × List Expr) → Said
function_parts = below (seq named function_args)

abbrev pub function_of : Name × (Unit {0} × List Expr) → Call
function_of x = call.Function x.0 x.1.1

-- what stands behind a name and a bracket, refused
pub function_behind : (s : Source) (at room token : ℕ) (why : Wrong) → kind_at s.tokens at ≡ Some k.Name → kind_at s.tokens (at + 1) ≡ Some k.OpenParen → room ≢ 0 → RefusesAt args_of s (at + 2) (room - 1) token why → RefusesBehind function_parts (Some k.Name ∷ Some k.OpenParen ∷ []) s at room token why
function_behind s at room token why e i some r =
    let two : at + 2 ≡ at + 1 + 1 = omega arith in
    let r' = subst (λ n. RefusesAt args_of s n (room - 1) token why) two r in
    let b = behind_token args_of args_least k.OpenParen s (at + 1) (room - 1) token why i r' in
    let p = b.place in
    let n = named_at s at (room - 1) e in
    subst (λ n. RefusesBehind function_parts (Some k.Name ∷ Some k.OpenParen ∷ []) s at n token why) (suc_pred room some)
    (behind_below (seq named function_args) (Some k.Name ∷ Some k.OpenParen ∷ []) s at (room - 1) token why
    (record {
      front = b.front;
      bad = b.bad;
      refuses = joined_refused_second named function_args (seq named function_args) (single_joined named (kind_of k.Name) named_single function_args function_args_least) (from s.tokens at) (from s.tokens (at + 1)) (room - 1) (name_of s at) (Some k.OpenParen ∷ b.front) b.bad why n.reads b.refuses;
      place = omega arith;
    }))

pub function_at : (s : Source) (at room next : ℕ) (args : List Expr) → kind_at s.tokens at ≡ Some k.Name → kind_at s.tokens (at + 1) ≡ Some k.OpenParen → room ≢ 0 → ReadsAt args_of s (at + 2) (room - 1) args next → ReadsAt function_parts s at room (name_of s at, (tt, args)) next
function_at s at room next args e i some r =
    let two : at + 2 ≡ at + 1 + 1 = omega arith in
    let r' = subst (λ n. ReadsAt args_of s n (room - 1) args next) two r in
    in_level_at (seq named function_args) s at next room (name_of s at, (tt, args)) some
    (behind_single_at named (kind_of k.Name) named_single function_args function_args_least s at next (room - 1) (name_of s at) (tt, args) (named_at s at (room - 1) e)
    (behind_tok_at args_of args_least s (at + 1) (room - 1) k.OpenParen i next args r'))

pub function_call : (c : Call) (r more : List Kind) → (call_said c).kinds ++ r ≡ Some k.Name ∷ Some k.OpenParen ∷ more → (x : Name × (Unit {0} × List Expr)) × (c ≡ function_of x)
function_call = call_by_layer (λ s t. (r more : List Kind) → s.kinds ++ r ≡ Some k.Name ∷ Some k.OpenParen ∷ more → (x : Name × (Unit {0} × List Expr)) × (t ≡ function_of x)) layer
  where
    layer : (x : CallLayer) (r more : List Kind) → (call_layer x).kinds ++ r ≡ Some k.Name ∷ Some k.OpenParen ∷ more → (y : Name × (Unit {0} × List Expr)) × (call_made x ≡ function_of y)
    layer (o.Function name args) r more e = ((name, (tt, args)), refl)
    layer (o.Malloc t size) r more e = absurd (not_first is_name (Some k.Malloc) (Some k.Name) ((condition_said size).kinds ++ r) (Some k.OpenParen ∷ more) e refl refl)

abbrev pub call_pointer : Name × (Unit {0} × List Expr) → Pointer
call_pointer x = pointer.Call (function_of x)

pointer_function : (x : PointerLayer) (r more : List Kind) → (pointer_layer x).kinds ++ r ≡ Some k.Name ∷ Some k.OpenParen ∷ more → Stops (pointer_layer x) r → (y : Name × (Unit {0} × List Expr)) × (pointer_made x ≡ call_pointer y)
pointer_function (o.Pointer::Name name) [] more e h = absurd h
pointer_function (o.Pointer::Name name) (x ∷ r) more e h = let is : x ≡ Some k.OpenParen = cc in let fails : true ≡ false = subst (λ x. (is_open x || false) ≡ false) is h in absurd (cc)
pointer_function (o.Pointer::Star t inner) r more e h = absurd (not_first is_name (Some k.Star) (Some k.Name) ((pointer_said inner).kinds ++ r) (Some k.OpenParen ∷ more) e refl refl)
pointer_function (o.Pointer::Call c) r more e h = let f = function_call c r more e in (f.0, ap pointer.Call f.1)
pointer_function (o.Pointer::Paren i) r more e h = absurd (not_first is_name (Some k.OpenParen) (Some k.Name) (((expr_said i).kinds ++ Some k.CloseParen ∷ []) ++ r) (Some k.OpenParen ∷ more) e refl refl)

pointer_function_turn : Turn function_parts pointer_said call_pointer (Some k.Name ∷ Some k.OpenParen ∷ [])
pointer_function_turn = record {
  same = λ x. pointer_made_said (o.Pointer::Call (function_of x)) ∙ call_made_said (o.Function x.0 x.1.1);
  turn = pointer_by_layer (λ s t. (r more : List Kind) → s.kinds ++ r ≡ Some k.Name ∷ Some k.OpenParen ∷ more → Stops s r → (y : Name × (Unit {0} × List Expr)) × (t ≡ call_pointer y)) pointer_function;
  begins = λ x. ((args_of x.1.1).kinds, refl);
}

pub pointer_function_at : (s : Source) (at room next : ℕ) (args : List Expr) → kind_at s.tokens at ≡ Some k.Name → kind_at s.tokens (at + 1) ≡ Some k.OpenParen → room ≢ 0 → ReadsAt args_of s (at + 2) (room - 1) args next → ReadsAt pointer_said s at room (pointer.Call (call.Function (name_of s at) args)) next
pointer_function_at s at room next args e i some r = turn_at function_parts pointer_said call_pointer (Some k.Name ∷ Some k.OpenParen ∷ []) pointer_function_turn s at next room (name_of s at, (tt, args)) (function_at s at room next args e i some r)

pub pointer_function_refused_at : (s : Source) (at room token : ℕ) (why : Wrong) → kind_at s.tokens at ≡ Some k.Name → kind_at s.tokens (at + 1) ≡ Some k.OpenParen → room ≢ 0 → RefusesAt args_of s (at + 2) (room - 1) token why → RefusesAt pointer_said s at room token why
pointer_function_refused_at s at room token why e i some r = turn_refused_at function_parts pointer_said call_pointer (Some k.Name ∷ Some k.OpenParen ∷ []) pointer_function_turn s at room token why (function_behind s at room token why e i some r)

pub pointer_function_deep_at : (s : Source) (at room : ℕ) → kind_at s.tokens at ≡ Some k.Name → kind_at s.tokens (at + 1) ≡ Some k.OpenParen → room ≡ 0 → RefusesAt pointer_said s at room (at + 1) TooDeep
pointer_function_deep_at s at room e i z =
    let m = from_more s at k.Name e in
    let f = from_at s (at + 1) (Some k.OpenParen) i in
    deep_behind function_parts pointer_said call_pointer (Some k.Name ∷ []) (Some k.OpenParen) pointer_function_turn (λ x. omega arith) (some_name, (tt, [])) (omega arith) refl (bare_begins pointer_said pointer.Name pointer_bare 0) s at room f.0 (m.0 ∙ ap (λ w. Some k.Name ∷ w) f.1) z

-- ---- `malloc` behind a star
abbrev pub malloc_pointer : Tok × Expr → Pointer
malloc_pointer x = pointer.Call (malloc_of x)

pointer_malloc : (x : PointerLayer) (r : List Kind) (kind : Kind) (more : List Kind) → (pointer_layer x).kinds ++ r ≡ kind ∷ more → is_malloc kind ≡ true → (y : Tok × Expr) × (pointer_made x ≡ malloc_pointer y)
pointer_malloc (o.Pointer::Name name) r kind more e h = absurd (not_first is_malloc (Some k.Name) kind r more e h refl)
pointer_malloc (o.Pointer::Star t inner) r kind more e h = absurd (not_first is_malloc (Some k.Star) kind ((pointer_said inner).kinds ++ r) more e h refl)
pointer_malloc (o.Pointer::Call c) r kind more e h = let f = malloc_call c r kind more e h in (f.0, ap pointer.Call f.1)
pointer_malloc (o.Pointer::Paren i) r kind more e h = absurd (not_first is_malloc (Some k.OpenParen) kind (((expr_said i).kinds ++ Some k.CloseParen ∷ []) ++ r) more e h refl)

pointer_malloc_turn : TurnIf malloc_parts pointer_said malloc_pointer is_malloc
pointer_malloc_turn = record {
  same = λ x. pointer_made_said (o.Pointer::Call (malloc_of x)) ∙ call_made_said (o.Malloc x.0 x.1);
  turn = pointer_by_layer (λ s t. (r : List Kind) (kind : Kind) (more : List Kind) → s.kinds ++ r ≡ kind ∷ more → is_malloc kind ≡ true → Stops s r → (y : Tok × Expr) × (t ≡ malloc_pointer y)) (λ x r kind more e h s. pointer_malloc x r kind more e h);
  begins = λ x. (Some k.Malloc, ((condition_said x.1).kinds, refl, refl));
}

pub pointer_malloc_at : (s : Source) (at room next : ℕ) (e : Expr) → kind_at s.tokens at ≡ Some k.Malloc → room ≢ 0 → ReadsAt condition_said s (at + 1) (room - 1) e next → ReadsAt pointer_said s at room (pointer.Call (call.Malloc (tok_of s.tokens at) e)) next
pointer_malloc_at s at room next e here some r = turn_if_at malloc_parts pointer_said malloc_pointer is_malloc pointer_malloc_turn s at next room (tok_of s.tokens at, e) (malloc_at s at room next e here some r)

pub pointer_malloc_refused_at : (s : Source) (at room token : ℕ) (why : Wrong) → kind_at s.tokens at ≡ Some k.Malloc → room ≢ 0 → RefusesAt condition_said s (at + 1) (room - 1) token why → RefusesAt pointer_said s at room token why
pointer_malloc_refused_at s at room token why here some r = turn_if_refused_at malloc_parts pointer_said malloc_pointer is_malloc pointer_malloc_turn s at room token why (ap is_malloc here) (malloc_refused_at s at room token why here some r)

pub pointer_malloc_deep_at : (s : Source) (at room : ℕ) → kind_at s.tokens at ≡ Some k.Malloc → room ≡ 0 → RefusesAt pointer_said s at room at TooDeep
pointer_malloc_deep_at s at room e z = deep_at malloc_parts pointer_said malloc_pointer is_malloc pointer_malloc_turn (λ x. omega arith) k.Malloc malloc_shallow refl pointer_least s at room e z

-- ---- a star and what it points through
abbrev pub star_parts : Tok × Pointer → Said
star_parts = below (seq (mark k.Star) pointer_said)

star_shallow : Shallow star_parts (Some k.Star)
star_shallow =
    let n = pointer_least.flat in let z = pointer_least.nearest in
    record { tree = (some_tok, pointer_least.tree); tail = (pointer_said pointer_least.tree).kinds; spelled = refl; one = omega arith; nearest = omega arith }

call_no_star : (kind : Kind) → is_star kind ≡ true → is_call_start kind ≡ false
call_no_star (Some k.Star) e = refl
call_no_star _ e = absurd (cc)

abbrev pub star_pointer : Tok × Pointer → Pointer
star_pointer x = pointer.Star x.0 x.1

pointer_star : (x : PointerLayer) (r : List Kind) (kind : Kind) (more : List Kind) → (pointer_layer x).kinds ++ r ≡ kind ∷ more → is_star kind ≡ true → (y : Tok × Pointer) × (pointer_made x ≡ star_pointer y)
pointer_star (o.Pointer::Name name) r kind more e h = absurd (not_first is_star (Some k.Name) kind r more e h refl)
pointer_star (o.Pointer::Star t inner) r kind more e h = ((t, inner), refl)
pointer_star (o.Pointer::Call c) r kind more e h = absurd (not_headed is_star is_call_start (call_said c) (call_head c) call_no_star r kind more e h)
pointer_star (o.Pointer::Paren i) r kind more e h = absurd (not_first is_star (Some k.OpenParen) kind (((expr_said i).kinds ++ Some k.CloseParen ∷ []) ++ r) more e h refl)

pointer_star_turn : TurnIf star_parts pointer_said star_pointer is_star
pointer_star_turn = record {
  same = λ x. pointer_made_said (o.Pointer::Star x.0 x.1);
  turn = pointer_by_layer (λ s t. (r : List Kind) (kind : Kind) (more : List Kind) → s.kinds ++ r ≡ kind ∷ more → is_star kind ≡ true → Stops s r → (y : Tok × Pointer) × (t ≡ star_pointer y)) (λ x r kind more e h s. pointer_star x r kind more e h);
  begins = λ x. (Some k.Star, ((pointer_said x.1).kinds, refl, refl));
}

abbrev pub star_place : Tok × Pointer → Place
star_place x = place.Star x.0 x.1

place_star : (x : PlaceLayer) (r : List Kind) (kind : Kind) (more : List Kind) → (place_layer x).kinds ++ r ≡ kind ∷ more → is_star kind ≡ true → (y : Tok × Pointer) × (place_made x ≡ star_place y)
place_star (o.Place::Name name) r kind more e h = absurd (not_first is_star (Some k.Name) kind r more e h refl)
place_star (o.Place::Star t inner) r kind more e h = ((t, inner), refl)

place_star_turn : TurnIf star_parts place_said star_place is_star
place_star_turn = record {
  same = λ x. place_made_said (o.Place::Star x.0 x.1);
  turn = place_by_layer (λ s t. (r : List Kind) (kind : Kind) (more : List Kind) → s.kinds ++ r ≡ kind ∷ more → is_star kind ≡ true → Stops s r → (y : Tok × Pointer) × (t ≡ star_place y)) (λ x r kind more e h s. place_star x r kind more e h);
  begins = λ x. (Some k.Star, ((pointer_said x.1).kinds, refl, refl));
}

-- the same for what has a star in front
module _ {T : Type 0} (st : T → Said) (C : Tok × Pointer → T) (turn : TurnIf star_parts st C is_star) (least : Least st) (s : Source) (at room : ℕ) (here : kind_at s.tokens at ≡ Some k.Star) where
  starred_at : (next : ℕ) (p : Pointer) → room ≢ 0 → ReadsAt pointer_said s (at + 1) (room - 1) p next → ReadsAt st s at room (C (tok_of s.tokens at, p)) next
  starred_at next p some r =
      turn_if_at star_parts st C is_star turn s at next room (tok_of s.tokens at, p)
      (in_level_at (seq (mark k.Star) pointer_said) s at next room (tok_of s.tokens at, p) some
      (behind_mark_at pointer_said pointer_least s at (room - 1) k.Star here next p r))

  starred_refused_at : (token : ℕ) (why : Wrong) → room ≢ 0 → RefusesAt pointer_said s (at + 1) (room - 1) token why → RefusesAt st s at room token why
  starred_refused_at token why some r =
      turn_if_refused_at star_parts st C is_star turn s at room token why (ap is_star here)
      (in_level_refused_at (seq (mark k.Star) pointer_said) s at room token why some
      (behind_mark_refused_at pointer_said pointer_least s at (room - 1) k.Star here token why r))

  starred_deep_at : room ≡ 0 → RefusesAt st s at room at TooDeep
  starred_deep_at z = deep_at star_parts st C is_star turn (λ x. omega arith) k.Star star_shallow refl least s at room here z

pub pointer_star_at : (s : Source) (at room next : ℕ) (p : Pointer) → kind_at s.tokens at ≡ Some k.Star → room ≢ 0 → ReadsAt pointer_said s (at + 1) (room - 1) p next → ReadsAt pointer_said s at room (pointer.Star (tok_of s.tokens at) p) next
pointer_star_at s at room next p e some r = starred_at pointer_said star_pointer pointer_star_turn pointer_least s at room e next p some r

pub pointer_star_refused_at : (s : Source) (at room token : ℕ) (why : Wrong) → kind_at s.tokens at ≡ Some k.Star → room ≢ 0 → RefusesAt pointer_said s (at + 1) (room - 1) token why → RefusesAt pointer_said s at room token why
pointer_star_refused_at s at room token why e some r = starred_refused_at pointer_said star_pointer pointer_star_turn pointer_least s at room e token why some r

pub pointer_star_deep_at : (s : Source) (at room : ℕ) → kind_at s.tokens at ≡ Some k.Star → room ≡ 0 → RefusesAt pointer_said s at room at TooDeep
pointer_star_deep_at s at room e z = starred_deep_at pointer_said star_pointer pointer_star_turn pointer_least s at room e z

pub place_star_at : (s : Source) (at room next : ℕ) (p : Pointer) → kind_at s.tokens at ≡ Some k.Star → room ≢ 0 → ReadsAt pointer_said s (at + 1) (room - 1) p next → ReadsAt place_said s at room (place.Star (tok_of s.tokens at) p) next
place_star_at s at room next p e some r = starred_at place_said star_place place_star_turn place_least s at room e next p some r

pub place_star_refused_at : (s : Source) (at room token : ℕ) (why : Wrong) → kind_at s.tokens at ≡ Some k.Star → room ≢ 0 → RefusesAt pointer_said s (at + 1) (room - 1) token why → RefusesAt place_said s at room token why
place_star_refused_at s at room token why e some r = starred_refused_at place_said star_place place_star_turn place_least s at room e token why some r

pub place_star_deep_at : (s : Source) (at room : ℕ) → kind_at s.tokens at ≡ Some k.Star → room ≡ 0 → RefusesAt place_said s at room at TooDeep
place_star_deep_at s at room e z = starred_deep_at place_said star_place place_star_turn place_least s at room e z

-- ---- brackets
abbrev pub paren_parts : Expr → Said
paren_parts = below condition_said

call_no_open : (kind : Kind) → is_open kind ≡ true → is_call_start kind ≡ false
call_no_open (Some k.OpenParen) e = refl
call_no_open _ e = absurd (cc)

pointer_paren : (x : PointerLayer) (r : List Kind) (kind : Kind) (more : List Kind) → (pointer_layer x).kinds ++ r ≡ kind ∷ more → is_open kind ≡ true → (y : Expr) × (pointer_made x ≡ pointer.Paren y)
pointer_paren (o.Pointer::Name name) r kind more e h = absurd (not_first is_open (Some k.Name) kind r more e h refl)
pointer_paren (o.Pointer::Star t inner) r kind more e h = absurd (not_first is_open (Some k.Star) kind ((pointer_said inner).kinds ++ r) more e h refl)
pointer_paren (o.Pointer::Call c) r kind more e h = absurd (not_headed is_open is_call_start (call_said c) (call_head c) call_no_open r kind more e h)
pointer_paren (o.Pointer::Paren i) r kind more e h = (i, refl)

pointer_paren_turn : TurnIf paren_parts pointer_said pointer.Paren is_open
pointer_paren_turn = record {
  same = λ x. pointer_made_said (o.Pointer::Paren x);
  turn = pointer_by_layer (λ s t. (r : List Kind) (kind : Kind) (more : List Kind) → s.kinds ++ r ≡ kind ∷ more → is_open kind ≡ true → Stops s r → (y : Expr) × (t ≡ pointer.Paren y)) (λ x r kind more e h s. pointer_paren x r kind more e h);
  begins = λ x. (Some k.OpenParen, ((expr_said x).kinds ++ Some k.CloseParen ∷ [], refl, refl));
}

pub pointer_paren_at : (s : Source) (at room next : ℕ) (e : Expr) → room ≢ 0 → ReadsAt condition_said s at (room - 1) e next → ReadsAt pointer_said s at room (pointer.Paren e) next
pointer_paren_at s at room next e some r = turn_if_at paren_parts pointer_said pointer.Paren is_open pointer_paren_turn s at next room e (in_level_at condition_said s at next room e some r)

pub pointer_paren_refused_at : (s : Source) (at room token : ℕ) (why : Wrong) → kind_at s.tokens at ≡ Some k.OpenParen → room ≢ 0 → RefusesAt condition_said s at (room - 1) token why → RefusesAt pointer_said s at room token why
pointer_paren_refused_at s at room token why e some r = turn_if_refused_at paren_parts pointer_said pointer.Paren is_open pointer_paren_turn s at room token why (ap is_open e) (in_level_refused_at condition_said s at room token why some r)

paren_shallow : Shallow paren_parts (Some k.OpenParen)
paren_shallow =
    let n = expr_least.flat in let z = expr_least.nearest in
    record { tree = expr_least.tree; tail = (expr_said expr_least.tree).kinds ++ Some k.CloseParen ∷ []; spelled = refl; one = omega arith; nearest = omega arith }

pub pointer_paren_deep_at : (s : Source) (at room : ℕ) → kind_at s.tokens at ≡ Some k.OpenParen → room ≡ 0 → RefusesAt pointer_said s at room at TooDeep
pointer_paren_deep_at s at room e z = deep_at paren_parts pointer_said pointer.Paren is_open pointer_paren_turn (λ x. omega arith) k.OpenParen paren_shallow refl pointer_least s at room e z

-- ---- no pointer, no place
pub no_pointer_at : (s : Source) (at room : ℕ) → is_pointer_start (kind_at s.tokens at) ≡ false → RefusesAt pointer_said s at room at Unexpected
no_pointer_at s at room fails = unheaded_at pointer_said is_pointer_start pointer_head pointer_least s at room fails

pub no_place_at : (s : Source) (at room : ℕ) → is_place_start (kind_at s.tokens at) ≡ false → RefusesAt place_said s at room at Unexpected
no_place_at s at room fails = unheaded_at place_said is_place_start place_head place_least s at room fails

pub not_pointer : (kind : Kind) → kind ≢ Some k.Name → kind ≢ Some k.Star → kind ≢ Some k.OpenParen → kind ≢ Some k.Malloc → is_pointer_start kind ≡ false
not_pointer (Some k.Name) a b c d = absurd (a refl)
not_pointer (Some k.Star) a b c d = absurd (b refl)
not_pointer (Some k.OpenParen) a b c d = absurd (c refl)
not_pointer (Some k.Malloc) a b c d = absurd (d refl)
not_pointer _ a b c d = refl

pub not_place : (kind : Kind) → kind ≢ Some k.Name → kind ≢ Some k.Star → is_place_start kind ≡ false
not_place (Some k.Name) a b = absurd (a refl)
not_place (Some k.Star) a b = absurd (b refl)
not_place _ a b = refl
