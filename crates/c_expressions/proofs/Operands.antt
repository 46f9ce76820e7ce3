-- The forms of an operand, at a place of the tokens.
use Rattle.std.proofs.Common.{◌≡◌, ◌≢◌, ◌∙◌, refl, sym, ap, ℕ, ◌+◌, Bool, true, false, List, [], ◌∷◌, ◌++◌, Some}
use Rattle.c_lexer.specs.declared.token.TokenKind.TheVariants as k
use Rattle.c_tree.specs.declared.tree.Tok.{Tok}
use Rattle.c_tree.specs.declared.tree.Call.TheOpen as o
use Rattle.c_tree.specs.declared.tree.Place.{Place}
use Rattle.c_tree.specs.declared.tree.Place.TheVariants as place
use Rattle.c_tree.specs.declared.tree.Pointer.{Pointer, out-roll-Pointer}
use Rattle.c_tree.specs.declared.tree.Pointer.TheVariants as pointer
use Rattle.c_tree.specs.declared.tree.Unary.{Unary}
use Rattle.c_tree.specs.declared.tree.Unary.TheVariants as unary
use Rattle.c_tree.specs.declared.fault.Wrong.{Wrong}
use Rattle.c_tree.specs.Said.{Kind, Said, mark}
use Rattle.c_tree.specs.Tokens.{Source, kind_at, tok_of}
use Rattle.c_tree.specs.Grammar.{expr_said, call_said, place_said, pointer_said, unary_said}
use Rattle.c_tree.specs.Reading.{Stops, ReadsAt, RefusesAt}
use Rattle.c_tree.proofs.Layers.{PlaceLayer, place_made, place_made_said, place_by_layer, PointerLayer, pointer_layer, pointer_made, pointer_rolls, pointer_by_layer, UnaryLayer, unary_layer, unary_made, unary_made_said, unary_by_layer}
use Rattle.c_tree.proofs.Parts.{seq, TurnIf}
use Rattle.c_tree.proofs.Places.{mark_at, turn_if_at, turn_if_refused_at}
use Rattle.c_tree.proofs.Choices.{not_first, not_headed, behind_mark_at, behind_mark_refused_at}
use Rattle.c_expressions.specs.Pointers.{of_layer, unary_of}
use Rattle.c_expressions.proofs.Heads.{is_place_start, is_call_start, is_pointer_start, call_head, place_head, pointer_head, place_least}

-- ---- tests
abbrev is_number : Kind → Bool
is_number (Some k.Number) = true
is_number _ = false

abbrev is_null : Kind → Bool
is_null (Some k.Null) = true
is_null _ = false

abbrev is_and : Kind → Bool
is_and (Some k.And) = true
is_and _ = false

-- the tokens that begin no operand but one that may stand behind a star
abbrev is_other : Kind → Bool
is_other (Some k.Number) = false
is_other (Some k.Null) = false
is_other (Some k.And) = false
is_other _ = true

number_no_place : (kind : Kind) → is_number kind ≡ true → is_place_start kind ≡ false
number_no_place (Some k.Number) e = refl
number_no_place _ e = absurd (cc)

number_no_call : (kind : Kind) → is_number kind ≡ true → is_call_start kind ≡ false
number_no_call (Some k.Number) e = refl
number_no_call _ e = absurd (cc)

null_no_place : (kind : Kind) → is_null kind ≡ true → is_place_start kind ≡ false
null_no_place (Some k.Null) e = refl
null_no_place _ e = absurd (cc)

null_no_call : (kind : Kind) → is_null kind ≡ true → is_call_start kind ≡ false
null_no_call (Some k.Null) e = refl
null_no_call _ e = absurd (cc)

and_no_place : (kind : Kind) → is_and kind ≡ true → is_place_start kind ≡ false
and_no_place (Some k.And) e = refl
and_no_place _ e = absurd (cc)

and_no_call : (kind : Kind) → is_and kind ≡ true → is_call_start kind ≡ false
and_no_call (Some k.And) e = refl
and_no_call _ e = absurd (cc)

pointer_other : (kind : Kind) → is_pointer_start kind ≡ true → is_other kind ≡ true
pointer_other (Some k.Number) e = absurd (cc)
pointer_other (Some k.Null) e = absurd (cc)
pointer_other (Some k.And) e = absurd (cc)
pointer_other _ e = refl

pub other_true : (kind : Kind) → kind ≢ Some k.Number → kind ≢ Some k.Null → kind ≢ Some k.And → is_other kind ≡ true
other_true (Some k.Number) a b c = absurd (a refl)
other_true (Some k.Null) a b c = absurd (b refl)
other_true (Some k.And) a b c = absurd (c refl)
other_true _ a b c = refl

-- ---- numbers
number_turned : (x : UnaryLayer) (r : List Kind) (kind : Kind) (more : List Kind) → (unary_layer x).kinds ++ r ≡ kind ∷ more → is_number kind ≡ true → (y : Tok) × (unary_made x ≡ unary.Number y)
number_turned (o.Place p) r kind more e h = absurd (not_headed is_number is_place_start (place_said p) (place_head p) number_no_place r kind more e h)
number_turned (o.Address t p) r kind more e h = absurd (not_first is_number (Some k.And) kind ((place_said p).kinds ++ r) more e h refl)
number_turned (o.Unary::Call c) r kind more e h = absurd (not_headed is_number is_call_start (call_said c) (call_head c) number_no_call r kind more e h)
number_turned (o.Number t) r kind more e h = (t, refl)
number_turned (o.Null t) r kind more e h = absurd (not_first is_number (Some k.Null) kind r more e h refl)
number_turned (o.Unary::Paren i) r kind more e h = absurd (not_first is_number (Some k.OpenParen) kind (((expr_said i).kinds ++ Some k.CloseParen ∷ []) ++ r) more e h refl)

number_turn : TurnIf (mark k.Number) unary_said unary.Number is_number
number_turn = record {
  same = λ x. unary_made_said (o.Number x);
  turn = unary_by_layer (λ s t. (r : List Kind) (kind : Kind) (more : List Kind) → s.kinds ++ r ≡ kind ∷ more → is_number kind ≡ true → Stops s r → (y : Tok) × (t ≡ unary.Number y)) (λ x r kind more e h s. number_turned x r kind more e h);
  begins = λ x. (Some k.Number, ([], refl, refl));
}

pub number_at : (s : Source) (at room : ℕ) → kind_at s.tokens at ≡ Some k.Number → ReadsAt unary_said s at room (unary.Number (tok_of s.tokens at)) (at + 1)
number_at s at room e = turn_if_at (mark k.Number) unary_said unary.Number is_number number_turn s at (at + 1) room (tok_of s.tokens at) (mark_at s at room k.Number e)

-- ---- `NULL`
null_turned : (x : UnaryLayer) (r : List Kind) (kind : Kind) (more : List Kind) → (unary_layer x).kinds ++ r ≡ kind ∷ more → is_null kind ≡ true → (y : Tok) × (unary_made x ≡ unary.Null y)
null_turned (o.Place p) r kind more e h = absurd (not_headed is_null is_place_start (place_said p) (place_head p) null_no_place r kind more e h)
null_turned (o.Address t p) r kind more e h = absurd (not_first is_null (Some k.And) kind ((place_said p).kinds ++ r) more e h refl)
null_turned (o.Unary::Call c) r kind more e h = absurd (not_headed is_null is_call_start (call_said c) (call_head c) null_no_call r kind more e h)
null_turned (o.Number t) r kind more e h = absurd (not_first is_null (Some k.Number) kind r more e h refl)
null_turned (o.Null t) r kind more e h = (t, refl)
null_turned (o.Unary::Paren i) r kind more e h = absurd (not_first is_null (Some k.OpenParen) kind (((expr_said i).kinds ++ Some k.CloseParen ∷ []) ++ r) more e h refl)

null_turn : TurnIf (mark k.Null) unary_said unary.Null is_null
null_turn = record {
  same = λ x. unary_made_said (o.Null x);
  turn = unary_by_layer (λ s t. (r : List Kind) (kind : Kind) (more : List Kind) → s.kinds ++ r ≡ kind ∷ more → is_null kind ≡ true → Stops s r → (y : Tok) × (t ≡ unary.Null y)) (λ x r kind more e h s. null_turned x r kind more e h);
  begins = λ x. (Some k.Null, ([], refl, refl));
}

pub null_at : (s : Source) (at room : ℕ) → kind_at s.tokens at ≡ Some k.Null → ReadsAt unary_said s at room (unary.Null (tok_of s.tokens at)) (at + 1)
null_at s at room e = turn_if_at (mark k.Null) unary_said unary.Null is_null null_turn s at (at + 1) room (tok_of s.tokens at) (mark_at s at room k.Null e)

-- ---- addresses
abbrev address_parts : Tok × Place → Said
address_parts = seq (mark k.And) place_said

abbrev address_of : Tok × Place → Unary
address_of x = unary.Address x.0 x.1

address_turned : (x : UnaryLayer) (r : List Kind) (kind : Kind) (more : List Kind) → (unary_layer x).kinds ++ r ≡ kind ∷ more → is_and kind ≡ true → (y : Tok × Place) × (unary_made x ≡ address_of y)
address_turned (o.Place p) r kind more e h = absurd (not_headed is_and is_place_start (place_said p) (place_head p) and_no_place r kind more e h)
address_turned (o.Address t p) r kind more e h = ((t, p), refl)
address_turned (o.Unary::Call c) r kind more e h = absurd (not_headed is_and is_call_start (call_said c) (call_head c) and_no_call r kind more e h)
address_turned (o.Number t) r kind more e h = absurd (not_first is_and (Some k.Number) kind r more e h refl)
address_turned (o.Null t) r kind more e h = absurd (not_first is_and (Some k.Null) kind r more e h refl)
address_turned (o.Unary::Paren i) r kind more e h = absurd (not_first is_and (Some k.OpenParen) kind (((expr_said i).kinds ++ Some k.CloseParen ∷ []) ++ r) more e h refl)

address_turn : TurnIf address_parts unary_said address_of is_and
address_turn = record {
  same = λ x. unary_made_said (o.Address x.0 x.1);
  turn = unary_by_layer (λ s t. (r : List Kind) (kind : Kind) (more : List Kind) → s.kinds ++ r ≡ kind ∷ more → is_and kind ≡ true → Stops s r → (y : Tok × Place) × (t ≡ address_of y)) (λ x r kind more e h s. address_turned x r kind more e h);
  begins = λ x. (Some k.And, ((place_said x.1).kinds, refl, refl));
}

pub address_at : (s : Source) (at room next : ℕ) (p : Place) → kind_at s.tokens at ≡ Some k.And → ReadsAt place_said s (at + 1) room p next → ReadsAt unary_said s at room (unary.Address (tok_of s.tokens at) p) next
address_at s at room next p e r =
    turn_if_at address_parts unary_said address_of is_and address_turn s at next room (tok_of s.tokens at, p)
    (behind_mark_at place_said place_least s at room k.And e next p r)

pub address_refused_at : (s : Source) (at room token : ℕ) (why : Wrong) → kind_at s.tokens at ≡ Some k.And → RefusesAt place_said s (at + 1) room token why → RefusesAt unary_said s at room token why
address_refused_at s at room token why e r =
    turn_if_refused_at address_parts unary_said address_of is_and address_turn s at room token why (ap is_and e)
    (behind_mark_refused_at place_said place_least s at room k.And e token why r)

-- ---- what may stand behind a star is an operand too
unary_of_made : (x : PointerLayer) → unary_of (pointer_made x) ≡ of_layer x
unary_of_made x = ap unary_of (sym (pointer_rolls x)) ∙ ap of_layer (out-roll-Pointer x)

layer_same : (x : PointerLayer) → unary_said (of_layer x) ≡ pointer_layer x
layer_same (o.Pointer::Name name) = unary_made_said (o.Place (place.Name name)) ∙ place_made_said (o.Place::Name name)
layer_same (o.Pointer::Star t inner) = unary_made_said (o.Place (place.Star t inner)) ∙ place_made_said (o.Place::Star t inner)
layer_same (o.Pointer::Call c) = unary_made_said (o.Unary::Call c)
layer_same (o.Pointer::Paren i) = unary_made_said (o.Unary::Paren i)

pointer_same : (p : Pointer) → unary_said (unary_of p) ≡ pointer_said p
pointer_same = pointer_by_layer (λ s t. unary_said (unary_of t) ≡ s) (λ x. ap unary_said (unary_of_made x) ∙ layer_same x)

place_pointer : (p : Place) → (y : Pointer) × (unary.Place p ≡ unary_of y)
place_pointer = place_by_layer (λ s t. (y : Pointer) × (unary.Place t ≡ unary_of y)) layer
  where
    layer : (x : PlaceLayer) → (y : Pointer) × (unary.Place (place_made x) ≡ unary_of y)
    layer (o.Place::Name name) = (pointer.Name name, sym (unary_of_made (o.Pointer::Name name)))
    layer (o.Place::Star t inner) = (pointer.Star t inner, sym (unary_of_made (o.Pointer::Star t inner)))

pointer_turned : (x : UnaryLayer) (r : List Kind) (kind : Kind) (more : List Kind) → (unary_layer x).kinds ++ r ≡ kind ∷ more → is_other kind ≡ true → (y : Pointer) × (unary_made x ≡ unary_of y)
pointer_turned (o.Place p) r kind more e h = place_pointer p
pointer_turned (o.Address t p) r kind more e h = absurd (not_first is_other (Some k.And) kind ((place_said p).kinds ++ r) more e h refl)
pointer_turned (o.Unary::Call c) r kind more e h = (pointer.Call c, sym (unary_of_made (o.Pointer::Call c)))
pointer_turned (o.Number t) r kind more e h = absurd (not_first is_other (Some k.Number) kind r more e h refl)
pointer_turned (o.Null t) r kind more e h = absurd (not_first is_other (Some k.Null) kind r more e h refl)
pointer_turned (o.Unary::Paren i) r kind more e h = (pointer.Paren i, sym (unary_of_made (o.Pointer::Paren i)))

pointer_turn : TurnIf pointer_said unary_said unary_of is_other
pointer_turn = record {
  same = pointer_same;
  turn = unary_by_layer (λ s t. (r : List Kind) (kind : Kind) (more : List Kind) → s.kinds ++ r ≡ kind ∷ more → is_other kind ≡ true → Stops s r → (y : Pointer) × (t ≡ unary_of y)) (λ x r kind more e h s. pointer_turned x r kind more e h);
  begins = λ x. let h = pointer_head x in (h.0, (h.1.0, h.1.1, pointer_other h.0 h.1.2));
}

pub other_at : (s : Source) (at room next : ℕ) (p : Pointer) → ReadsAt pointer_said s at room p next → ReadsAt unary_said s at room (unary_of p) next
other_at s at room next p r = turn_if_at pointer_said unary_said unary_of is_other pointer_turn s at next room p r

pub other_refused_at : (s : Source) (at room token : ℕ) (why : Wrong) → is_other (kind_at s.tokens at) ≡ true → RefusesAt pointer_said s at room token why → RefusesAt unary_said s at room token why
other_refused_at s at room token why passes r = turn_if_refused_at pointer_said unary_said unary_of is_other pointer_turn s at room token why passes r
