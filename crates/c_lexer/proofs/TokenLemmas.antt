-- The tokens of a text, piece by piece.
use Rattle.std.proofs.Common.{◌≡◌, ℕ, zero, suc, ◌+◌, ◌-◌, ◌<◌, ◌≤◌, List, [], ◌∷◌, ◌++◌, length, take, drop, Ok, Err, Result, arith, refl, sym, ap, ◌∙◌, append_assoc, subst, length-drop, length-take-le, cond, true, false, ◌==◌}
use Rattle.std.proofs.lemmas.List.{take_all, drop-drop}
use Rattle.c_lexer.specs.declared.token.Token.{Token}
use Rattle.c_lexer.specs.declared.piece.Piece.{Piece}
use Rattle.c_lexer.specs.declared.fault.LexFault.{LexFault}
use Rattle.c_lexer.specs.declared.fault.LexFault.TheVariants.{At}
use Rattle.c_lexer.specs.declared.token.TokenKind.{TokenKind}
use Rattle.c_lexer.specs.declared.piece.Meaning.TheVariants as meaning
use Rattle.faults.specs.declared.kinds.InputKind.{InputKind}
use Rattle.c_lexer.specs.declared.place.Place.{Place}
use Rattle.c_lexer.specs.declared.piece.Meaning.{Meaning}
use Rattle.c_lexer.specs.declared.token.TokenKind.TheVariants as kind
use Rattle.std.specs.Prelude.{All}
use Rattle.std.proofs.lemmas.List.Elements.{All-nil, All-cons, All-weaker}
use Rattle.c_lexer.specs.Pieces.{first_piece, IsName}
use Rattle.c_lexer.specs.Places.{behind, behind_byte, start}
use Rattle.c_lexer.specs.Tokens.{onto, with_piece, tokens_behind, tokens_of, StandsIn}
use Rattle.c_lexer.proofs.PieceLemmas.{first_piece_fits, text_piece_fits}

-- bytes that belong to the last piece are passed over
skip_is : (n : ℕ) (place : Place) (text : List ℕ) → n ≤ length text → tokens_behind n place text ≡ tokens_behind 0 (behind (take n text) place) (drop n text)
skip_is zero place text h = refl
skip_is (suc n) place [] h = absurd (omega arith)
skip_is (suc n) place (b ∷ bs) h = skip_is n (behind_byte b place) bs (omega arith)

later_is : (n b : ℕ) (bs : List ℕ) (place : Place) → 0 < n → n ≤ suc (length bs) → tokens_behind (n - 1) (behind_byte b place) bs ≡ tokens_behind 0 (behind (take n (b ∷ bs)) place) (drop n (b ∷ bs))
later_is zero b bs place some within = absurd (omega arith)
later_is (suc n) b bs place some within = let e : suc n - 1 ≡ n = omega arith in rw e (skip_is n (behind_byte b place) bs (omega arith))

-- the tokens of a text are what its first piece gives, before those of the text behind it
pub first_is : (place : Place) (text : List ℕ) → 0 < length text → let piece = first_piece text in tokens_behind 0 place text ≡ with_piece piece.meaning place piece.len (tokens_behind 0 (behind (take piece.len text) place) (drop piece.len text))
first_is place [] some = absurd (omega arith)
first_is place (b ∷ bs) some =
    let piece = first_piece (b ∷ bs) in
    let fits = first_piece_fits b bs in
    ap (with_piece piece.meaning place piece.len) (later_is piece.len b bs place fits.some fits.within)

-- tokens before what stands behind them
abbrev pub before : List Token → Result (List Token) LexFault → Result (List Token) LexFault
before done (Ok tokens) = Ok (done ++ tokens)
before done (Err fault) = Err fault

pub before_onto : (done : List Token) (token : Token) (later : Result (List Token) LexFault) → before done (onto token later) ≡ before (done ++ token ∷ []) later
before_onto done token (Ok tokens) = ap Ok (sym (append_assoc done (token ∷ []) tokens))
before_onto done token (Err fault) = refl

-- At a place of a text stands a piece, which the code sees as the first one of the part from there on.
pub record StandsAt (bytes : List ℕ) (at : ℕ) (piece : Piece) : Type 0 where
  pub some : 0 < piece.len
  pub within : at + piece.len ≤ length bytes
  pub is_first : first_piece (drop at bytes) ≡ piece

pub stands_at : (bytes : List ℕ) (at : ℕ) (piece : Piece) → at < length bytes → piece ≡ first_piece (take (length bytes - at) (drop at bytes)) → StandsAt bytes at piece
stands_at bytes at piece inside e =
    let whole : take (length bytes - at) (drop at bytes) ≡ drop at bytes = take_all _ _ (omega (arith, length-drop at bytes)) in
    let is_first : first_piece (drop at bytes) ≡ piece = sym (e ∙ ap first_piece whole) in
    let fits = text_piece_fits (drop at bytes) (omega (arith, length-drop at bytes)) in
    let some : 0 < piece.len = subst (λ (p : Piece). 0 < p.len) is_first fits.some in
    let within : piece.len ≤ length (drop at bytes) = subst (λ (p : Piece). p.len ≤ length (drop at bytes)) is_first fits.within in
    record { some = some; within = omega (arith, length-drop at bytes); is_first = is_first }

-- the tokens from a place on, by the piece that stands there
pub from_here : (bytes : List ℕ) (place : Place) (piece : Piece) → place.at < length bytes → StandsAt bytes place.at piece
    → tokens_behind 0 place (drop place.at bytes) ≡ with_piece piece.meaning place piece.len (tokens_behind 0 (behind (take piece.len (drop place.at bytes)) place) (drop (place.at + piece.len) bytes))
from_here bytes place piece inside s =
    let long : 0 < length (drop place.at bytes) = omega (arith, length-drop place.at bytes) in
    let first = first_is place (drop place.at bytes) long in
    subst (λ (p : Piece). tokens_behind 0 place (drop place.at bytes) ≡ with_piece p.meaning place p.len (tokens_behind 0 (behind (take p.len (drop place.at bytes)) place) (drop p.len (drop place.at bytes)))) s.is_first first
    ∙ ap (λ l. with_piece piece.meaning place piece.len (tokens_behind 0 (behind (take piece.len (drop place.at bytes)) place) l)) (drop-drop piece.len place.at bytes)

-- the place behind a piece
pub record MovesOn (bytes : List ℕ) (place : Place) (piece : Piece) (next : Place) : Type 0 where
  pub at : next.at ≡ place.at + piece.len
  pub line : next.line ≤ place.line + piece.len
  pub column : next.column ≤ place.column + piece.len
  pub is_behind : next ≡ behind (take piece.len (drop place.at bytes)) place

pub moves_on : (bytes : List ℕ) (place : Place) (piece : Piece) (next : Place) → StandsAt bytes place.at piece
    → let part = take (place.at + piece.len - place.at) (drop place.at bytes) in
    next ≡ behind part place → next.at ≡ place.at + length part → next.line ≤ place.line + length part → next.column ≤ place.column + length part → MovesOn bytes place piece next
moves_on bytes place piece next s is_behind at line column =
    let n : place.at + piece.len - place.at ≡ piece.len = omega arith in
    let long : length (take (place.at + piece.len - place.at) (drop place.at bytes)) ≡ piece.len = length-take-le _ (drop place.at bytes) (omega (arith, length-drop place.at bytes, s.within)) ∙ n in
    record {
      at = at ∙ ap (λ k. place.at + k) long;
      line = omega arith;
      column = omega arith;
      is_behind = is_behind ∙ ap (λ k. behind (take k (drop place.at bytes)) place) n;
    }

-- the tokens from a place on, by the piece that stands there and the place behind it
pub from_place : (bytes : List ℕ) (place : Place) (piece : Piece) (next : Place) → place.at < length bytes → StandsAt bytes place.at piece → MovesOn bytes place piece next
    → tokens_behind 0 place (drop place.at bytes) ≡ with_piece piece.meaning place piece.len (tokens_behind 0 next (drop next.at bytes))
from_place bytes place piece next inside s m =
    from_here bytes place piece inside s
    ∙ ap (λ (p : Place). with_piece piece.meaning place piece.len (tokens_behind 0 p (drop (place.at + piece.len) bytes))) (sym m.is_behind)
    ∙ ap (λ k. with_piece piece.meaning place piece.len (tokens_behind 0 next (drop k bytes))) (sym m.at)

pub same_skipped : (bytes : List ℕ) (place : Place) (piece : Piece) (next : Place) (done : List Token) → place.at < length bytes → StandsAt bytes place.at piece → MovesOn bytes place piece next
    → tokens_of bytes ≡ before done (tokens_behind 0 place (drop place.at bytes)) → piece.meaning ≡ meaning.Skipped → tokens_of bytes ≡ before done (tokens_behind 0 next (drop next.at bytes))
same_skipped bytes place piece next done inside s m same e =
    same ∙ ap (before done) (from_place bytes place piece next inside s m ∙ ap (λ k. with_piece k place piece.len (tokens_behind 0 next (drop next.at bytes))) e)

pub same_token : (bytes : List ℕ) (place : Place) (piece : Piece) (next : Place) (done : List Token) (kind : TokenKind) → place.at < length bytes → StandsAt bytes place.at piece → MovesOn bytes place piece next
    → tokens_of bytes ≡ before done (tokens_behind 0 place (drop place.at bytes)) → piece.meaning ≡ meaning.Token kind
    → tokens_of bytes ≡ before (done ++ record { kind = kind; start = place.at; end = place.at + piece.len; line = place.line } ∷ []) (tokens_behind 0 next (drop next.at bytes))
same_token bytes place piece next done kind inside s m same e =
    same ∙ ap (before done) (from_place bytes place piece next inside s m ∙ ap (λ k. with_piece k place piece.len (tokens_behind 0 next (drop next.at bytes))) e)
    ∙ before_onto done (record { kind = kind; start = place.at; end = place.at + piece.len; line = place.line }) (tokens_behind 0 next (drop next.at bytes))

pub same_refused : (bytes : List ℕ) (place : Place) (piece : Piece) (done : List Token) (kind : InputKind) → place.at < length bytes → StandsAt bytes place.at piece
    → tokens_of bytes ≡ before done (tokens_behind 0 place (drop place.at bytes)) → piece.meaning ≡ meaning.Refused kind → tokens_of bytes ≡ Err (At place.line place.column kind)
same_refused bytes place piece done kind inside s same e =
    same ∙ ap (before done) (from_here bytes place piece inside s ∙ ap (λ k. with_piece k place piece.len (tokens_behind 0 (behind (take piece.len (drop place.at bytes)) place) (drop (place.at + piece.len) bytes))) e)

-- ---- where the tokens of a text stand
-- a token of a text that begins at a place
record From (base : ℕ) (text : List ℕ) (token : Token) : Type 0 where
  from : base ≤ token.start
  some : token.start < token.end
  within : token.end ≤ base + length text
  named : token.kind ≡ kind.Name → IsName (take (token.end - token.start) (drop (token.start - base) text))

from_behind : (base b : ℕ) (bs : List ℕ) (token : Token) → From (base + 1) bs token → From base (b ∷ bs) token
from_behind base b bs token f =
    let e : token.start - base ≡ suc (token.start - (base + 1)) = omega (arith, f.from) in
    record { from = omega (arith, f.from); some = f.some; within = omega (arith, f.within); named = λ q. rw e (f.named q) }

behind_at : (b : ℕ) (place : Place) → (behind_byte b place).at ≡ place.at + 1
behind_at b place = elim (b == 10) as (λ t. (cond {A = Place} t (record { at = place.at + 1; line = place.line + 1; column = 1 }) (record { at = place.at + 1; line = place.line; column = place.column + 1 })).at ≡ place.at + 1) [ true ↦ refl | false ↦ refl ]

ok_is : (xs ys : List Token) → (let a : Result (List Token) LexFault = Ok xs in a ≡ Ok ys) → xs ≡ ys
ok_is xs ys e = cc

onto_ok : (P : Token → Type 0) (token : Token) (later : Result (List Token) LexFault) → P token → ((ts : List Token) → later ≡ Ok ts → All P ts) → (ts : List Token) → onto token later ≡ Ok ts → All P ts
onto_ok P token (Ok later) here there ts e = subst (All P) (ok_is _ _ e) (All-cons P token later here (there later refl))
onto_ok P token (Err fault) here there ts e = absurd (cc)

with_ok : (P : Token → Type 0) (m : Meaning) (place : Place) (n : ℕ) (later : Result (List Token) LexFault)
    → ((k : TokenKind) → m ≡ meaning.Token k → P (record { kind = k; start = place.at; end = place.at + n; line = place.line }))
    → ((ts : List Token) → later ≡ Ok ts → All P ts) → (ts : List Token) → with_piece m place n later ≡ Ok ts → All P ts
with_ok P meaning.Skipped place n later here there ts e = there ts e
with_ok P (meaning.Token k) place n later here there ts e = onto_ok P _ later (here k refl) there ts e
with_ok P (meaning.Refused k) place n later here there ts e = absurd (cc)

first_from : (place : Place) (b : ℕ) (bs : List ℕ) (k : TokenKind) → (first_piece (b ∷ bs)).meaning ≡ meaning.Token k
    → From place.at (b ∷ bs) (record { kind = k; start = place.at; end = place.at + (first_piece (b ∷ bs)).len; line = place.line })
first_from place b bs k e =
    let f = first_piece_fits b bs in
    let piece = first_piece (b ∷ bs) in
    let n : place.at + piece.len - place.at ≡ piece.len = omega arith in
    let z : place.at - place.at ≡ 0 = omega arith in
    record {
      from = omega arith;
      some = omega (arith, f.some);
      within = omega (arith, f.within);
      named = λ q. rw (n, z) (f.named (e ∙ ap meaning.Token q));
    }

later_from : (place : Place) (b : ℕ) (bs : List ℕ) (ts : List Token) → All (From (behind_byte b place).at bs) ts → All (From place.at (b ∷ bs)) ts
later_from place b bs ts all =
    All-weaker (From (behind_byte b place).at bs) (From place.at (b ∷ bs)) (λ t f. from_behind place.at b bs t (subst (λ n. From n bs t) (behind_at b place) f)) ts all

all_from : (left : ℕ) (place : Place) (text : List ℕ) (ts : List Token) → tokens_behind left place text ≡ Ok ts → All (From place.at text) ts
all_from left place [] ts e = subst (All (From place.at [])) (ok_is [] ts e) (All-nil (From place.at []))
all_from (suc left) place (b ∷ bs) ts e = later_from place b bs ts (all_from left (behind_byte b place) bs ts e)
all_from zero place (b ∷ bs) ts e =
    let piece = first_piece (b ∷ bs) in
    with_ok (From place.at (b ∷ bs)) piece.meaning place piece.len (tokens_behind (piece.len - 1) (behind_byte b place) bs) (first_from place b bs)
    (λ later q. later_from place b bs later (all_from (piece.len - 1) (behind_byte b place) bs later q)) ts e

stands_in : (text : List ℕ) (token : Token) → From 0 text token → StandsIn text token
stands_in text token f = let z : token.start - 0 ≡ token.start = omega arith in record { some = f.some; within = omega (arith, f.within); named = λ q. rw z at (f.named q) }

pub tokens_stand_in : (text : List ℕ) (ts : List Token) → tokens_of text ≡ Ok ts → All (StandsIn text) ts
tokens_stand_in text ts e = All-weaker (From 0 text) (StandsIn text) (stands_in text) ts (all_from 0 start text ts e)
