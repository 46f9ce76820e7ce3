-- The tokens of a C text.
use Rattle.std.specs.Prelude.{◌≡◌, ◌<◌, ◌≤◌, ℕ, zero, suc, ◌+◌, ◌-◌, List, [], ◌∷◌, length, take, drop, Result, Ok, Err}
use Rattle.c_lexer.specs.declared.token.Token.{Token}
use Rattle.c_lexer.specs.declared.token.TokenKind.TheVariants.{Name}
use Rattle.c_lexer.specs.declared.fault.LexFault.{LexFault}
use Rattle.c_lexer.specs.declared.fault.LexFault.TheVariants.{At}
use Rattle.c_lexer.specs.declared.piece.Meaning.{Meaning}
use Rattle.c_lexer.specs.declared.piece.Meaning.TheVariants as piece
use Rattle.c_lexer.specs.declared.place.Place.{Place}
use Rattle.c_lexer.specs.Pieces.{first_piece, IsName}
use Rattle.c_lexer.specs.Places.{start, behind_byte}

-- a token, and those behind it
abbrev pub onto : Token → Result (List Token) LexFault → Result (List Token) LexFault
onto token (Ok tokens) = Ok (token ∷ tokens)
onto token (Err fault) = Err fault

-- what a piece at a place gives, and what stands behind it: a token stays, blanks and comments are left out, and the first other piece is refused
abbrev pub with_piece : Meaning → Place → ℕ → Result (List Token) LexFault → Result (List Token) LexFault
with_piece piece.Skipped place n later = later
with_piece (piece.Token kind) place n later = onto (record { kind = kind; start = place.at; end = place.at + n; line = place.line }) later
with_piece (piece.Refused kind) place n later = Err (At place.line place.column kind)

-- The tokens of a text that begins at a place, behind as many bytes as the last piece has left.
abbrev pub tokens_behind : ℕ → Place → List ℕ → Result (List Token) LexFault
tokens_behind left place [] = Ok []
tokens_behind (suc left) place (b ∷ bs) = tokens_behind left (behind_byte b place) bs
tokens_behind zero place (b ∷ bs) =
    let piece = first_piece (b ∷ bs) in
    with_piece piece.meaning place piece.len (tokens_behind (piece.len - 1) (behind_byte b place) bs)

-- the tokens of a text, or its first piece that is no blank, no comment and no token
abbrev pub tokens_of : List ℕ → Result (List Token) LexFault
tokens_of text = tokens_behind 0 start text

-- The token has bytes of the text, and a name's are a name.
pub record StandsIn (text : List ℕ) (token : Token) : Type 0 where
  pub some : token.start < token.end
  pub within : token.end ≤ length text
  pub named : token.kind ≡ Name → IsName (take (token.end - token.start) (drop token.start text))
