-- The pieces of a C text: blanks, comments and tokens, each as long as it can be.
use Rattle.std.specs.Prelude.{◌≡◌, ◌≤◌, All, true, length, ℕ, ◌+◌, Bool, false, not, ◌||◌, ◌&&◌, ◌==◌, nat_le, nat_lt, List, [], ◌∷◌, take, drop, codes, Option, Some, None, if◌then◌else◌}
use Rattle.std.specs.List.{prefix_len}
use Rattle.std.specs.Option.{option_map}
use Rattle.std.specs.Str.{bytes_eq}
use Rattle.faults.specs.declared.kinds.InputKind.{InputKind}
use Rattle.faults.specs.declared.kinds.InputKind.TheVariants.{BadByte, OpenComment, NameTooLong}
use Rattle.c_lexer.specs.declared.token.TokenKind.{TokenKind}
use Rattle.c_lexer.specs.declared.token.TokenKind.TheVariants as k
use Rattle.c_lexer.specs.declared.piece.Piece.{Piece}
use Rattle.c_lexer.specs.declared.piece.Meaning.TheVariants.{Skipped, Token, Refused}
use Rattle.c_lexer.specs.declared.piece.TheConstants.{MOST_NAME_BYTES}

-- ---- bytes
-- a space, a tab, a carriage return or a line feed
abbrev pub is_blank : ℕ → Bool
is_blank b = b == 32 || b == 9 || b == 13 || b == 10

-- '0' to '9'
abbrev pub is_digit : ℕ → Bool
is_digit b = nat_le 48 b && nat_le b 57

-- 'a' to 'z', 'A' to 'Z' or '_'
abbrev pub is_letter : ℕ → Bool
is_letter b = nat_le 97 b && nat_le b 122 || nat_le 65 b && nat_le b 90 || b == 95

abbrev pub is_word_byte : ℕ → Bool
is_word_byte b = is_letter b || is_digit b

-- the text begins with this byte
abbrev pub begins_with : ℕ → List ℕ → Bool
begins_with x [] = false
begins_with x (b ∷ bs) = b == x

-- how many bytes there are up to and with the first "*/"
abbrev pub past_close : List ℕ → Option ℕ
past_close [] = None
past_close (b ∷ bs) = if b == 42 && begins_with 47 bs then Some 2 else option_map (λ n. n + 1) (past_close bs)

-- ---- pieces: what each is, and how many bytes it has
abbrev pub skipped : ℕ → Piece
skipped n = record { meaning = Skipped; len = n }

abbrev pub token : TokenKind → ℕ → Piece
token kind n = record { meaning = Token kind; len = n }

abbrev pub refused : InputKind → ℕ → Piece
refused kind n = record { meaning = Refused kind; len = n }

-- a keyword, and else a name
abbrev pub word_kind : List ℕ → TokenKind
word_kind w =
    if bytes_eq w (codes "int") then k.Int
    else if bytes_eq w (codes "char") then k.Char
    else if bytes_eq w (codes "void") then k.Void
    else if bytes_eq w (codes "if") then k.If
    else if bytes_eq w (codes "else") then k.Else
    else if bytes_eq w (codes "while") then k.While
    else if bytes_eq w (codes "return") then k.Return
    else if bytes_eq w (codes "NULL") then k.Null
    else if bytes_eq w (codes "malloc") then k.Malloc
    else k.Name

-- 1 to MOST_NAME_BYTES letters and digits that are no keyword
pub record IsName (w : List ℕ) : Type 0 where
  pub some : 1 ≤ length w
  pub short : length w ≤ MOST_NAME_BYTES
  pub bytes : All (λ b. is_word_byte b ≡ true) w
  pub other : word_kind w ≡ k.Name

-- the longest run of letters and digits from the front on
abbrev pub word_piece : List ℕ → Piece
word_piece text =
    let n = prefix_len is_word_byte text in
    if nat_lt MOST_NAME_BYTES n then refused NameTooLong n else token (word_kind (take n text)) n

-- a comment up to its first "*/"
abbrev pub block_comment : Option ℕ → Piece
block_comment (Some n) = skipped (n + 2)
block_comment None = refused OpenComment 2

-- what a slash begins, before these bytes: a comment up to its end, one up to the end of the line, or nothing
abbrev pub slash_piece : List ℕ → Piece
slash_piece behind =
    if begins_with 42 behind then block_comment (past_close (drop 1 behind))
    else if begins_with 47 behind then skipped (prefix_len (λ b. not (b == 10)) behind + 1)
    else refused BadByte 1

-- a mark of one byte: { } ( ) ; , = * & + - < >
abbrev pub mark_alone : ℕ → Piece
mark_alone b =
    if b == 123 then token k.OpenBrace 1
    else if b == 125 then token k.CloseBrace 1
    else if b == 40 then token k.OpenParen 1
    else if b == 41 then token k.CloseParen 1
    else if b == 59 then token k.Semicolon 1
    else if b == 44 then token k.Comma 1
    else if b == 61 then token k.Assign 1
    else if b == 42 then token k.Star 1
    else if b == 38 then token k.And 1
    else if b == 43 then token k.Plus 1
    else if b == 45 then token k.Minus 1
    else if b == 60 then token k.Less 1
    else if b == 62 then token k.Greater 1
    else refused BadByte 1

-- a mark before '=': == != <= >=
abbrev pub mark_before_equals : ℕ → Piece
mark_before_equals b =
    if b == 61 then token k.Equal 2
    else if b == 33 then token k.NotEqual 2
    else if b == 60 then token k.AtMost 2
    else if b == 62 then token k.AtLeast 2
    else mark_alone b

-- the longest mark of this byte and those behind it
abbrev pub mark_piece : ℕ → List ℕ → Piece
mark_piece b behind = if begins_with 61 behind then mark_before_equals b else mark_alone b

-- the first piece of a text
abbrev pub first_piece : List ℕ → Piece
first_piece [] = skipped 0
first_piece (b ∷ bs) =
    if is_blank b then skipped 1
    else if is_letter b then word_piece (b ∷ bs)
    else if is_digit b then token k.Number (prefix_len is_digit (b ∷ bs))
    else if b == 47 then slash_piece bs
    else mark_piece b bs
