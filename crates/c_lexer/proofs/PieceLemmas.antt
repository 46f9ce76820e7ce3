-- The first piece of a text has a byte, and no more of them than the text; as a name's token, it is a name.
use Rattle.std.proofs.Common.{◌≡◌, ℕ, suc, ◌+◌, ◌<◌, ◌≤◌, Bool, true, false, not, ◌&&◌, ◌||◌, cond, ◌==◌, nat_lt, List, [], ◌∷◌, length, take, drop, Option, Some, None, arith, refl, length-drop}
use Rattle.std.specs.List.{prefix_len}
use Rattle.std.specs.Option.{option_map}
use Rattle.std.proofs.lemmas.List.Sums.{prefix_len-le-length}
use Rattle.std.specs.Prelude.{All}
use Rattle.std.proofs.lemmas.Bool.Decides.{nat_tests}
use Rattle.std.proofs.lemmas.List.{get_or-take}
use Rattle.std.proofs.lemmas.List.Elements.{All-from_get_or}
use Rattle.std.proofs.lemmas.List.Folds.{length-prefix_len}
use Rattle.std.proofs.lemmas.List.Sums.{prefix_len_passes}
use Rattle.faults.specs.declared.kinds.InputKind.TheVariants.{NameTooLong}
use Rattle.c_lexer.specs.declared.token.TokenKind.{TokenKind}
use Rattle.c_lexer.specs.declared.token.TokenKind.TheVariants as k
use Rattle.c_lexer.specs.declared.piece.Meaning.TheVariants.{Token}
use Rattle.c_lexer.specs.declared.piece.Piece.{Piece}
use Rattle.c_lexer.specs.declared.piece.TheConstants.{MOST_NAME_BYTES}
use Rattle.c_lexer.specs.Pieces.{refused, token, word_kind, IsName, is_blank, is_word_byte, is_letter, is_digit, begins_with, past_close, mark_alone, mark_before_equals, mark_piece, block_comment, slash_piece, word_piece, first_piece}

-- a piece that a text may begin with
pub record FitsIn (text : List ℕ) (piece : Piece) : Type 0 where
  pub some : 0 < piece.len
  pub within : piece.len ≤ length text
  pub named : piece.meaning ≡ Token k.Name → IsName (take piece.len text)

if_fits : (n : List ℕ) (t : Bool) (p q : Piece) → (t ≡ true → FitsIn n p) → FitsIn n q → FitsIn n (cond t p q)
if_fits n true p q here there = here refl
if_fits n false p q here there = there

one_byte : (text : List ℕ) (piece : Piece) → 0 < length text → piece.len ≡ 1 → (piece.meaning ≡ Token k.Name → ⊥) → FitsIn text piece
one_byte text piece some e other = record { some = omega arith; within = omega arith; named = λ q. absurd (other q) }

alone_fits : (text : List ℕ) (b : ℕ) → 0 < length text → FitsIn text (mark_alone b)
alone_fits text b some =
    if_fits _ (b == 123) _ _ (λ _. one_byte _ _ some refl (λ q. cc))
    (if_fits _ (b == 125) _ _ (λ _. one_byte _ _ some refl (λ q. cc))
    (if_fits _ (b == 40) _ _ (λ _. one_byte _ _ some refl (λ q. cc))
    (if_fits _ (b == 41) _ _ (λ _. one_byte _ _ some refl (λ q. cc))
    (if_fits _ (b == 59) _ _ (λ _. one_byte _ _ some refl (λ q. cc))
    (if_fits _ (b == 44) _ _ (λ _. one_byte _ _ some refl (λ q. cc))
    (if_fits _ (b == 61) _ _ (λ _. one_byte _ _ some refl (λ q. cc))
    (if_fits _ (b == 42) _ _ (λ _. one_byte _ _ some refl (λ q. cc))
    (if_fits _ (b == 38) _ _ (λ _. one_byte _ _ some refl (λ q. cc))
    (if_fits _ (b == 43) _ _ (λ _. one_byte _ _ some refl (λ q. cc))
    (if_fits _ (b == 45) _ _ (λ _. one_byte _ _ some refl (λ q. cc))
    (if_fits _ (b == 60) _ _ (λ _. one_byte _ _ some refl (λ q. cc))
    (if_fits _ (b == 62) _ _ (λ _. one_byte _ _ some refl (λ q. cc))
    (one_byte _ _ some refl (λ q. cc))))))))))))))

begins_some : (x : ℕ) (bs : List ℕ) → begins_with x bs ≡ true → 0 < length bs
begins_some x [] e = absurd (cc)
begins_some x (b ∷ bs) e = omega arith

two_bytes : (text : List ℕ) (piece : Piece) → 1 < length text → piece.len ≡ 2 → (piece.meaning ≡ Token k.Name → ⊥) → FitsIn text piece
two_bytes text piece some e other = record { some = omega arith; within = omega arith; named = λ q. absurd (other q) }

before_equals_fits : (text : List ℕ) (b : ℕ) → 1 < length text → FitsIn text (mark_before_equals b)
before_equals_fits text b some =
    if_fits _ (b == 61) _ _ (λ _. two_bytes _ _ some refl (λ q. cc))
    (if_fits _ (b == 33) _ _ (λ _. two_bytes _ _ some refl (λ q. cc))
    (if_fits _ (b == 60) _ _ (λ _. two_bytes _ _ some refl (λ q. cc))
    (if_fits _ (b == 62) _ _ (λ _. two_bytes _ _ some refl (λ q. cc))
    (alone_fits _ b (omega arith)))))

mark_fits : (b : ℕ) (bs : List ℕ) → FitsIn (b ∷ bs) (mark_piece b bs)
mark_fits b bs = if_fits _ (begins_with 61 bs) _ _ (λ e. let h = begins_some 61 bs e in before_equals_fits _ b (omega arith)) (alone_fits _ b (omega arith))

-- a test that fails, and what stands behind it
some_step : (bs : List ℕ) (close : Option ℕ) (n : ℕ) → ((m : ℕ) → close ≡ Some m → m ≤ length bs) → option_map (λ k. k + 1) close ≡ Some n → n ≤ suc (length bs)
some_step bs None n within e = absurd (cc)
some_step bs (Some m) n within e =
    let h : m ≤ length bs = within m refl in
    let same : m + 1 ≡ n = cc in
    omega arith

cond_step : (bs : List ℕ) (t : Bool) (close : Option ℕ) (n : ℕ) → (t ≡ true → 0 < length bs) → ((m : ℕ) → close ≡ Some m → m ≤ length bs) → cond t (Some 2) (option_map (λ k. k + 1) close) ≡ Some n → n ≤ suc (length bs)
cond_step bs true close n some within e =
    let h : 0 < length bs = some refl in
    let same : 2 ≡ n = cc in
    omega arith
cond_step bs false close n some within e = some_step bs close n within e

both_true : (a b : Bool) → a && b ≡ true → b ≡ true
both_true true b e = e
both_true false b e = absurd (cc)

pub past_close_within : (text : List ℕ) (n : ℕ) → past_close text ≡ Some n → n ≤ length text
past_close_within [] n e = absurd (cc)
past_close_within (b ∷ bs) n e =
    cond_step bs (b == 42 && begins_with 47 bs) (past_close bs) n (λ t. begins_some 47 bs (both_true (b == 42) (begins_with 47 bs) t)) (past_close_within bs) e

comment_fits : (b : ℕ) (bs : List ℕ) (close : Option ℕ) → 0 < length bs → ((n : ℕ) → close ≡ Some n → n ≤ length (drop 1 bs)) → FitsIn (b ∷ bs) (block_comment close)
comment_fits b bs None some within = record { some = omega arith; within = omega arith; named = λ q. absurd (cc) }
comment_fits b bs (Some n) some within =
    let h : n ≤ length (drop 1 bs) = within n refl in
    record { some = omega arith; within = omega (arith, length-drop 1 bs); named = λ q. absurd (cc) }

slash_fits : (b : ℕ) (bs : List ℕ) → FitsIn (b ∷ bs) (slash_piece bs)
slash_fits b bs =
    if_fits _ (begins_with 42 bs) _ _ (λ e. comment_fits b bs (past_close (drop 1 bs)) (begins_some 42 bs e) (past_close_within (drop 1 bs)))
    (if_fits _ (begins_with 47 bs) _ _ (λ _. record { some = omega arith; within = omega (arith, prefix_len-le-length (λ b. not (b == 10)) bs); named = λ q. absurd (cc) })
    (one_byte _ _ (omega arith) refl (λ q. cc)))

run_some : (p : ℕ → Bool) (b : ℕ) (bs : List ℕ) → p b ≡ true → 0 < prefix_len p (b ∷ bs)
run_some p b bs e = rw e (omega arith)

or_true : (a b : Bool) → a ≡ true → a || b ≡ true
or_true a b e = rw e

word_bytes : (text : List ℕ) → All (λ b. is_word_byte b ≡ true) (take (prefix_len is_word_byte text) text)
word_bytes text =
    All-from_get_or (λ b. is_word_byte b ≡ true) (take (prefix_len is_word_byte text) text) 0
    (λ i h.
    let low : i < prefix_len is_word_byte text = omega (arith, length-prefix_len is_word_byte text) in
    rw get_or-take (prefix_len_passes is_word_byte text i 0 low))

meaning_is : (a b : TokenKind) → Token a ≡ Token b → a ≡ b
meaning_is a b e = cc

cases_fit : (text : List ℕ) (t : Bool) (p q : Piece) → (t ≡ true → FitsIn text p) → (t ≡ false → FitsIn text q) → FitsIn text (cond t p q)
cases_fit text true p q here there = here refl
cases_fit text false p q here there = there refl

not_above : (a b : ℕ) → nat_lt a b ≡ false → b ≤ a
not_above a b e = grind (arith, nat_tests)

-- a run of n bytes of a word
short_or_long : (text : List ℕ) (n : ℕ) → 0 < n → n ≤ length text → All (λ b. is_word_byte b ≡ true) (take n text) → length (take n text) ≡ n
    → FitsIn text (cond (nat_lt MOST_NAME_BYTES n) (refused NameTooLong n) (token (word_kind (take n text)) n))
short_or_long text n some within bytes long =
    cases_fit text (nat_lt MOST_NAME_BYTES n) _ _
    (λ _. record { some = some; within = within; named = λ q. absurd (cc) })
    (λ e. record {
      some = some;
      within = within;
      named = λ q. record { some = omega (arith, long); short = omega (arith, long, not_above MOST_NAME_BYTES n e); bytes = bytes; other = meaning_is _ _ q };
    })

word_fits : (b : ℕ) (bs : List ℕ) → is_letter b ≡ true → FitsIn (b ∷ bs) (word_piece (b ∷ bs))
word_fits b bs e =
    let some = run_some is_word_byte b bs (or_true (is_letter b) (is_digit b) e) in
    let within = prefix_len-le-length is_word_byte (b ∷ bs) in
    let n = prefix_len is_word_byte (b ∷ bs) in
    let long = length-prefix_len is_word_byte (b ∷ bs) in
    short_or_long (b ∷ bs) n some within (word_bytes (b ∷ bs)) long

pub first_piece_fits : (b : ℕ) (bs : List ℕ) → FitsIn (b ∷ bs) (first_piece (b ∷ bs))
first_piece_fits b bs =
    if_fits _ (is_blank b) _ _ (λ _. one_byte _ _ (omega arith) refl (λ q. cc))
    (if_fits _ (is_letter b) _ _ (λ e. word_fits b bs e)
    (if_fits _ (is_digit b) _ _ (λ e. record { some = run_some is_digit b bs e; within = prefix_len-le-length is_digit (b ∷ bs); named = λ q. absurd (cc) })
    (if_fits _ (b == 47) _ _ (λ _. slash_fits b bs) (mark_fits b bs))))

-- the same of a text that has a byte
pub text_piece_fits : (text : List ℕ) → 0 < length text → FitsIn text (first_piece text)
text_piece_fits [] some = absurd (omega arith)
text_piece_fits (b ∷ bs) some = first_piece_fits b bs
