-- Words of digits, and the numbers that they write.
use Rattle.std.proofs.Common.{◌≡◌, ◌<◌, ◌≤◌, ◌^◌, ◌∙◌, ℕ, Option, Some, None, Result, Ok, Err, List, [], ◌∷◌, length, All, arith, ap}
use Rattle.std.specs.Char.{digit_value}
use Rattle.std.specs.Str.Parse.{AllDigits, ParsesUnsigned, digits_value, without_leading_plus}
use Rattle.std.proofs.lemmas.Str.{digit_value_digit}
use Rattle.std.proofs.lemmas.Str.Parse.{without_leading_plus_none}
use Rattle.std.proofs.lemmas.List.Elements.{All-head, All-tail}
use Rattle.clap.specs.Matches.{ReadsOne}
use Rattle.graph_words.specs.Text.{IsDigit}
use Rattle.command_words.specs.Command.{IsNumber}

digit_below : (b : ℕ) → IsDigit b → digit_value b < 10
digit_below b h =
    let is = digit_value_digit b h in
    omega arith

pub all_digits : (word : List ℕ) → All IsDigit word → AllDigits 10 word
all_digits [] h = tt
all_digits (b ∷ bs) h = (digit_below b (All-head IsDigit b bs h), all_digits bs (All-tail IsDigit b bs h))

-- no sign stands before digits
pub no_plus : (word : List ℕ) → 1 ≤ length word → All IsDigit word → without_leading_plus word ≡ word
no_plus word some h = without_leading_plus_none word (λ e. let d = h 0 0 some in omega arith)

-- a word that writes a small number is read as that number
pub number_reads : {E : Type 0} (k least most : ℕ) (word : List ℕ) (n : ℕ) (r : Result ℕ E) → n < 2 ^ k → IsNumber least most word n → ParsesUnsigned k 10 word r → r ≡ Ok n
number_reads k least most word n (Ok x) fits is p =
    let value : x ≡ digits_value 10 word = p.1 ∙ ap (digits_value 10) (no_plus word is.some is.digits) in
    ap Ok (value ∙ is.value)
number_reads k least most word n (Err e) fits is p =
    let plain = no_plus word is.some is.digits in
    let value = is.value in
    absurd (p (rw plain (is.some, all_digits word is.digits), rw plain (rw value fits)))

-- `get_one` on such a word
pub number_got : {E : Type 0} (A B : List ℕ → Result ℕ E → Type 0) (k least most : ℕ) (word : List ℕ) (n : ℕ) (o : Option ℕ) → n < 2 ^ k → IsNumber least most word n → ReadsOne (λ w r. ParsesUnsigned k 10 w r × A w r × B w r) word o → o ≡ Some n
number_got {E} A B k least most word n (Some x) fits is h =
    let ok : ◌≡◌ {A = Result ℕ E} (Ok x) (Ok n) = number_reads k least most word n (Ok x) fits is h.0 in
    ap Some (ap (λ r. ok_or_zero r) ok)
  where
    ok_or_zero : Result ℕ E → ℕ
    ok_or_zero (Ok y) = y
    ok_or_zero (Err e) = 0
number_got {E} A B k least most word n None fits is h =
    let bad : ◌≡◌ {A = Result ℕ E} (Err h.0) (Ok n) = number_reads k least most word n (Err h.0) fits is h.1.0 in
    absurd cc
