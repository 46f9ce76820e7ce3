-- What clap answers: computed over words whose values are not known.
use Rattle.std.proofs.Common.{◌≡◌, ◌≤◌, ◌<◌, ◌^◌, ◌∙◌, ℕ, Bool, true, false, List, [], ◌∷◌, ◌++◌, Option, Some, None, IfSome, codes, unwrap_or, if◌then◌else◌, arith, ap, refl, sym, rules}
use Rattle.std.specs.Str.Parse.{digits_value, without_leading_plus}
use Rattle.clap.specs.Walk.{Row, Text, one_of, rows_of}
use Rattle.clap.specs.Simple.{matches_of}
use Rattle.clap.specs.Faults.{fault_of}
use Rattle.clap.specs.Kinds.{Kinds, or_else}
use Rattle.clap.specs.ValueTests.{accepts}
use Rattle.clap.specs.declared.error.kind.ErrorKind.TheVariants as kind
use Rattle.clap.specs.declared.builder.value_parser.ValueParser.TheVariants as parser
use Rattle.clap.specs.declared.parser.matches.Found.{Found}
use Rattle.clap.proofs.OnLiterals.{clap_on_literals}
use Rattle.clap.proofs.ValueTestLemmas.{accepts-Accepts, Accepts-accepts}
use Rattle.clap.proofs.WalkLemmas.{one_text-rows}
use Rattle.command_words.specs.Command.{IsNumber, IsNumberOr, GiveNumbers}
use Rattle.command_words.specs.ClapNumbers.{HasTexts, IsDigits, numbers_app, asked}
use Rattle.closing_options.specs.declared.RunOptions.{RunOptions}
use Rattle.command_words.proofs.NumberLemmas.{all_digits, no_plus}

-- clap takes the value of an option, where it is given
abbrev in_range : ℕ → Text → Bool
in_range most v = accepts false (parser.Unsigned 1 most) v

abbrev Passes : ℕ → Option Text → Type 0
Passes most None = Unit {0}
Passes most (Some v) = in_range most v ≡ true

-- ---- clap fails exactly where a value is not in its range

-- the tests of the values that are given
abbrev test : ℕ → Option Text → List Bool
test most None = []
test most (Some v) = in_range most v ∷ []

abbrev tests : Option Text → Option Text → Option Text → List Bool
tests w p b = test 64 w ++ (test 4294967295 p ++ test 4294967295 b)

-- the fault of one word, and the first of several
abbrev word_fault : Bool → Kinds
word_fault passes = or_else (or_else (if passes then [] else kind.ValueValidation ∷ []) []) []

abbrev words_fault : List Bool → Kinds
words_fault [] = []
words_fault (b ∷ bs) = or_else (word_fault b) (words_fault bs)

fault_is : (w p b : Option Text) → fault_of numbers_app (asked w p b) ≡ or_else (words_fault (tests w p b)) []
unfolding clap_on_literals
fault_is None None None = refl
fault_is (Some v) None None = refl
fault_is None (Some u) None = refl
fault_is (Some v) (Some u) None = refl
fault_is None None (Some t) = refl
fault_is (Some v) None (Some t) = refl
fault_is None (Some u) (Some t) = refl
fault_is (Some v) (Some u) (Some t) = refl

abbrev AllTrue : List Bool → Type 0
AllTrue [] = Unit {0}
AllTrue (b ∷ bs) = (b ≡ true) × AllTrue bs

one_true : (b : Bool) (bs : List Bool) → b ≡ true → words_fault bs ≡ [] → words_fault (b ∷ bs) ≡ []
one_true true bs e none = none
one_true false bs e none = absurd cc

all_true : (bs : List Bool) → AllTrue bs → words_fault bs ≡ []
all_true [] h = refl
all_true (b ∷ bs) h = one_true b bs h.0 (all_true bs h.1)

true_of : (bs : List Bool) → words_fault bs ≡ [] → AllTrue bs
true_of [] e = tt
true_of (true ∷ bs) e = (refl, true_of bs e)
true_of (false ∷ bs) e = absurd cc

nothing_else : (ks : Kinds) → or_else ks [] ≡ ks
nothing_else [] = refl
nothing_else (k ∷ ks) = refl

with_test : (most : ℕ) (v : Option Text) (bs : List Bool) → Passes most v → AllTrue bs → AllTrue (test most v ++ bs)
with_test most None bs passes h = h
with_test most (Some v) bs passes h = (passes, h)

first_test : (most : ℕ) (v : Option Text) (bs : List Bool) → AllTrue (test most v ++ bs) → Passes most v
first_test most None bs h = tt
first_test most (Some v) bs h = h.0

other_tests : (most : ℕ) (v : Option Text) (bs : List Bool) → AllTrue (test most v ++ bs) → AllTrue bs
other_tests most None bs h = h
other_tests most (Some v) bs h = h.1

last_test : (most : ℕ) (v : Option Text) → Passes most v → AllTrue (test most v)
last_test most None passes = tt
last_test most (Some v) passes = (passes, tt)

pass_last : (most : ℕ) (v : Option Text) → AllTrue (test most v) → Passes most v
pass_last most None h = tt
pass_last most (Some v) h = h.0

no_fault : (w p b : Option Text) → Passes 64 w → Passes 4294967295 p → Passes 4294967295 b → fault_of numbers_app (asked w p b) ≡ []
no_fault w p b f g h =
    fault_is w p b ∙ (nothing_else (words_fault (tests w p b)) ∙ all_true (tests w p b) (with_test 64 w _ f (with_test 4294967295 p _ g (last_test 4294967295 b h))))

all_pass : (w p b : Option Text) → fault_of numbers_app (asked w p b) ≡ [] → Passes 64 w × Passes 4294967295 p × Passes 4294967295 b
all_pass w p b none =
    let tests_are = true_of (tests w p b) (sym (fault_is w p b ∙ nothing_else (words_fault (tests w p b))) ∙ none) in
    let others = other_tests 64 w (test 4294967295 p ++ test 4294967295 b) tests_are in
    (first_test 64 w (test 4294967295 p ++ test 4294967295 b) tests_are, first_test 4294967295 p (test 4294967295 b) others, pass_last 4294967295 b (other_tests 4294967295 p (test 4294967295 b) others))

-- ---- the texts that clap finds

abbrev Finds : Option Text → Option Text → Option Text → List Row → Type 0
Finds w p b rows = (one_of (codes "workers") rows ≡ Some (unwrap_or w (codes "4")))
    × (one_of (codes "part-edges") rows ≡ Some (unwrap_or p (codes "1000000")))
    × (one_of (codes "budget") rows ≡ Some (unwrap_or b (codes "16000000")))

finds : (w p b : Option Text) → Finds w p b (matches_of numbers_app (asked w p b))
unfolding clap_on_literals
finds None None None = (refl, refl, refl)
finds (Some v) None None = (refl, refl, refl)
finds None (Some u) None = (refl, refl, refl)
finds (Some v) (Some u) None = (refl, refl, refl)
finds None None (Some t) = (refl, refl, refl)
finds (Some v) None (Some t) = (refl, refl, refl)
finds None (Some u) (Some t) = (refl, refl, refl)
finds (Some v) (Some u) (Some t) = (refl, refl, refl)

texts_are : (w p b : Option Text) (f : Found) (rows : List Row) → rows_of f ≡ rows → Finds w p b rows → HasTexts f (unwrap_or w (codes "4")) (unwrap_or p (codes "1000000")) (unwrap_or b (codes "16000000"))
texts_are w p b f rows is finds = record {
  workers_is = one_text-rows f (codes "workers") ∙ (ap (one_of (codes "workers")) is ∙ finds.0);
  part_edges_is = one_text-rows f (codes "part-edges") ∙ (ap (one_of (codes "part-edges")) is ∙ finds.1);
  budget_is = one_text-rows f (codes "budget") ∙ (ap (one_of (codes "budget")) is ∙ finds.2);
}

-- ---- the numbers of values

from_range : (most : ℕ) (v : Text) → IsDigits v → in_range most v ≡ true → IsNumber 1 most v (digits_value 10 v)
from_range most v digits passes =
    let plain = no_plus v digits.0 digits.1 in
    let is = accepts-Accepts false (parser.Unsigned 1 most) v passes in
    let value : digits_value 10 (without_leading_plus v) ≡ digits_value 10 v = ap (digits_value 10) plain in
    let low = is.2 in
    let high = is.3 in
    record { some = digits.0; digits = digits.1; value = refl; not_less = omega arith; not_more = omega arith }

to_range : (most : ℕ) (v : Text) (n : ℕ) → most < 2 ^ 64 → IsNumber 1 most v n → in_range most v ≡ true
to_range most v n fits is =
    let plain = no_plus v is.some is.digits in
    let value : digits_value 10 (without_leading_plus v) ≡ n = ap (digits_value 10) plain ∙ is.value in
    let low = is.not_less in
    let high = is.not_more in
    Accepts-accepts false (parser.Unsigned 1 most) v (rw plain (is.some, all_digits v is.digits), omega arith, omega arith, omega arith)

number_of : (most default : ℕ) (default_text : Text) (v : Option Text) → IsNumber 1 most default_text default → IfSome v IsDigits → Passes most v → (n : ℕ) × IsNumber 1 most (unwrap_or v default_text) n × IsNumberOr default 1 most v n
number_of most default default_text None is digits passes = (default, is, refl)
number_of most default default_text (Some v) is digits passes = (digits_value 10 v, from_range most v digits passes, from_range most v digits passes)

passes_of : (most default : ℕ) (v : Option Text) (n : ℕ) → most < 2 ^ 64 → IsNumberOr default 1 most v n → Passes most v
passes_of most default None n fits is = tt
passes_of most default (Some v) n fits is = to_range most v n fits is

default_is : (most default : ℕ) (text : Text) → IsDigits text → digits_value 10 text ≡ default → 1 ≤ default → default ≤ most → IsNumber 1 most text default
default_is most default text digits value low high = record { some = digits.0; digits = digits.1; value = value; not_less = low; not_more = high }

-- numbers that are given are taken
no_fault_of : (w p b : Option Text) (n : RunOptions) → GiveNumbers w p b n → fault_of numbers_app (asked w p b) ≡ []
no_fault_of w p b n g =
    no_fault w p b (passes_of 64 4 w n.workers (omega arith) g.workers_is) (passes_of 4294967295 1000000 p n.part_edges (omega arith) g.part_edges_is) (passes_of 4294967295 16000000 b n.budget (omega arith) g.budget_is)

-- what clap finds without a fault are the numbers
pub numbers_found : (w p b : Option Text) (f : Found) (words : List Text) (o : Option RunOptions) → IfSome w IsDigits → IfSome p IsDigits → IfSome b IsDigits → words ≡ asked w p b → rows_of f ≡ matches_of numbers_app words → fault_of numbers_app words ≡ []
    → ((workers part_edges budget : Text) (n : RunOptions) → HasTexts f workers part_edges budget → IsNumber 1 64 workers n.workers → IsNumber 1 4294967295 part_edges n.part_edges → IsNumber 1 4294967295 budget n.budget → o ≡ Some n)
    → (n : RunOptions) × (o ≡ Some n) × GiveNumbers w p b n
numbers_found w p b f words o dw dp db are rows none taken =
    let pass = all_pass w p b (ap (fault_of numbers_app) (sym are) ∙ none) in
    let texts = texts_are w p b f (matches_of numbers_app (asked w p b)) (rows ∙ ap (matches_of numbers_app) are) (finds w p b) in
    let workers = number_of 64 4 (codes "4") w (default_is 64 4 (codes "4") (omega arith, search rules) refl (omega arith) (omega arith)) dw pass.0 in
    let edges = number_of 4294967295 1000000 (codes "1000000") p (default_is 4294967295 1000000 (codes "1000000") (omega arith, search rules) refl (omega arith) (omega arith)) dp pass.1 in
    let budget = number_of 4294967295 16000000 (codes "16000000") b (default_is 4294967295 16000000 (codes "16000000") (omega arith, search rules) refl (omega arith) (omega arith)) db pass.2 in
    let n : RunOptions = record { workers = workers.0; part_edges = edges.0; budget = budget.0 } in
    (n, taken _ _ _ n texts workers.1 edges.1 budget.1, record { workers_is = workers.2; part_edges_is = edges.2; budget_is = budget.2 })

pub no_fault_in : (w p b : Option Text) (words : List Text) → words ≡ asked w p b → (n : RunOptions) → GiveNumbers w p b n → fault_of numbers_app words ≡ []
no_fault_in w p b words are n g = ap (fault_of numbers_app) are ∙ no_fault_of w p b n g
