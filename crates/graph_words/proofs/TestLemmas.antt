-- What the tests of words say, and that they say it.
use Rattle.std.proofs.Common.{◌≡◌, ℕ, ◌≤◌, Bool, true, false, ◌&&◌, List, [], ◌∷◌, length, refl, arith}
use Rattle.std.specs.Prelude.{All, nat_le}
use Rattle.std.specs.List.{list_all}
use Rattle.std.specs.Str.Parse.{digits_value}
use Rattle.std.proofs.lemmas.Bool.{false≢true}
use Rattle.std.proofs.lemmas.Bool.Decides.{nat_tests}
use Rattle.std.proofs.lemmas.List.Elements.{All-nil, All-cons, All-head, All-tail}
use Rattle.graph_words.specs.Text.{IsDigit, IsLabel, IsVertexNumber, is_label_word, is_vertex_word}
use Rattle.graph_words.specs.declared.limits.TheConstants.{MOST_LABEL_BYTES}

and_true : (a b : Bool) → a ≡ true → b ≡ true → (a && b) ≡ true
and_true true b e f = f
and_true false b e f = e

and_left : (a b : Bool) → (a && b) ≡ true → a ≡ true
and_left true b e = refl
and_left false b e = e

and_right : (a b : Bool) → (a && b) ≡ true → b ≡ true
and_right true b e = e
and_right false b e = absurd (false≢true e)

is_false : (a : Bool) → (a ≡ true → ⊥) → a ≡ false
is_false true h = absurd (h refl)
is_false false h = refl

all_true : (p : ℕ → Bool) (P : ℕ → Type 0) → ((b : ℕ) → P b → p b ≡ true) → (xs : List ℕ) → All P xs → list_all p xs ≡ true
all_true p P f [] h = refl
all_true p P f (x ∷ xs) h = and_true (p x) (list_all p xs) (f x (All-head P x xs h)) (all_true p P f xs (All-tail P x xs h))

true_all : (p : ℕ → Bool) (P : ℕ → Type 0) → ((b : ℕ) → p b ≡ true → P b) → (xs : List ℕ) → list_all p xs ≡ true → All P xs
true_all p P f [] h = All-nil P
true_all p P f (x ∷ xs) h = All-cons P x xs (f x (and_left (p x) (list_all p xs) h)) (true_all p P f xs (and_right (p x) (list_all p xs) h))

le_true : (a b : ℕ) → a ≤ b → nat_le a b ≡ true
le_true a b h = grind (arith, nat_tests)

true_le : (a b : ℕ) → nat_le a b ≡ true → a ≤ b
true_le a b h = grind (arith, nat_tests)

between_true : (a c b : ℕ) → (a ≤ b) × (b ≤ c) → (nat_le a b && nat_le b c) ≡ true
between_true a c b h = and_true (nat_le a b) (nat_le b c) (le_true a b h.0) (le_true b c h.1)

true_between : (a c b : ℕ) → (nat_le a b && nat_le b c) ≡ true → (a ≤ b) × (b ≤ c)
true_between a c b h = (true_le a b (and_left (nat_le a b) (nat_le b c) h), true_le b c (and_right (nat_le a b) (nat_le b c) h))

pub vertex_yes : (w : List ℕ) (n : ℕ) → IsVertexNumber w n → is_vertex_word w ≡ true
vertex_yes w n v =
    let fits : digits_value 10 w ≤ 16777215 = let a = v.value in let b = v.fits in omega arith in
    and_true _ _ (and_true _ _ (le_true 1 (length w) v.some) (all_true (λ b. nat_le 48 b && nat_le b 57) IsDigit (between_true 48 57) w v.digits)) (le_true (digits_value 10 w) 16777215 fits)

pub vertex_no : (w : List ℕ) → ((n : ℕ) → IsVertexNumber w n → ⊥) → is_vertex_word w ≡ false
vertex_no w none =
    is_false (is_vertex_word w)
    (λ yes.
    let front = and_left (nat_le 1 (length w) && list_all (λ b. nat_le 48 b && nat_le b 57) w) (nat_le (digits_value 10 w) 16777215) yes in
    let back = and_right (nat_le 1 (length w) && list_all (λ b. nat_le 48 b && nat_le b 57) w) (nat_le (digits_value 10 w) 16777215) yes in
    none (digits_value 10 w)
    (record {
      some = true_le 1 (length w) (and_left (nat_le 1 (length w)) (list_all (λ b. nat_le 48 b && nat_le b 57) w) front);
      digits = true_all (λ b. nat_le 48 b && nat_le b 57) IsDigit (true_between 48 57) w (and_right (nat_le 1 (length w)) (list_all (λ b. nat_le 48 b && nat_le b 57) w) front);
      value = refl;
      fits = true_le (digits_value 10 w) 16777215 back;
    }))

pub label_yes : (w : List ℕ) → IsLabel w → is_label_word w ≡ true
label_yes w l =
    and_true _ _ (and_true _ _ (le_true 1 (length w) l.some) (le_true (length w) MOST_LABEL_BYTES l.short)) (all_true (λ b. nat_le 0x21 b && nat_le b 0x7E) (λ b. (0x21 ≤ b) × (b ≤ 0x7E)) (between_true 0x21 0x7E) w l.printed)

-- what passes the test is a label
pub label_from_test : (w : List ℕ) → is_label_word w ≡ true → IsLabel w
label_from_test w passes =
    let front = and_left (nat_le 1 (length w) && nat_le (length w) MOST_LABEL_BYTES) (list_all (λ b. nat_le 0x21 b && nat_le b 0x7E) w) passes in
    record {
      some = true_le 1 (length w) (and_left (nat_le 1 (length w)) (nat_le (length w) MOST_LABEL_BYTES) front);
      short = true_le (length w) MOST_LABEL_BYTES (and_right (nat_le 1 (length w)) (nat_le (length w) MOST_LABEL_BYTES) front);
      printed = true_all (λ b. nat_le 0x21 b && nat_le b 0x7E) (λ b. (0x21 ≤ b) × (b ≤ 0x7E)) (true_between 0x21 0x7E) w (and_right (nat_le 1 (length w) && nat_le (length w) MOST_LABEL_BYTES) (list_all (λ b. nat_le 0x21 b && nat_le b 0x7E) w) passes);
    }

-- words that pass the test are labels
pub labels_from_test : (ws : List (List ℕ)) → list_all is_label_word ws ≡ true → All IsLabel ws
labels_from_test [] passes = All-nil IsLabel
labels_from_test (w ∷ ws) passes = All-cons IsLabel w ws (label_from_test w (and_left (is_label_word w) (list_all is_label_word ws) passes)) (labels_from_test ws (and_right (is_label_word w) (list_all is_label_word ws) passes))

-- what is no label does not pass
pub label_no : (w : List ℕ) → (IsLabel w → ⊥) → is_label_word w ≡ false
label_no w none = is_false (is_label_word w) (λ passes. none (label_from_test w passes))
