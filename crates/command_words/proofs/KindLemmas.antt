-- What kind a word is.
use Rattle.std.proofs.Common.{◌≡◌, ◌≢◌, ◌<◌, ◌≤◌, ◌+◌, ◌==◌, ℕ, Bool, true, false, List, [], ◌∷◌, ◌++◌, Option, Some, None, length, take, drop, get_or, codes, Contains, min, option_map, option_and_then, unwrap_or, cond, nat_lt, arith, ap, ap₂, refl, sym, ◌∙◌}
use Rattle.std.specs.List.{position_or_len, before_first, after_first}
use Rattle.std.proofs.lemmas.Bool.{ne_eqb, eqb-true, lt-ltb, le-ltb, ltb-true, ltb-false}
use Rattle.std.proofs.lemmas.List.{length-take, get_or-take, take_at, get_or_at, get_or_default, get_or_append_left, length-append}
use Rattle.std.proofs.Math.Seq.{drop-append-add}
use Rattle.std.proofs.lemmas.List.Sums.{position_or_len_is, fails_before_first, passes_at_first, split_at_first}
use Rattle.command_words.specs.Words.{is_dashed}
use Rattle.command_words.specs.CutWords.{Kind, plain, rest, joined, alone, behind_dash, behind_dashes, kind_behind, kind_of}

abbrev is_equals : ℕ → Bool
is_equals b = b == 61

-- the kind says how the word is spelled
abbrev pub KindIs : List ℕ → Option Kind → Type 0
KindIs word None = Unit {0}
KindIs word (Some plain) = is_dashed word ≡ false
KindIs word (Some rest) = word ≡ codes "--"
KindIs word (Some (joined name value)) = (word ≡ codes "--" ++ (name ++ (codes "=" ++ value))) × (Contains name 61 → ⊥)
KindIs word (Some (alone name)) = (word ≡ codes "--" ++ name) × (name ≢ []) × (Contains name 61 → ⊥)

no_equals : (name : List ℕ) → (Contains name 61 → ⊥) → (k : ℕ) → k < length name → is_equals (get_or name k 0) ≡ false
no_equals name none k h = ne_eqb (get_or name k 0) 61 (λ e. none (k, h, at name k h e))
  where
    at : (name : List ℕ) (k : ℕ) → k < length name → get_or name k 0 ≡ 61 → get_or name k 61 ≡ 61
    at name k h e = get_or_default name k 61 0 h ∙ e

-- the first '=' stands behind a name without one
first_equals : (name value : List ℕ) → (Contains name 61 → ⊥) → position_or_len is_equals (name ++ 61 ∷ value) ≡ length name
first_equals name value none =
    position_or_len_is is_equals (name ++ 61 ∷ value) (length name) 0 (let len = length-append name (61 ∷ value) in omega arith)
    (λ k h. ap is_equals (get_or_append_left name (61 ∷ value) 0 k h) ∙ no_equals name none k h)
    (λ _. ap is_equals (get_or_at name 61 value 0 (length name) refl))

no_first : (name : List ℕ) → (Contains name 61 → ⊥) → position_or_len is_equals name ≡ length name
no_first name none = position_or_len_is is_equals name (length name) 0 (omega arith) (no_equals name none) (λ h. absurd (omega arith))

pub joined_is : (name value text : List ℕ) → (Contains name 61 → ⊥) → text ≡ name ++ 61 ∷ value → kind_behind text ≡ joined name value
joined_is name value [] none e = absurd (let len = ap length e in let sum = length-append name (61 ∷ value) in omega arith)
joined_is name value (b ∷ bs) none e =
    let place : position_or_len is_equals (b ∷ bs) ≡ length name = ap (position_or_len is_equals) e ∙ first_equals name value none in
    let len : length (b ∷ bs) ≡ length name + length (61 ∷ value) = ap length e ∙ length-append name (61 ∷ value) in
    let there : nat_lt (position_or_len is_equals (b ∷ bs)) (length (b ∷ bs)) ≡ true = lt-ltb _ _ (omega arith) in
    let before : before_first is_equals (b ∷ bs) ≡ name = ap (λ n. take n (b ∷ bs)) place ∙ (ap (take (length name)) e ∙ take_at name (61 ∷ value) (length name) refl) in
    let more : after_first is_equals (b ∷ bs) ≡ value =
    ap (λ n. drop (n + 1) (b ∷ bs)) place ∙ (ap (drop (length name + 1)) e ∙ drop_more name value) in
    ap (λ t. cond t (joined (before_first is_equals (b ∷ bs)) (after_first is_equals (b ∷ bs))) (alone (b ∷ bs))) there ∙ ap₂ joined before more
  where
    drop_more : (name value : List ℕ) → drop (length name + 1) (name ++ 61 ∷ value) ≡ value
    drop_more name value = drop-append-add name (61 ∷ value) 1

pub alone_is : (name : List ℕ) → name ≢ [] → (Contains name 61 → ⊥) → kind_behind name ≡ alone name
alone_is [] some none = absurd (some refl)
alone_is (b ∷ bs) some none =
    let place = no_first (b ∷ bs) none in
    let last : nat_lt (position_or_len is_equals (b ∷ bs)) (length (b ∷ bs)) ≡ false = le-ltb _ _ (omega arith) in
    ap (λ t. cond t (joined (before_first is_equals (b ∷ bs)) (after_first is_equals (b ∷ bs))) (alone (b ∷ bs))) last

-- a word that begins with two '-'
module _ (a : ℕ) (text : List ℕ) where
  two : (b : ℕ) (bs : List ℕ) (t : Bool) → (b == 45) ≡ t → a ≡ 45 → cond t (Some bs) None ≡ Some text → a ∷ b ∷ bs ≡ 45 ∷ 45 ∷ text
  two b bs false is first e = absurd cc
  two b bs true is first e =
      let second : b ≡ 45 = eqb-true b 45 is in
      let same : bs ≡ text = ap (λ o. unwrap_or o []) e in
      rw (first, second, same) refl

  one : (bs : List ℕ) (t : Bool) → (a == 45) ≡ t → option_and_then behind_dash (cond t (Some bs) None) ≡ Some text → a ∷ bs ≡ 45 ∷ 45 ∷ text
  one bs false is e = absurd cc
  one [] true is e = absurd cc
  one (b ∷ bs) true is e = two b bs (b == 45) refl (eqb-true a 45 is) e

dashes_is : (word text : List ℕ) → behind_dashes word ≡ Some text → word ≡ 45 ∷ 45 ∷ text
dashes_is [] text e = absurd cc
dashes_is (a ∷ bs) text e = one a text bs (a == 45) refl e

-- no '=' stands before the first
none_before : (text name : List ℕ) → name ≡ before_first is_equals text → Contains name 61 → ⊥
none_before text name e c =
    let len : length name ≡ min (position_or_len is_equals text) (length text) = ap length e ∙ length-take (position_or_len is_equals text) text in
    let low : c.0 < position_or_len is_equals text = let h = c.1 in omega arith in
    let at : get_or text c.0 61 ≡ 61 = sym (ap (λ l. get_or l c.0 61) e ∙ get_or-take (position_or_len is_equals text) text c.0 61 low) ∙ c.2 in
    let no = fails_before_first is_equals text c.0 61 low in
    let yes : is_equals (get_or text c.0 61) ≡ true = ap is_equals at in
    cc

none_in : (text : List ℕ) → length text ≤ position_or_len is_equals text → Contains text 61 → ⊥
none_in text h c =
    let within = c.1 in
    let no = fails_before_first is_equals text c.0 61 (omega arith) in
    let yes : is_equals (get_or text c.0 61) ≡ true = ap is_equals c.2 in
    cc

module _ (word : List ℕ) where
  at_equals : (b : ℕ) (bs : List ℕ) (t : Bool) → nat_lt (position_or_len is_equals (b ∷ bs)) (length (b ∷ bs)) ≡ t → word ≡ 45 ∷ 45 ∷ b ∷ bs
      → KindIs word (Some (cond t (joined (before_first is_equals (b ∷ bs)) (after_first is_equals (b ∷ bs))) (alone (b ∷ bs))))
  at_equals b bs true is e =
      let within = ltb-true _ _ is in
      let at : get_or (b ∷ bs) (position_or_len is_equals (b ∷ bs)) 61 ≡ 61 = eqb-true _ 61 (passes_at_first is_equals (b ∷ bs) 61 within) in
      let parts = split_at_first is_equals (b ∷ bs) 61 within in (
        e ∙ ap (λ l. 45 ∷ 45 ∷ l) (parts ∙ ap (λ x. before_first is_equals (b ∷ bs) ++ (x ∷ after_first is_equals (b ∷ bs))) at),
        none_before (b ∷ bs) (before_first is_equals (b ∷ bs)) refl,
      )
  at_equals b bs false is e = (e, (λ empty. cc), none_in (b ∷ bs) (ltb-false _ _ is))

  behind : (o : Option (List ℕ)) → behind_dashes word ≡ o → KindIs word (option_map kind_behind o)
  behind None e = tt
  behind (Some []) e = dashes_is word [] e
  behind (Some (b ∷ bs)) e = at_equals b bs (nat_lt (position_or_len is_equals (b ∷ bs)) (length (b ∷ bs))) refl (dashes_is word (b ∷ bs) e)

  by_dash : (t : Bool) → is_dashed word ≡ t → KindIs word (cond t (option_map kind_behind (behind_dashes word)) (Some plain))
  by_dash true e = behind (behind_dashes word) refl
  by_dash false e = e

pub kind_is : (word : List ℕ) → KindIs word (kind_of word)
kind_is word = by_dash word (is_dashed word) refl
