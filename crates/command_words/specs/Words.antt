-- Options and plain words.
use Rattle.std.specs.Prelude.{◌≡◌, ◌≢◌, ℕ, ◌==◌, Bool, false, List, [], ◌∷◌, ◌++◌, codes, Contains}

-- the word begins with '-'
abbrev pub is_dashed : List ℕ → Bool
is_dashed [] = false
is_dashed (b ∷ bs) = b == 45

-- an option that is given: its name, without the two '-' before it, and its value
pub record GivenOption : Type 0 where
  pub name : List ℕ
  pub value : List ℕ

-- an option with this name and this value
abbrev pub given : List ℕ → List ℕ → GivenOption
given name value = record { name = name; value = value }

-- The words are cut, one after the other, into the options that are given and the plain words.
pub data Cuts : List (List ℕ) → List GivenOption → List (List ℕ) → Type 0 where
  -- no word is left
  none : Cuts [] [] []
  -- a plain word
  plain : {word : List ℕ} {words : List (List ℕ)} {options : List GivenOption} {plains : List (List ℕ)}
      → is_dashed word ≡ false → Cuts words options plains → Cuts (word ∷ words) options (word ∷ plains)
  -- `--name=value`, at the first '='
  joined : {word : List ℕ} {words : List (List ℕ)} {options : List GivenOption} {plains : List (List ℕ)}
      (name value : List ℕ) → word ≡ codes "--" ++ (name ++ (codes "=" ++ value)) → (Contains name 61 → ⊥)
      → Cuts words options plains → Cuts (word ∷ words) (given name value ∷ options) plains
  -- `--name` and its value, which is the next word
  apart : {word value : List ℕ} {words : List (List ℕ)} {options : List GivenOption} {plains : List (List ℕ)}
      (name : List ℕ) → word ≡ codes "--" ++ name → name ≢ [] → (Contains name 61 → ⊥) → is_dashed value ≡ false
      → Cuts words options plains → Cuts (word ∷ value ∷ words) (given name value ∷ options) plains
  -- behind `--` each word is plain
  rest : {word : List ℕ} {words : List (List ℕ)} → word ≡ codes "--" → Cuts (word ∷ words) [] words
