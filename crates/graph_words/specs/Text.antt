use Rattle.std.specs.Prelude.{◌≡◌, ℕ, ◌≤◌, Bool, true, false, not, ◌||◌, ◌&&◌, ◌==◌, nat_eq, nat_le, map, List, []}
use Rattle.std.specs.Prelude.{◌∷◌, ◌++◌, length, All, filter, if◌then◌else◌}
use Rattle.std.specs.List.{slice_split, flat_map, list_any, list_all, position_or_len}
use Rattle.std.specs.Str.Parse.{digits_value}
use lib.Pointwise.{pointwise}
use Rattle.graph_words.specs.declared.limits.TheConstants.{MOST_LABEL_BYTES}

-- a space or a tab
abbrev pub is_blank : ℕ → Bool
is_blank b = b == 32 || b == 9

abbrev pub has_bytes : List ℕ → Bool
has_bytes [] = false
has_bytes (b ∷ bs) = true

-- the words of a line: its longest runs of bytes other than blanks
abbrev pub words : List ℕ → List (List ℕ)
words line = filter has_bytes (slice_split is_blank line)

-- a word that begins with '#'
abbrev pub is_remark : List ℕ → Bool
is_remark [] = false
is_remark (b ∷ bs) = b == 35

-- a line with these words says nothing: there is none, or the first begins with '#'
abbrev pub is_skipped : List (List ℕ) → Bool
is_skipped [] = true
is_skipped (w ∷ ws) = is_remark w

-- 1 to MOST_LABEL_BYTES printed bytes
pub record IsLabel (name : List ℕ) : Type 0 where
  pub some : 1 ≤ length name
  pub short : length name ≤ MOST_LABEL_BYTES
  pub printed : All (λ b. (0x21 ≤ b) × (b ≤ 0x7E)) name

-- '0' to '9'
abbrev pub IsDigit : ℕ → Type 0
IsDigit b = (48 ≤ b) × (b ≤ 57)

-- the word writes the number in decimal digits, which may begin with zeros, and it is at most 16,777,215
pub record IsVertexNumber (word : List ℕ) (n : ℕ) : Type 0 where
  pub some : 1 ≤ length word
  pub digits : All IsDigit word
  pub value : digits_value 10 word ≡ n
  pub fits : n ≤ 16777215

-- the line says that an edge leads from source to destination with the label
pub record IsEdgeLine (line : List ℕ) (source destination : ℕ) (label : List ℕ) : Type 0 where
  pub source_word : List ℕ
  pub destination_word : List ℕ
  pub said : is_skipped (words line) ≡ false
  pub three : words line ≡ source_word ∷ destination_word ∷ label ∷ []
  pub source_is : IsVertexNumber source_word source
  pub destination_is : IsVertexNumber destination_word destination
  pub label_is : IsLabel label

-- the line is a rule with this left side and this right side
pub record IsRuleLine (line : List ℕ) (left : List ℕ) (right : List (List ℕ)) : Type 0 where
  pub said : is_skipped (words line) ≡ false
  pub spelled : words line ≡ left ∷ right
  pub labels : All IsLabel (left ∷ right)
  pub short : length right ≤ 64

abbrev pub same_name : List ℕ → List ℕ → Bool
same_name = pointwise nat_eq

-- the distinct names, by first occurrence: a name, and then the others
abbrev pub distinct : List (List ℕ) → List (List ℕ)
distinct [] = []
distinct (x ∷ xs) = x ∷ filter (λ y. not (same_name x y)) (distinct xs)

-- what stands behind the second word
abbrev pub third : List (List ℕ) → List (List ℕ)
third (a ∷ b ∷ c ∷ ws) = c ∷ []
third _ = []

-- the words of the lines that say something, line by line
abbrev pub said : List (List ℕ) → List (List (List ℕ))
said lines = filter (λ ws. not (is_skipped ws)) (map words lines)

-- the names of a grammar's lines and then of a graph's lines: the number of a name is its place here
abbrev pub names : List (List ℕ) → List (List ℕ) → List (List ℕ)
names grammar edges = distinct (flat_map (λ ws. ws) (said grammar) ++ flat_map third (said edges))

-- the names, and one more unless it is there
abbrev pub with_name : List (List ℕ) → List ℕ → List (List ℕ)
with_name names x = if list_any (λ y. same_name y x) names then names else names ++ x ∷ []

abbrev pub with_names : List (List ℕ) → List (List ℕ) → List (List ℕ)
with_names names [] = names
with_names names (x ∷ xs) = with_names (with_name names x) xs

-- the same as a test
abbrev pub is_label_word : List ℕ → Bool
is_label_word name = nat_le 1 (length name) && nat_le (length name) MOST_LABEL_BYTES && list_all (λ b. nat_le 0x21 b && nat_le b 0x7E) name

-- a number to 16,777,215 in decimal digits, as a test
abbrev pub is_vertex_word : List ℕ → Bool
is_vertex_word word = nat_le 1 (length word) && list_all (λ b. nat_le 48 b && nat_le b 57) word && nat_le (digits_value 10 word) 16777215

-- the number of a name: how many names stand before it
abbrev pub place_of : List (List ℕ) → List ℕ → ℕ
place_of names x = position_or_len (same_name x) names
