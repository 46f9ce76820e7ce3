-- How words are cut, as the code walks over them.
use Rattle.std.specs.Prelude.{ℕ, ◌==◌, List, [], ◌∷◌, ◌++◌, Option, Some, None, if◌then◌else◌, option_map, option_and_then, nat_lt, length}
use Rattle.std.specs.List.{before_first, after_first, position_or_len}
use Rattle.command_words.specs.Words.{GivenOption, given, is_dashed}
use Rattle.command_words.specs.declared.kind.WordKind as kinds
use Rattle.command_words.specs.declared.kind.WordKind.TheVariants as variants
use Rattle.command_words.specs.declared.cut_words.Given as givens
use Rattle.command_words.specs.declared.cut_words.Next as nexts
use Rattle.command_words.specs.declared.cut_words.Next.TheVariants as next_variants

-- options and plain words
pub record Cut : Type 0 where
  pub options : List GivenOption
  pub plain : List (List ℕ)

abbrev pub nothing : Cut
nothing = record { options = []; plain = [] }

-- what stands behind two '-'
abbrev pub behind_dash : List ℕ → Option (List ℕ)
behind_dash [] = None
behind_dash (b ∷ bs) = if b == 45 then Some bs else None

abbrev pub behind_dashes : List ℕ → Option (List ℕ)
behind_dashes word = option_and_then behind_dash (behind_dash word)

-- what a word is: a plain word, `--`, `--name=value`, or `--name`
pub data Kind : Type 0 where
  plain : Kind
  rest : Kind
  joined : (name value : List ℕ) → Kind
  alone : (name : List ℕ) → Kind

-- what a word behind two '-' is
abbrev pub kind_behind : List ℕ → Kind
kind_behind [] = rest
kind_behind (b ∷ bs) =
    let text = b ∷ bs in
    if nat_lt (position_or_len (λ c. c == 61) text) (length text)
    then joined (before_first (λ c. c == 61) text) (after_first (λ c. c == 61) text)
    else alone text

-- what a word is, and none where it begins with one '-'
abbrev pub kind_of : List ℕ → Option Kind
kind_of word = if is_dashed word then option_map kind_behind (behind_dashes word) else Some plain

-- what the next word may be: an option or a plain word, the value of an option, or a plain word alone
pub data Next : Type 0 where
  any : Next
  value_for : (name : List ℕ) → Next
  only_plain : Next

-- one option before a cut, and one plain word
abbrev pub with_option : List ℕ → List ℕ → Option Cut → Option Cut
with_option name value None = None
with_option name value (Some c) = Some (record c { options = given name value ∷ c.options })

abbrev pub with_plain : List ℕ → Option Cut → Option Cut
with_plain word None = None
with_plain word (Some c) = Some (record c { plain = word ∷ c.plain })

-- a word of this kind, and behind it what is cut where this may be next
abbrev pub cut_kind : List ℕ → Option Kind → (Next → Option Cut) → Option Cut
cut_kind word None cut = None
cut_kind word (Some plain) cut = with_plain word (cut any)
cut_kind word (Some rest) cut = cut only_plain
cut_kind word (Some (joined name value)) cut = with_option name value (cut any)
cut_kind word (Some (alone name)) cut = cut (value_for name)

abbrev pub cut_word : List ℕ → Next → (Next → Option Cut) → Option Cut
cut_word word any cut = cut_kind word (kind_of word) cut
cut_word word (value_for name) cut = if is_dashed word then None else with_option name word (cut any)
cut_word word only_plain cut = with_plain word (cut only_plain)

-- the end of the words
abbrev pub cut_end : Next → Option Cut
cut_end (value_for name) = None
cut_end _ = Some nothing

-- the words as they are cut, where they can be
abbrev pub cut_from : List (List ℕ) → Next → Option Cut
cut_from [] next = cut_end next
cut_from (word ∷ words) next = cut_word word next (cut_from words)

-- what is cut so far, and what may be next
pub record Cutting : Type 0 where
  pub cut : Cut
  pub next : Next

-- a cut that goes on behind another
abbrev pub behind : Cut → Option Cut → Option Cut
behind first None = None
behind first (Some c) = Some (record { options = first.options ++ c.options; plain = first.plain ++ c.plain })

-- the whole cut, where these words are still to come
abbrev pub whole : Cutting → List (List ℕ) → Option Cut
whole c words = behind c.cut (cut_from words c.next)

-- the kind that the code found, its names as bytes
abbrev pub kind_said : kinds.WordKind → Kind
kind_said variants.Plain = plain
kind_said variants.Rest = rest
kind_said (variants.Joined name value) = joined name.now value.now
kind_said (variants.Alone name) = alone name.now

-- an option as the code has it
abbrev pub given_said : givens.Given → GivenOption
given_said o = given o.name.now o.value.now

abbrev pub next_said : nexts.Next → Next
next_said next_variants.Any = any
next_said (next_variants.Value name) = value_for name.now
next_said next_variants.OnlyPlain = only_plain
