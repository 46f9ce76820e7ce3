-- Programs, and the first token that none goes on with.
use Rattle.std.specs.Prelude.{◌≡◌, ◌⊎◌, ℕ, ◌+◌, ◌≤◌, Bool, List, [], ◌∷◌, ◌++◌, length, take, map, None, is_some, Result, Ok, Err}
use Rattle.faults.specs.declared.kinds.InputKind.{InputKind}
use Rattle.faults.specs.declared.kinds.InputKind.TheVariants.{Unexpected, TooDeep}
use Rattle.c_lexer.specs.declared.token.Token.{Token}
use Rattle.c_tree.specs.declared.tree.Item.{Item}
use Rattle.c_tree.specs.declared.tree.Program.{Program}
use Rattle.c_tree.specs.declared.fault.ReadFault.{ReadFault}
use Rattle.c_tree.specs.declared.fault.ReadFault.TheVariants as read
use Rattle.c_tree.specs.Said.{Kind, Said, nothing, ◌⨾◌}
use Rattle.c_tree.specs.Grammar.{item_said}
use Rattle.c_tree.specs.Tokens.{Source, name_of}
use Rattle.c_tree.specs.Reading.{Placed, kinds_of, ReadsAt, RefusesAt}
use Rattle.c_parser.specs.declared.fault.ParseFault.{ParseFault}
use Rattle.c_parser.specs.declared.fault.ParseFault.TheVariants as fault

-- an item, and how it writes no parameters: as `(void)`, or as `()`
abbrev pub Written : Type 0
Written = Bool × Item

abbrev pub written_said : Written → Said
written_said x = item_said x.0 x.1

-- one item after the other, which more may follow up to the end
abbrev pub all_said : List Said → Said
all_said [] = nothing is_some
all_said (x ∷ xs) = x ⨾ all_said xs

abbrev pub program_said : List Written → Said
program_said items = all_said (map written_said items)

abbrev pub items_of : List Written → List Item
items_of items = map (λ (x : Written). x.1) items

-- a program that spells these tokens, whatever levels it opens
pub record IsWritten (s : Source) (items : List Written) : Type 0 where
  pub spelled : (program_said items).kinds ≡ kinds_of s.tokens
  pub nearest : (program_said items).strays ≡ 0
  pub placed : Placed (name_of s) 0 (program_said items).kept

-- the same, in one way or another of writing no parameters
pub record IsProgram (s : Source) (items : List Item) : Type 0 where
  pub written : List Written
  pub items_are : items_of written ≡ items
  pub is : IsWritten s written

-- a program of these tokens within the bound, and the only one of them
pub record IsOnlyProgram (s : Source) (program : Program) : Type 0 where
  pub written : List Written
  pub items_are : items_of written ≡ program.items
  pub is : IsWritten s written
  pub within : (program_said written).levels ≤ 200
  pub only : (other : List Item) → IsProgram s other → other ≡ program.items

-- the tokens, and the end behind them
abbrev pub ended : List Kind → List Kind
ended kinds = kinds ++ None ∷ []

-- some program of at most so many levels, with the end behind it, begins with these tokens
pub record BeginsProgram (room : ℕ) (front : List Kind) : Type 0 where
  pub written : List Written
  pub more : List Kind
  pub spelled : ended (program_said written).kinds ≡ front ++ more
  pub nearest : (program_said written).strays ≡ 0
  pub within : (program_said written).levels ≤ room

-- A program begins with the tokens before this one, and none with it; the end counts as a token.
-- It is TooDeep exactly where one of more levels would go on.
pub record IsFirstWrong (kinds : List Kind) (token : ℕ) (kind : InputKind) : Type 0 where
  pub inside : token ≤ length kinds
  pub before : BeginsProgram 200 (take token (ended kinds))
  pub none : BeginsProgram 200 (take (token + 1) (ended kinds)) → ⊥
  pub deep : kind ≡ TooDeep → (room : ℕ) × BeginsProgram room (take (token + 1) (ended kinds))
  pub flat : kind ≡ Unexpected → (room : ℕ) → BeginsProgram room (take (token + 1) (ended kinds)) → ⊥
  pub named : (kind ≡ TooDeep) ⊎ (kind ≡ Unexpected)

abbrev pub IsFaultOf : List Token → ParseFault → Type 0
IsFaultOf tokens (fault.At token kind) = IsFirstWrong (kinds_of tokens) token kind
IsFaultOf tokens fault.NoMemory = Unit {0}

-- what the reader of all items answers
abbrev pub AnswersProgram : Source → ℕ → Result (List Item) ReadFault → Type 0
AnswersProgram s room (Ok items) =
    (written : List Written) × (items_of written ≡ items) × ReadsAt program_said s 0 room written (length s.tokens)
AnswersProgram s room (Err (read.At token why)) = RefusesAt program_said s 0 room token why
AnswersProgram s room (Err read.NoMemory) = Unit {0}
