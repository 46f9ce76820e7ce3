-- What it is to read a tree at the front of tokens, and to refuse them at one.
use Rattle.std.specs.Prelude.{◌≡◌, ℕ, ◌+◌, ◌≤◌, false, List, [], ◌∷◌, ◌++◌, length, drop, map, Option, Some, None, Result, Ok, Err}
use Rattle.c_lexer.specs.declared.token.Token.{Token}
use Rattle.c_tree.specs.declared.tree.Name.{Name}
use Rattle.c_tree.specs.declared.fault.Wrong.{Wrong}
use Rattle.c_tree.specs.declared.fault.Wrong.TheVariants as wrong
use Rattle.c_tree.specs.declared.fault.ReadFault.{ReadFault}
use Rattle.c_tree.specs.declared.fault.ReadFault.TheVariants as fault
use Rattle.c_tree.specs.Said.{Kind, Kept, Said}
use Rattle.c_tree.specs.Tokens.{Source, name_of}

-- ---- the tokens that a tree keeps
abbrev pub HasBytes : Option (List ℕ) → List ℕ → Type 0
HasBytes None bytes = Unit {0}
HasBytes (Some kept) bytes = kept ≡ bytes

-- a kept token is this one
abbrev pub IsKept : Kept → Name → Type 0
IsKept x name = (x.tok ≡ name.tok) × HasBytes x.bytes name.bytes

-- each kept token is the one that stands there
abbrev pub Placed : (ℕ → Name) → ℕ → List Kept → Type 0
Placed stood at [] = Unit {0}
Placed stood at (x ∷ xs) = IsKept x (stood (at + x.offset)) × Placed stood at xs

-- ---- the kinds of its tokens
-- something follows, and the tree doesn't go on with it
abbrev pub Stops : Said → List Kind → Type 0
Stops s [] = ⊥
Stops s (k ∷ r) = s.goes_on k ≡ false

-- two trees that keep the same tokens are one
abbrev pub Same : {T : Type 0} → (T → Said) → T → T → Type 0
Same said t u = (stood : ℕ → Name) (at : ℕ) → Placed stood at (said t).kept → Placed stood at (said u).kept → t ≡ u

-- whatever else could be read where this tree was is this tree
abbrev pub Only : {T : Type 0} → (T → Said) → T → Type 0
Only {T} said t = (u : T) (r r' : List Kind) → (said t).kinds ++ r ≡ (said u).kinds ++ r' → Stops (said t) r → Stops (said u) r' → (said u).strays ≡ 0 → (r ≡ r') × Same said t u

-- a tree at the front of the input, and what is left behind it
pub record Reads {T : Type 0} (said : T → Said) (input : List Kind) (room : ℕ) (t : T) (rest : List Kind) : Type 0 where
  pub spelled : input ≡ (said t).kinds ++ rest
  pub within : (said t).levels ≤ room
  pub nearest : (said t).strays ≡ 0
  pub stops : Stops (said t) rest
  pub only : Only said t

-- some tree begins with these tokens
pub record Begins {T : Type 0} (said : T → Said) (room : ℕ) (front : List Kind) : Type 0 where
  pub tree : T
  pub more : List Kind
  pub spelled : (said tree).kinds ≡ front ++ more
  pub within : (said tree).levels ≤ room
  pub nearest : (said tree).strays ≡ 0

-- the trees that a refusal speaks of: those within the room where it is TooDeep, else all
abbrev pub Counts : Wrong → ℕ → ℕ → Type 0
Counts wrong.Unexpected room levels = Unit {0}
Counts wrong.TooDeep room levels = levels ≤ room

-- what TooDeep says besides: without the bound on levels some tree begins with the token too
abbrev pub GoesOn : {T : Type 0} → Wrong → (T → Said) → List Kind → Type 0
GoesOn wrong.Unexpected said front = Unit {0}
GoesOn wrong.TooDeep said front = (room : ℕ) × Begins said room front

-- some tree begins with the tokens of `front`, and none goes on with `bad`
pub record Refuses {T : Type 0} (said : T → Said) (input : List Kind) (room : ℕ) (front : List Kind) (bad : Kind) (why : Wrong) : Type 0 where
  pub rest : List Kind
  pub stands : input ≡ front ++ bad ∷ rest
  pub some : Begins said room front
  pub none : (t : T) (r more : List Kind) → (said t).kinds ++ r ≡ front ++ bad ∷ more → Stops (said t) r → (said t).strays ≡ 0 → Counts why room (said t).levels → ⊥
  pub deep : GoesOn why said (front ++ bad ∷ [])

-- ---- at a place of the tokens
abbrev pub kinds_of : List Token → List Kind
kinds_of tokens = map (λ (t : Token). Some t.kind) tokens

-- the tokens from a place on, with the end behind them
abbrev pub from : List Token → ℕ → List Kind
from tokens at = kinds_of (drop at tokens) ++ None ∷ []

-- the tree stands from `at` to `next`
pub record ReadsAt {T : Type 0} (said : T → Said) (s : Source) (at room : ℕ) (t : T) (next : ℕ) : Type 0 where
  pub reads : Reads said (from s.tokens at) room t (from s.tokens next)
  pub inside : next ≤ length s.tokens
  pub place : next ≡ at + length (said t).kinds
  pub placed : Placed (name_of s) at (said t).kept

pub record RefusesAt {T : Type 0} (said : T → Said) (s : Source) (at room token : ℕ) (why : Wrong) : Type 0 where
  pub front : List Kind
  pub bad : Kind
  pub refuses : Refuses said (from s.tokens at) room front bad why
  pub place : token ≡ at + length front

-- the answer of a function that reads a tree
abbrev pub Answers : {T : Type 0} → (T → Said) → Source → ℕ → ℕ → Result (T × ℕ) ReadFault → Type 0
Answers said s at room (Ok (t, next)) = ReadsAt said s at room t next
Answers said s at room (Err (fault.At token why)) = RefusesAt said s at room token why
Answers said s at room (Err fault.NoMemory) = Unit {0}
