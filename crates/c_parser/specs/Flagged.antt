-- What a reader of parameters and of functions answers: the tree, written in one of two ways.
use Rattle.std.specs.Prelude.{◌≡◌, ℕ, ◌+◌, Bool, List, Some, Result, Ok, Err}
use Rattle.c_lexer.specs.declared.token.Token.{Token}
use Rattle.c_lexer.specs.declared.token.TokenKind.TheVariants as k
use Rattle.c_tree.specs.declared.tree.Param.{Param}
use Rattle.c_tree.specs.declared.fault.ReadFault.{ReadFault}
use Rattle.c_tree.specs.declared.fault.ReadFault.TheVariants as fault
use Rattle.c_tree.specs.Said.{Said}
use Rattle.c_tree.specs.Grammar.{params_said}
use Rattle.c_tree.specs.Tokens.{Source, kind_at}
use Rattle.c_tree.specs.Reading.{ReadsAt, RefusesAt}

-- `void` alone in its brackets: no parameters
abbrev pub SaysVoid : List Token → ℕ → Type 0
SaysVoid tokens at = (kind_at tokens at ≡ Some k.Void) × (kind_at tokens (at + 1) ≡ Some k.CloseParen)

abbrev pub params_of : Bool × List Param → Said
params_of x = params_said x.0 x.1

abbrev pub AnswersFlagged : {T : Type 0} → (Bool × T → Said) → Source → ℕ → ℕ → Result (T × ℕ) ReadFault → Type 0
AnswersFlagged said s at room (Ok (t, next)) = (flag : Bool) × ReadsAt said s at room (flag, t) next
AnswersFlagged said s at room (Err (fault.At token why)) = RefusesAt said s at room token why
AnswersFlagged said s at room (Err fault.NoMemory) = Unit {0}
