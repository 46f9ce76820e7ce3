-- The graph of a C text, and why it has none.
use Rattle.std.specs.Prelude.{◌≡◌, ℕ, ◌+◌, ◌-◌, ◌<◌, ◌≤◌, ◌==◌, min, List, length, take, count_by, slice_get, unwrap_or, Ok, Err}
use Rattle.std.specs.Option.{option_map}
use Rattle.faults.specs.declared.kinds.InputKind.{InputKind}
use Rattle.faults.specs.declared.kinds.InputKind.TheVariants.{TooLong}
use Rattle.c_lexer.specs.declared.token.Token.{Token}
use Rattle.c_lexer.specs.declared.fault.LexFault.{LexFault}
use Rattle.c_lexer.specs.declared.fault.LexFault.TheVariants as lex
use Rattle.c_lexer.specs.Tokens.{tokens_of}
use Rattle.c_tree.specs.declared.tree.Program.{Program}
use Rattle.c_tree.specs.Tokens.{source}
use Rattle.c_tree.specs.Reading.{kinds_of}
use Rattle.c_parser.specs.declared.fault.ParseFault.{ParseFault}
use Rattle.c_parser.specs.declared.fault.ParseFault.TheVariants as parse
use Rattle.c_parser.specs.Program.{IsFirstWrong, IsOnlyProgram}
use Rattle.emit_list.specs.Vertices.{Listed}
use Rattle.graph_emit.specs.declared.fault.EmitKind.{EmitKind}
use Rattle.graph_emit.specs.declared.fault.EmitFault.{EmitFault}
use Rattle.graph_emit.specs.declared.fault.EmitFault.TheVariants as emit
use Rattle.graph_emit.specs.Program.{IsProgramGraph, graph_of}
use Rattle.source_graph.specs.declared.graph.SourceFault.{SourceFault}
use Rattle.source_graph.specs.declared.graph.SourceFault.TheVariants.{At, NoMemory}

-- how many line feeds there are
abbrev pub feeds : List ℕ → ℕ
feeds text = count_by (λ b. b == 10) text

-- the line that holds the byte at a place
abbrev pub line_at : ℕ → List ℕ → ℕ
line_at place text = 1 + feeds (take place text)

-- the line of a token; of the end behind the last one that of the last, and 1 where there is none
abbrev pub token_line : List Token → ℕ → ℕ
token_line tokens at = unwrap_or (option_map (λ (t : Token). t.line) (slice_get tokens (min at (length tokens - 1)))) 1

-- the text is short enough and has these tokens
pub record HasTokens (text : List ℕ) (tokens : List Token) : Type 0 where
  pub short : length text ≤ 16777216
  pub tokens_are : tokens_of text ≡ Ok tokens

-- the list is the graph of the text: it has tokens, they are those of one program, and this is its graph
pub record IsSourceGraph (kind : EmitKind) (text : List ℕ) (list : Listed) : Type 0 where
  pub tokens : List Token
  pub has : HasTokens text tokens
  pub program : Program
  pub program_is : IsOnlyProgram (source text tokens) program
  pub graph : IsProgramGraph kind program list

-- the first refusal of a text: it is too long, or a byte begins no token, or no program goes on with a token, or the
-- program has no graph
pub data HasSourceFault (kind : EmitKind) (text : List ℕ) : ℕ → InputKind → Type 0 where
  too_long : 16777216 < length text → HasSourceFault kind text (line_at 16777216 text) TooLong
  no_token : (line column : ℕ) (k : InputKind) → length text ≤ 16777216
      → tokens_of text ≡ Err (lex.At line column k) → HasSourceFault kind text line k
  no_program : (tokens : List Token) (token : ℕ) (k : InputKind) → HasTokens text tokens
      → IsFirstWrong (kinds_of tokens) token k → HasSourceFault kind text (token_line tokens token) k
  no_graph : (tokens : List Token) (program : Program) (line : ℕ) (k : InputKind) → HasTokens text tokens
      → IsOnlyProgram (source text tokens) program → graph_of kind program ≡ Err (emit.At line k)
      → HasSourceFault kind text line k

-- a text has one graph
abbrev pub HaveOneGraph : Type 0
HaveOneGraph = (kind : EmitKind) (text : List ℕ) (a b : Listed) → IsSourceGraph kind text a → IsSourceGraph kind text b → a ≡ b

-- the fault is the first refusal of a text. Want of memory is free.
abbrev pub IsRefusal : EmitKind → List ℕ → SourceFault → Type 0
IsRefusal kind text (At line k) = HasSourceFault kind text line k
IsRefusal kind text NoMemory = Unit {0}

-- the faults of tokens, of a program and of its graph as those of a text
abbrev pub of_lex : LexFault → SourceFault
of_lex (lex.At line column k) = At line k
of_lex lex.NoMemory = NoMemory

abbrev pub of_parse : List Token → ParseFault → SourceFault
of_parse tokens (parse.At token k) = At (token_line tokens token) k
of_parse tokens parse.NoMemory = NoMemory

abbrev pub of_emit : EmitFault → SourceFault
of_emit (emit.At line k) = At line k
of_emit emit.NoMemory = NoMemory
