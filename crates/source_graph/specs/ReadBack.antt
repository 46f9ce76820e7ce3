-- What the names of a text's program are, and what the text of its graph says.
use Rattle.std.specs.Prelude.{◌≡◌, ℕ, List, Ok, All, map}
use Rattle.edge_text.specs.EdgesText.{edges_of}
use Rattle.c_lexer.specs.declared.token.Token.{Token}
use Rattle.c_lexer.specs.Pieces.{IsName}
use Rattle.c_lexer.specs.Tokens.{tokens_of}
use Rattle.c_tree.specs.declared.tree.Program.{Program}
use Rattle.c_tree.specs.Tokens.{source}
use Rattle.c_parser.specs.Program.{IsOnlyProgram}
use Rattle.emit_list.specs.Vertices.{Listed}
use Rattle.emit_list.specs.Printed.{list_bytes}
use Rattle.emit_list.specs.ReadBack.{edge_by}
use Rattle.graph_emit.specs.declared.fault.EmitKind.{EmitKind}
use Rattle.graph_emit.specs.Names.{declared_names}
use Rattle.source_graph.specs.Sources.{IsSourceGraph}

-- each name that the program of a text declares is a name: at most 255 letters, digits and `_`
abbrev pub NamesAreNames : Type 0
NamesAreNames = (text : List ℕ) (tokens : List Token) (program : Program) → tokens_of text ≡ Ok tokens
    → IsOnlyProgram (source text tokens) program → All IsName (declared_names program.items)

-- the printed graph of a text, read as an edge file, says exactly its edges
abbrev pub GraphsReadBack : Type 0
GraphsReadBack = (kind : EmitKind) (text : List ℕ) (list : Listed) → IsSourceGraph kind text list
    → (names : List (List ℕ)) → edges_of names (list_bytes list) ≡ map (edge_by names) list.edges
