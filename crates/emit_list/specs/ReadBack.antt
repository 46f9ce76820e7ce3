-- What the text of a list says, where it is read as an edge file.
use Rattle.std.specs.Prelude.{◌≡◌, ℕ, false, List, All}
use Rattle.graph_words.specs.declared.types.Edge.{Edge}
use Rattle.graph_words.specs.Text.{place_of}
use Rattle.io_edge.specs.Lines.{is_line_feed}
use Rattle.emit_list.specs.declared.vertex.Vertex.{Vertex}
use Rattle.emit_list.specs.declared.edge.EmitEdge.{EmitEdge}
use Rattle.emit_list.specs.Printed.{label_bytes}

-- no line feed stands in the name of a vertex
abbrev pub IsOneLine : Vertex → Type 0
IsOneLine v = All (λ b. is_line_feed b ≡ false) v.name

-- an edge, its label by the place of its name
abbrev pub edge_by : List (List ℕ) → EmitEdge → Edge
edge_by names e = record {
  src = record { 0 = e.src };
  label = record { 0 = place_of names (label_bytes e.label) };
  dst = record { 0 = e.dst };
}
