-- The text of a list: a line for each vertex, and then a line for each edge.
use Rattle.std.specs.Prelude.{ℕ, List, [], ◌∷◌, ◌++◌, length, codes, decimal, slice_index_or}
use Rattle.std.specs.List.{flat_map, range_with_len}
use Rattle.edge_text.specs.Print.{edge_bytes}
use Rattle.emit_list.specs.declared.vertex.VertexForm.{VertexForm}
use Rattle.emit_list.specs.declared.vertex.VertexForm.TheVariants as form
use Rattle.emit_list.specs.declared.vertex.Vertex.{Vertex}
use Rattle.emit_list.specs.declared.edge.EmitEdge.{EmitEdge}
use Rattle.emit_list.specs.declared.edge.EmitLabel.{EmitLabel}
use Rattle.emit_list.specs.declared.edge.EmitLabel.TheVariants as label
use Rattle.emit_list.specs.Vertices.{Listed}

abbrev pub label_bytes : EmitLabel → List ℕ
label_bytes label.A = codes "a"
label_bytes label.MinusA = codes "-a"
label_bytes label.D = codes "d"
label_bytes label.MinusD = codes "-d"
label_bytes label.N = codes "n"
label_bytes label.MinusN = codes "-n"

-- the text of a vertex, of which a dereference or an address has only the mark before the text of another
abbrev pub form_text : VertexForm → List ℕ → List ℕ
form_text form.Variable name = name
form_text form.Return name = codes "return " ++ name
form_text (form.Deref base) name = codes "*"
form_text (form.Address base) name = codes "&"
form_text form.Number name = codes "number"
form_text form.Null name = codes "NULL"
form_text form.Op name = codes "op"
form_text form.Call name = codes "call " ++ name
form_text form.Malloc name = codes "malloc"

abbrev pub base_text : Vertex → List ℕ
base_text v = form_text v.form v.name

-- what stands behind the mark, of the texts of the earlier vertices
abbrev pub behind_mark : VertexForm → List (List ℕ) → List ℕ
behind_mark (form.Deref base) earlier = slice_index_or earlier base []
behind_mark (form.Address base) earlier = slice_index_or earlier base []
behind_mark _ earlier = []

-- the texts of vertices behind others with these texts
abbrev pub texts_behind : List (List ℕ) → List Vertex → List (List ℕ)
texts_behind earlier [] = earlier
texts_behind earlier (v ∷ vs) = texts_behind (earlier ++ (base_text v ++ behind_mark v.form earlier) ∷ []) vs

-- the text of the vertex with a number
abbrev pub text_of : List Vertex → ℕ → List ℕ
text_of vertices k = slice_index_or (texts_behind [] vertices) k []

-- `# K TEXT`
abbrev pub vertex_line : List Vertex → ℕ → List ℕ
vertex_line vertices k = codes "# " ++ (decimal k ++ (codes " " ++ (text_of vertices k ++ 10 ∷ [])))

-- `U V LABEL`
abbrev pub edge_line_of : EmitEdge → List ℕ
edge_line_of e = edge_bytes e.src e.dst (label_bytes e.label)

abbrev pub list_bytes : Listed → List ℕ
list_bytes list = flat_map (vertex_line list.vertices) (range_with_len 0 (length list.vertices)) ++ flat_map edge_line_of list.edges
