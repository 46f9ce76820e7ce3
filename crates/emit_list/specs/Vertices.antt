-- Lists of vertices and edges, and what the graph of a program keeps.
use Rattle.std.specs.Prelude.{◌≡◌, ℕ, ◌<◌, ◌≤◌, List, length, Option, Some, None, slice_get, Contains, All}
use Rattle.std.specs.Option.{option_map}
use Rattle.emit_list.specs.declared.vertex.VertexForm.{VertexForm}
use Rattle.emit_list.specs.declared.vertex.VertexForm.TheVariants as form
use Rattle.emit_list.specs.declared.vertex.Vertex.{Vertex}
use Rattle.emit_list.specs.declared.vertex.TheConstants.{MOST_VERTICES}
use Rattle.emit_list.specs.declared.edge.EmitEdge.{EmitEdge}
use Rattle.emit_list.specs.declared.edge.EmitLabel.{EmitLabel}
use Rattle.emit_list.specs.declared.edge.EmitLabel.TheVariants as label

-- the vertices, by their numbers, and the edges, in the order in which they were made
pub record Listed : Type 0 where
  pub vertices : List Vertex
  pub edges : List EmitEdge

-- the vertex that a dereference or an address was made for
abbrev pub made_for : VertexForm → Option ℕ
made_for (form.Deref base) = Some base
made_for (form.Address base) = Some base
made_for _ = None

-- a form of a vertex behind n others names one of them, if any
abbrev pub IsBelow : ℕ → VertexForm → Type 0
IsBelow n f = (base : ℕ) → made_for f ≡ Some base → base < n

-- an edge between two of n vertices
pub record IsEdgeBelow (n : ℕ) (edge : EmitEdge) : Type 0 where
  pub source : edge.src < n
  pub destination : edge.dst < n

-- the vertex with a number has this form
abbrev pub HasForm : List Vertex → ℕ → VertexForm → Type 0
HasForm vertices k f = option_map (λ (v : Vertex). v.form) (slice_get vertices k) ≡ Some f

-- what every list keeps: it is not too long, forms name earlier vertices, and edges name vertices that are there
pub record IsListed (vertices : List Vertex) (edges : List EmitEdge) : Type 0 where
  pub few : length vertices ≤ MOST_VERTICES
  pub earlier : (k : ℕ) (f : VertexForm) → HasForm vertices k f → IsBelow k f
  pub inside : All (IsEdgeBelow (length vertices)) edges

-- the inverse of a label
abbrev pub inverse : EmitLabel → EmitLabel
inverse label.A = label.MinusA
inverse label.MinusA = label.A
inverse label.D = label.MinusD
inverse label.MinusD = label.D
inverse label.N = label.MinusN
inverse label.MinusN = label.N

abbrev pub edge : ℕ → EmitLabel → ℕ → EmitEdge
edge src label dst = record { src = src; label = label; dst = dst }

-- What the list of a program's graph keeps besides: dereferences and addresses are made once for a vertex and have
-- their edges, only variables have an address, and each edge has its inverse.
pub record IsGraphOfProgram (list : Listed) : Type 0 where
  pub listed : IsListed list.vertices list.edges
  pub one_deref : (k l base : ℕ) → HasForm list.vertices k (form.Deref base) → HasForm list.vertices l (form.Deref base) → k ≡ l
  pub one_address : (k l base : ℕ) → HasForm list.vertices k (form.Address base) → HasForm list.vertices l (form.Address base) → k ≡ l
  pub deref_edge : (k base : ℕ) → HasForm list.vertices k (form.Deref base) → Contains list.edges (edge base label.D k)
  pub address_edge : (k base : ℕ) → HasForm list.vertices k (form.Address base) → Contains list.edges (edge k label.D base)
  pub of_variables : (k base : ℕ) → HasForm list.vertices k (form.Address base) → HasForm list.vertices base form.Variable
  pub inverses : (src dst : ℕ) (l : EmitLabel) → Contains list.edges (edge src l dst) → Contains list.edges (edge dst (inverse l) src)
