-- The graph of a program while it is made, and the steps that make it.
use Rattle.std.specs.Prelude.{ℕ, ◌+◌, ◌==◌, Bool, false, nat_lt, is_some, List, [], ◌∷◌, ◌++◌, length, slice_get, Option, Some, None, Result, Ok, Err, if◌then◌else◌}
use Rattle.std.specs.Option.{option_map}
use Rattle.faults.specs.declared.kinds.InputKind.{InputKind}
use Rattle.faults.specs.declared.kinds.InputKind.TheVariants as input
use Rattle.c_tree.specs.declared.tree.Tok.{Tok}
use Rattle.c_tree.specs.declared.tree.Name.{Name}
use Rattle.emit_list.specs.declared.vertex.VertexForm.{VertexForm}
use Rattle.emit_list.specs.declared.vertex.VertexForm.TheVariants as form
use Rattle.emit_list.specs.declared.vertex.TheConstants.{MOST_VERTICES}
use Rattle.emit_list.specs.declared.edge.EmitEdge.{EmitEdge}
use Rattle.emit_list.specs.declared.edge.EmitLabel.{EmitLabel}
use Rattle.emit_list.specs.declared.edge.EmitLabel.TheVariants as label
use Rattle.emit_list.specs.Vertices.{edge, inverse}
use Rattle.visible_names.specs.Names.{Bound, bound_to}
use Rattle.graph_emit.specs.declared.fault.EmitFault.{EmitFault}
use Rattle.graph_emit.specs.declared.fault.EmitFault.TheVariants as fault
use Rattle.graph_emit.specs.declared.emitter.Value.{Value}
use Rattle.graph_emit.specs.declared.fault.EmitKind.{EmitKind}
use Rattle.graph_emit.specs.declared.fault.EmitKind.TheVariants as kind

-- a vertex: what it stands for, its name, and the number of the token that it was made for
pub record Made : Type 0 where
  pub form : VertexForm
  pub name : List ℕ
  pub token : ℕ

-- the graph so far, and the visible names: those of the innermost scope, and those of the scopes around it, the
-- last one first
pub record State : Type 0 where
  pub vertices : List Made
  pub edges : List EmitEdge
  pub inner : List Bound
  pub outer : List Bound

-- A step of the walk: what it leaves and what it gives, or its refusal.
abbrev pub Walk : Type 0 → Type 0
Walk A = State → Result (State × A) EmitFault

abbrev pub done : {A : Type 0} → A → Walk A
done a s = Ok (s, a)

-- a step, and what comes of what it gives
abbrev pub and_then : {A B : Type 0} → Result (State × A) EmitFault → (A → Walk B) → Result (State × B) EmitFault
and_then (Ok (s, a)) next = next a s
and_then (Err e) next = Err e

infixr 30 ◌⟫◌
unfoldable pub ◌⟫◌ : {A B : Type 0} → Walk A → (A → Walk B) → Walk B
(w ⟫ next) s = and_then (w s) next

abbrev pub refuse : {A : Type 0} → Tok → InputKind → Walk A
refuse tok why s = Err (fault.At tok.line why)

-- ---- vertices and edges
abbrev pub with_vertex : VertexForm → List ℕ → ℕ → State → State
with_vertex f name token s = record {
  vertices = s.vertices ++ record { form = f; name = name; token = token } ∷ [];
  edges = s.edges;
  inner = s.inner;
  outer = s.outer;
}

-- a new vertex, for this token
abbrev pub fresh : Tok → VertexForm → List ℕ → Walk ℕ
fresh tok f name s =
    if nat_lt (length s.vertices) MOST_VERTICES
    then Ok (with_vertex f name tok.number s, length s.vertices)
    else Err (fault.At tok.line input.TooManyVertices)

-- an edge and its inverse
abbrev pub join : ℕ → EmitLabel → ℕ → Walk (Unit {0})
join src l dst s = Ok (
  record {
    vertices = s.vertices;
    edges = s.edges ++ (edge src l dst ∷ edge dst (inverse l) src ∷ []);
    inner = s.inner;
    outer = s.outer;
  },
  tt,
)

abbrev pub form_at : List Made → ℕ → Option VertexForm
form_at vertices v = option_map (λ (m : Made). m.form) (slice_get vertices v)

abbrev pub is_deref_of : ℕ → VertexForm → Bool
is_deref_of v (form.Deref base) = base == v
is_deref_of v _ = false

abbrev pub is_address_of : ℕ → VertexForm → Bool
is_address_of v (form.Address base) = base == v
is_address_of v _ = false

-- the vertex that is there, or one that is made with an edge from v to it
abbrev pub deref_or_new : Option ℕ → Tok → ℕ → Walk ℕ
deref_or_new (Some t) tok v = done t
deref_or_new None tok v = fresh tok (form.Deref v) [] ⟫ λ t. join v label.D t ⟫ λ _. done t

-- the number of the first vertex of a form
abbrev pub place_of : (VertexForm → Bool) → List Made → Option ℕ
place_of p [] = None
place_of p (m ∷ ms) = if p m.form then Some 0 else option_map (λ n. n + 1) (place_of p ms)

-- the dereference of a vertex, which is made at its first need
abbrev pub deref_of : Tok → ℕ → Walk ℕ
deref_of tok v s = deref_or_new (place_of (is_deref_of v) s.vertices) tok v s

abbrev pub address_or_new : Option ℕ → Tok → ℕ → Walk ℕ
address_or_new (Some t) tok v = done t
address_or_new None tok v = fresh tok (form.Address v) [] ⟫ λ t. join t label.D v ⟫ λ _. done t

-- the address of a vertex, which is made at its first need
abbrev pub address_of : Tok → ℕ → Walk ℕ
address_of tok v s = address_or_new (place_of (is_address_of v) s.vertices) tok v s

-- `*e`, where e has vertex v: the vertex whose address v is, or else the dereference of v
abbrev pub pointed_by : Option VertexForm → Tok → ℕ → Walk ℕ
pointed_by (Some (form.Address w)) tok v = done w
pointed_by _ tok v = deref_of tok v

abbrev pub pointed_to : Tok → ℕ → Walk ℕ
pointed_to tok v s = pointed_by (form_at s.vertices v) tok v s

-- `&place`, where the place has vertex v: the vertex whose dereference v is, or else the address of v
abbrev pub addressed_by : Option VertexForm → Tok → ℕ → Walk ℕ
addressed_by (Some (form.Deref w)) tok v = done w
addressed_by _ tok v = address_of tok v

abbrev pub addressed : Tok → ℕ → Walk ℕ
addressed tok v s = addressed_by (form_at s.vertices v) tok v s

-- ---- values
abbrev pub plain : ℕ → Value
plain v = record { vertex = v; is_null = false }

abbrev pub null_flows : EmitKind → ℕ → ℕ → Walk (Unit {0})
null_flows kind.Null v t = join v label.N t
null_flows kind.Alias v t = done tt

-- a value flows to a vertex
abbrev pub flow : EmitKind → Value → ℕ → Walk (Unit {0})
flow k value t = if value.is_null then null_flows k value.vertex t else join value.vertex label.A t

-- ---- names
abbrev pub found_or : Option ℕ → Name → Walk ℕ
found_or (Some v) name = done v
found_or None name = refuse name.tok input.Undeclared

-- the variable of a name
abbrev pub variable : Name → Walk ℕ
variable name s = found_or (bound_to name.bytes (s.inner ++ s.outer)) name s

abbrev pub bind : List ℕ → ℕ → Walk ℕ
bind name v s = Ok (
  record {
    vertices = s.vertices;
    edges = s.edges;
    inner = record { name = name; vertex = v } ∷ s.inner;
    outer = s.outer;
  },
  v,
)

-- a new variable, of a name that the innermost scope doesn't have yet
abbrev pub declare : Name → Walk ℕ
declare name s =
    if is_some (bound_to name.bytes s.inner) then Err (fault.At name.tok.line input.Repeated)
    else (fresh name.tok form.Variable name.bytes ⟫ bind name.bytes) s

-- the innermost scope is what it was before
abbrev pub closed : {A : Type 0} → State → Result (State × A) EmitFault → Result (State × A) EmitFault
closed before (Ok (s, a)) =
    Ok (record { vertices = s.vertices; edges = s.edges; inner = before.inner; outer = before.outer }, a)
closed before (Err e) = Err e

-- the state inside a scope that begins with these names
abbrev pub opened : List Bound → State → State
opened names s = record { vertices = s.vertices; edges = s.edges; inner = names; outer = s.inner ++ s.outer }

-- a step in a scope of its own, which begins with these names
abbrev pub scoped : {A : Type 0} → List Bound → Walk A → Walk A
scoped names w s = closed s (w (opened names s))

-- ---- functions
-- where a call goes: the parameters with their vertices, and the vertex of what the function gives, if it gives
-- anything
pub record Target : Type 0 where
  pub params : List Bound
  pub gives : Option ℕ

-- what a walk is made with: the kind of graph, and where the call of a name goes
pub record Setting : Type 0 where
  pub kind : EmitKind
  pub goes : Name → Walk Target
