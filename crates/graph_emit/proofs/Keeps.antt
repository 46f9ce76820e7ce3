-- What each step of a walk keeps: the rules of a graph, names that are of variables, functions that can be called, and
-- vertices whose names are allowed.
use Rattle.std.proofs.Common.{◌≡◌, ◌⊎◌, inl, inr, refl, sym, ap, ◌∙◌, subst, ℕ, ◌<◌, Bool, true, false, cond, List, [], ◌∷◌, ◌++◌, length, Option, Some, None, Result, Ok, Err, arith}
use Rattle.std.specs.Prelude.{All, nat_lt, find, is_some}
use Rattle.std.specs.Option.{option_map}
use Rattle.std.specs.Str.{bytes_eq}
use Rattle.std.proofs.lemmas.List.Elements.{All-cons, All-head, All-tail, All-append, All-push, All-weaker}
use Rattle.std.proofs.lemmas.Bool.{eqb-true, ltb-true}
use Rattle.faults.specs.declared.kinds.InputKind.{InputKind}
use Rattle.c_tree.specs.declared.tree.Tok.{Tok}
use Rattle.c_tree.specs.declared.tree.Name.{Name}
use Rattle.emit_list.specs.declared.vertex.VertexForm.{VertexForm}
use Rattle.emit_list.specs.declared.vertex.VertexForm.TheVariants as form
use Rattle.emit_list.specs.declared.vertex.TheConstants.{MOST_VERTICES}
use Rattle.emit_list.specs.declared.edge.EmitEdge.{EmitEdge}
use Rattle.emit_list.specs.declared.edge.EmitLabel.{EmitLabel}
use Rattle.emit_list.specs.declared.edge.EmitLabel.TheVariants as label
use Rattle.emit_list.specs.Vertices.{made_for}
use Rattle.visible_names.specs.Names.{Bound, bound_to}
use Rattle.graph_emit.specs.declared.fault.EmitFault.{EmitFault}
use Rattle.graph_emit.specs.declared.fault.EmitFault.TheVariants as fault
use Rattle.graph_emit.specs.declared.emitter.Value.{Value}
use Rattle.graph_emit.specs.declared.fault.EmitKind.{EmitKind}
use Rattle.graph_emit.specs.declared.fault.EmitKind.TheVariants as kind
use Rattle.graph_emit.specs.State.{Made, State, Walk, done, refuse, and_then, ◌⟫◌, fresh, join, form_at, is_deref_of, is_address_of, place_of, deref_or_new, deref_of, address_or_new, address_of, pointed_by, pointed_to, addressed_by, addressed, null_flows, flow, found_or, variable, bind, declare, closed, scoped, Target}
use Rattle.graph_emit.specs.Program.{Known}
use Rattle.graph_emit.proofs.Steps.{pair_of}
use Rattle.graph_emit.proofs.Forms.{Has, has_within, has_new, found_has, Grows, grows_none, grows_then, grows_new}
use Rattle.graph_emit.proofs.Kept.{Kept, both, kept_joined, kept_plain, deref, address, kept_deref, kept_address}

-- ---- states
abbrev pub IsVariable : List Made → Bound → Type 0
IsVariable ms b = Has ms b.vertex form.Variable

-- a call may go there
pub record Callable (ms : List Made) (t : Target) : Type 0 where
  pub params : All (IsVariable ms) t.params
  pub gives : (r : ℕ) → t.gives ≡ Some r → r < length ms

abbrev pub IsCallable : List Made → Known → Type 0
IsCallable ms f = Callable ms f.target

-- what is so along a walk: which names a vertex may have, none among them, and the functions that a call may go to,
-- whose names are such
pub record Rules : Type 1 where
  pub Allowed : List ℕ → Type 0
  pub empty : Allowed []
  pub known : List Known
  pub named : All (λ (f : Known). Allowed f.name) known

abbrev pub IsNamed : Rules → Made → Type 0
IsNamed rules m = rules.Allowed m.name

pub record Good (rules : Rules) (s : State) : Type 0 where
  pub kept : Kept s.vertices s.edges
  pub named : All (IsNamed rules) s.vertices
  pub inner : All (IsVariable s.vertices) s.inner
  pub outer : All (IsVariable s.vertices) s.outer
  pub targets : All (IsCallable s.vertices) rules.known

pub variables_grown : (ms ns : List Made) (names : List Bound) → Grows ms ns → All (IsVariable ms) names → All (IsVariable ns) names
variables_grown ms ns names g = All-weaker (IsVariable ms) (IsVariable ns) (λ b h. g.has b.vertex form.Variable h) names

pub callable_grown : (ms ns : List Made) (t : Target) → Grows ms ns → Callable ms t → Callable ns t
callable_grown ms ns t g c = record {
  params = variables_grown ms ns t.params g c.params;
  gives = λ r e. let at : r < length ms = c.gives r e in omega (arith, g.longer);
}

pub callables_grown : (ms ns : List Made) (known : List Known) → Grows ms ns → All (IsCallable ms) known → All (IsCallable ns) known
callables_grown ms ns known g = All-weaker (IsCallable ms) (IsCallable ns) (λ f c. callable_grown ms ns f.target g c) known

-- more vertices and edges behind the names of a state
abbrev pub grown : State → List Made → List EmitEdge → State
grown s ms es = record { vertices = ms; edges = es; inner = s.inner; outer = s.outer }

pub good_grown : (rules : Rules) (s : State) (ms : List Made) (es : List EmitEdge) → Good rules s → Kept ms es → All (IsNamed rules) ms → Grows s.vertices ms → Good rules (grown s ms es)
good_grown rules s ms es good k names g = record {
  kept = k;
  named = names;
  inner = variables_grown s.vertices ms s.inner g good.inner;
  outer = variables_grown s.vertices ms s.outer g good.outer;
  targets = callables_grown s.vertices ms rules.known g good.targets;
}

-- a call of a name goes there
pub record CallGoes (rules : Rules) (name : List ℕ) (ms : List Made) (t : Target) : Type 0 where
  pub callable : Callable ms t
  pub allowed : rules.Allowed name

-- ---- walks
-- what a step left
pub record Leaves {A : Type 0} (rules : Rules) (Q : List Made → A → Type 0) (before : State) (a : A) (after : State) : Type 0 where
  pub good : Good rules after
  pub grows : Grows before.vertices after.vertices
  pub value : Q after.vertices a

-- a step keeps the rules, where it begins behind these vertices, and gives a value of this kind
pub record Keeps {A : Type 0} (rules : Rules) (base : List Made) (Q : List Made → A → Type 0) (w : Walk A) : Type 0 where
  pub leaves : (s : State) → Good rules s → Grows base s.vertices → (a : A) (t : State) → w s ≡ Ok (t, a) → Leaves rules Q s a t

pub leaves_as : {A : Type 0} (rules : Rules) (Q : List Made → A → Type 0) (s t u : State) (a b : A) → done a t ≡ Ok (u, b) → Leaves rules Q s a t → Leaves rules Q s b u
leaves_as rules Q s t u a b e l =
    let both = pair_of (t, a) (u, b) e in
    let same : t ≡ u = ap (λ x. x.0) both in
    let value : a ≡ b = ap (λ x. x.1) both in
    subst (λ t. Leaves rules Q s b t) same (subst (λ a. Leaves rules Q s a t) value l)

pub keeps_done : {A : Type 0} (rules : Rules) (base : List Made) (Q : List Made → A → Type 0) (a : A) → ((ms : List Made) → Grows base ms → Q ms a) → Keeps rules base Q (done a)
keeps_done rules base Q a q = record {
  leaves = λ s good g b t e. leaves_as rules Q s s t a b e (record { good = good; grows = grows_none s.vertices; value = q s.vertices g });
}

pub keeps_refused : {A : Type 0} (rules : Rules) (base : List Made) (Q : List Made → A → Type 0) (tok : Tok) (why : InputKind) → Keeps rules base Q (refuse tok why)
keeps_refused rules base Q tok why = record { leaves = λ s good g b t e. absurd (cc) }

-- a step that went well, and the one behind it
pub record Halves {A B : Type 0} (r : Result (State × A) EmitFault) (next : A → Walk B) (t : State) (b : B) : Type 0 where
  pub at : State
  pub value : A
  pub first : r ≡ Ok (at, value)
  pub second : next value at ≡ Ok (t, b)

pub halves : {A B : Type 0} (r : Result (State × A) EmitFault) (next : A → Walk B) (t : State) (b : B) → and_then r next ≡ Ok (t, b) → Halves r next t b
halves (Ok (s, a)) next t b e = record { at = s; value = a; first = refl; second = e }
halves (Err f) next t b e = absurd (cc)

pub keeps_then : {A B : Type 0} (rules : Rules) (base : List Made) (Q : List Made → A → Type 0) (R : List Made → B → Type 0) (w : Walk A) (next : A → Walk B) → Keeps rules base Q w → ((ms : List Made) (a : A) → Grows base ms → Q ms a → Keeps rules ms R (next a)) → Keeps rules base R (w ⟫ next)
unfolding ◌⟫◌
keeps_then rules base Q R w next k f = record {
  leaves = λ s good g b t e.
      let h = halves (w s) next t b e in
      let l = k.leaves s good g h.value h.at h.first in
      let n = f h.at.vertices h.value (grows_then base s.vertices h.at.vertices g l.grows) l.value in
      let m = n.leaves h.at l.good (grows_none h.at.vertices) b t h.second in
      record { good = m.good; grows = grows_then s.vertices h.at.vertices t.vertices l.grows m.grows; value = m.value };
}

pub keeps_weaker : {A : Type 0} (rules : Rules) (base : List Made) (Q R : List Made → A → Type 0) (w : Walk A) → Keeps rules base Q w → ((ms : List Made) (a : A) → Grows base ms → Q ms a → R ms a) → Keeps rules base R w
keeps_weaker rules base Q R w k f = record {
  leaves = λ s good g a t e.
      let l = k.leaves s good g a t e in
      record { good = l.good; grows = l.grows; value = f t.vertices a (grows_then base s.vertices t.vertices g l.grows) l.value };
}

-- ---- what the values of steps are
abbrev pub Nothing : {A : Type 0} → List Made → A → Type 0
Nothing ms a = Unit {0}

-- a vertex that is there
abbrev pub Inside : List Made → ℕ → Type 0
Inside ms v = v < length ms

abbrev pub IsOf : VertexForm → List Made → ℕ → Type 0
IsOf f ms v = Has ms v f

-- a variable or a dereference
abbrev pub IsPlace : List Made → ℕ → Type 0
IsPlace ms v = Has ms v form.Variable ⊎ ((w : ℕ) × Has ms v (form.Deref w))

pub place_inside : (ms : List Made) (v : ℕ) → IsPlace ms v → v < length ms
place_inside ms v (inl h) = has_within ms v form.Variable h
place_inside ms v (inr (w, h)) = has_within ms v (form.Deref w) h

pub place_grown : (ms ns : List Made) (v : ℕ) → Grows ms ns → IsPlace ms v → IsPlace ns v
place_grown ms ns v g (inl h) = inl (g.has v form.Variable h)
place_grown ms ns v g (inr (w, h)) = inr (w, g.has v (form.Deref w) h)

-- ---- new vertices and edges
-- a new vertex was made: there was room
pub record Room {A : Type 0} (s : State) (tok : Tok) (f : VertexForm) (name : List ℕ) (next : ℕ → Walk A) (t : State) (a : A) : Type 0 where
  pub room : length s.vertices < MOST_VERTICES
  pub rest : next (length s.vertices) (grown s (s.vertices ++ record { form = f; name = name; token = tok.number } ∷ []) s.edges) ≡ Ok (t, a)

room_of : {A : Type 0} (b : Bool) (x : State × ℕ) (e : EmitFault) (next : ℕ → Walk A) (t : State) (a : A) → and_then (cond b (Ok x) (Err e)) next ≡ Ok (t, a) → (b ≡ true) × (next x.1 x.0 ≡ Ok (t, a))
room_of true (s, n) e next t a h = (refl, h)
room_of false x e next t a h = absurd (cc)

pub fresh_then : {A : Type 0} (s : State) (tok : Tok) (f : VertexForm) (name : List ℕ) (next : ℕ → Walk A) (t : State) (a : A) → (fresh tok f name ⟫ next) s ≡ Ok (t, a) → Room s tok f name next t a
unfolding ◌⟫◌
fresh_then s tok f name next t a e =
    let r = room_of (nat_lt (length s.vertices) MOST_VERTICES) (grown s (s.vertices ++ record { form = f; name = name; token = tok.number } ∷ []) s.edges, length s.vertices) (fault.At tok.line _) next t a e in
    record { room = ltb-true (length s.vertices) MOST_VERTICES r.0; rest = r.1 }

alone : {A : Type 0} (w : Walk A) (s : State) → (w ⟫ done) s ≡ w s
unfolding ◌⟫◌
alone w s = elim (w s) as (λ r. and_then r done ≡ r) [ Ok (t, a) ↦ refl | Err e ↦ refl ]

pub fresh_keeps : (rules : Rules) (base : List Made) (tok : Tok) (f : VertexForm) (name : List ℕ) → made_for f ≡ None → rules.Allowed name → Keeps rules base (IsOf f) (fresh tok f name)
fresh_keeps rules base tok f name plain allowed = record {
  leaves = λ s good g a t e.
      let x : Made = record { form = f; name = name; token = tok.number } in
      let ms = s.vertices ++ x ∷ [] in
      let r = fresh_then s tok f name done t a (alone (fresh tok f name) s ∙ e) in
      leaves_as rules (IsOf f) s (grown s ms s.edges) t (length s.vertices) a r.rest (record {
        good = good_grown rules s ms s.edges good (kept_plain s.vertices s.edges x good.kept r.room plain) (All-push (IsNamed rules) s.vertices x good.named allowed) (grows_new s.vertices x);
        grows = grows_new s.vertices x;
        value = has_new s.vertices x;
      });
}

pub join_keeps : (rules : Rules) (base : List Made) (src : ℕ) (l : EmitLabel) (dst : ℕ) → src < length base → dst < length base → Keeps rules base Nothing (join src l dst)
join_keeps rules base src l dst a b = record {
  leaves = λ s good g u t e.
      let es = s.edges ++ both src l dst in
      let k = kept_joined s.vertices s.edges src dst l good.kept (omega (arith, g.longer)) (omega (arith, g.longer)) in
      leaves_as rules Nothing s (grown s s.vertices es) t tt u e (record {
        good = good_grown rules s s.vertices es good k good.named (grows_none s.vertices);
        grows = grows_none s.vertices;
        value = tt;
      });
}

-- ---- dereferences
deref_true : (v : ℕ) (f : VertexForm) → is_deref_of v f ≡ true → f ≡ form.Deref v
deref_true v (form.Deref base) h = ap form.Deref (eqb-true base v h)
deref_true v _ h = absurd (cc)

deref_made : (rules : Rules) (tok : Tok) (v : ℕ) (s : State) (o : Option ℕ) → place_of (is_deref_of v) s.vertices ≡ o → Good rules s → v < length s.vertices → (a : ℕ) (t : State) → deref_or_new o tok v s ≡ Ok (t, a) → Leaves rules (IsOf (form.Deref v)) s a t
unfolding ◌⟫◌
deref_made rules tok v s (Some k) found good at a t e =
    let f = found_has (is_deref_of v) s.vertices k found in
    leaves_as rules (IsOf (form.Deref v)) s s t k a e (record {
      good = good;
      grows = grows_none s.vertices;
      value = subst (λ f. Has s.vertices k f) (deref_true v f.0 f.1.1) f.1.0;
    })
deref_made rules tok v s None none good at a t e =
    let n = length s.vertices in
    let x : Made = deref v tok.number in
    let ms = s.vertices ++ x ∷ [] in
    let es = s.edges ++ both v label.D n in
    let r = fresh_then s tok (form.Deref v) [] (λ t. join v label.D t ⟫ λ _. done t) t a e in
    leaves_as rules (IsOf (form.Deref v)) s (grown s ms es) t n a r.rest (record {
      good = good_grown rules s ms es good (kept_deref s.vertices s.edges v tok.number good.kept r.room at none) (All-push (IsNamed rules) s.vertices x good.named rules.empty) (grows_new s.vertices x);
      grows = grows_new s.vertices x;
      value = has_new s.vertices x;
    })

pub deref_keeps : (rules : Rules) (base : List Made) (tok : Tok) (v : ℕ) → v < length base → Keeps rules base (IsOf (form.Deref v)) (deref_of tok v)
deref_keeps rules base tok v at = record {
  leaves = λ s good g a t e. deref_made rules tok v s (place_of (is_deref_of v) s.vertices) refl good (omega (arith, g.longer)) a t e;
}

-- ---- addresses
address_true : (v : ℕ) (f : VertexForm) → is_address_of v f ≡ true → f ≡ form.Address v
address_true v (form.Address base) h = ap form.Address (eqb-true base v h)
address_true v _ h = absurd (cc)

address_made : (rules : Rules) (tok : Tok) (v : ℕ) (s : State) (o : Option ℕ) → place_of (is_address_of v) s.vertices ≡ o → Good rules s → Has s.vertices v form.Variable → (a : ℕ) (t : State) → address_or_new o tok v s ≡ Ok (t, a) → Leaves rules (IsOf (form.Address v)) s a t
unfolding ◌⟫◌
address_made rules tok v s (Some k) found good at a t e =
    let f = found_has (is_address_of v) s.vertices k found in
    leaves_as rules (IsOf (form.Address v)) s s t k a e (record {
      good = good;
      grows = grows_none s.vertices;
      value = subst (λ f. Has s.vertices k f) (address_true v f.0 f.1.1) f.1.0;
    })
address_made rules tok v s None none good at a t e =
    let n = length s.vertices in
    let x : Made = address v tok.number in
    let ms = s.vertices ++ x ∷ [] in
    let es = s.edges ++ both n label.D v in
    let r = fresh_then s tok (form.Address v) [] (λ t. join t label.D v ⟫ λ _. done t) t a e in
    leaves_as rules (IsOf (form.Address v)) s (grown s ms es) t n a r.rest (record {
      good = good_grown rules s ms es good (kept_address s.vertices s.edges v tok.number good.kept r.room at none) (All-push (IsNamed rules) s.vertices x good.named rules.empty) (grows_new s.vertices x);
      grows = grows_new s.vertices x;
      value = has_new s.vertices x;
    })

pub address_keeps : (rules : Rules) (base : List Made) (tok : Tok) (v : ℕ) → Has base v form.Variable → Keeps rules base (IsOf (form.Address v)) (address_of tok v)
address_keeps rules base tok v at = record {
  leaves = λ s good g a t e. address_made rules tok v s (place_of (is_address_of v) s.vertices) refl good (g.has v form.Variable at) a t e;
}

-- ---- `*` and `&`
deref_place : (rules : Rules) (tok : Tok) (v : ℕ) (s : State) → Good rules s → v < length s.vertices → (a : ℕ) (t : State) → deref_of tok v s ≡ Ok (t, a) → Leaves rules IsPlace s a t
deref_place rules tok v s good at a t e =
    let l = deref_made rules tok v s (place_of (is_deref_of v) s.vertices) refl good at a t e in
    record { good = l.good; grows = l.grows; value = inr (v, l.value) }

pointed_made : (rules : Rules) (tok : Tok) (v : ℕ) (s : State) (o : Option VertexForm) → form_at s.vertices v ≡ o → Good rules s → v < length s.vertices → (a : ℕ) (t : State) → pointed_by o tok v s ≡ Ok (t, a) → Leaves rules IsPlace s a t
pointed_made rules tok v s (Some (form.Address w)) is good at a t e =
    leaves_as rules IsPlace s s t w a e (record { good = good; grows = grows_none s.vertices; value = inl (good.kept.of_variables v w is) })
pointed_made rules tok v s _ is good at a t e = deref_place rules tok v s good at a t e

pub pointed_keeps : (rules : Rules) (base : List Made) (tok : Tok) (v : ℕ) → v < length base → Keeps rules base IsPlace (pointed_to tok v)
pointed_keeps rules base tok v at = record {
  leaves = λ s good g a t e. pointed_made rules tok v s (form_at s.vertices v) refl good (omega (arith, g.longer)) a t e;
}

-- a place that is no dereference is a variable
address_inside : (rules : Rules) (tok : Tok) (v : ℕ) (s : State) (o : Option VertexForm) → form_at s.vertices v ≡ o → ((w : ℕ) → o ≡ Some (form.Deref w) → ⊥) → Good rules s → IsPlace s.vertices v → (a : ℕ) (t : State) → address_of tok v s ≡ Ok (t, a) → Leaves rules Inside s a t
address_inside rules tok v s o is other good (inl h) a t e =
    let l = address_made rules tok v s (place_of (is_address_of v) s.vertices) refl good h a t e in
    record { good = l.good; grows = l.grows; value = has_within t.vertices a (form.Address v) l.value }
address_inside rules tok v s o is other good (inr (w, h)) a t e = absurd (other w (sym is ∙ h))

addressed_made : (rules : Rules) (tok : Tok) (v : ℕ) (s : State) (o : Option VertexForm) → form_at s.vertices v ≡ o → Good rules s → IsPlace s.vertices v → (a : ℕ) (t : State) → addressed_by o tok v s ≡ Ok (t, a) → Leaves rules Inside s a t
addressed_made rules tok v s (Some (form.Deref w)) is good at a t e =
    let below : w < v = good.kept.earlier v (form.Deref w) is w refl in
    let inside : v < length s.vertices = has_within s.vertices v (form.Deref w) is in
    leaves_as rules Inside s s t w a e (record { good = good; grows = grows_none s.vertices; value = omega arith })
addressed_made rules tok v s o is good at a t e = address_inside rules tok v s o is (λ w h. cc) good at a t e

pub addressed_keeps : (rules : Rules) (base : List Made) (tok : Tok) (v : ℕ) → IsPlace base v → Keeps rules base Inside (addressed tok v)
addressed_keeps rules base tok v at = record {
  leaves = λ s good g a t e. addressed_made rules tok v s (form_at s.vertices v) refl good (place_grown base s.vertices v g at) a t e;
}

-- ---- values and names
null_keeps : (rules : Rules) (base : List Made) (k : EmitKind) (v t : ℕ) → v < length base → t < length base → Keeps rules base Nothing (null_flows k v t)
null_keeps rules base kind.Null v t a b = join_keeps rules base v label.N t a b
null_keeps rules base kind.Alias v t a b = keeps_done rules base Nothing tt (λ ms g. tt)

pub flow_keeps : (rules : Rules) (base : List Made) (k : EmitKind) (value : Value) (t : ℕ) → value.vertex < length base → t < length base → Keeps rules base Nothing (flow k value t)
flow_keeps rules base k value t a b =
    elim value.is_null as (λ n. Keeps rules base Nothing (λ s. (cond n (null_flows k value.vertex t) (join value.vertex label.A t)) s)) [
      | true ↦ null_keeps rules base k value.vertex t a b
      | false ↦ join_keeps rules base value.vertex label.A t a b
    ]

-- a name that is found is that of a variable
found_first : (ms : List Made) (name : List ℕ) (b : Bound) (bs : List Bound) (v : ℕ) → Has ms b.vertex form.Variable → (bound_to name bs ≡ Some v → Has ms v form.Variable) → (t : Bool)
    → option_map (λ (b : Bound). b.vertex) (cond t (Some b) (find (λ (b : Bound). bytes_eq b.name name) bs)) ≡ Some v → Has ms v form.Variable
found_first ms name b bs v here more true is = let at : b.vertex ≡ v = cc in subst (λ v. Has ms v form.Variable) at here
found_first ms name b bs v here more false is = more is

found_name : (ms : List Made) (name : List ℕ) (names : List Bound) (v : ℕ) → All (IsVariable ms) names → bound_to name names ≡ Some v → Has ms v form.Variable
found_name ms name [] v all h = absurd (cc)
found_name ms name (b ∷ bs) v all h = found_first ms name b bs v (All-head (IsVariable ms) b bs all) (λ h. found_name ms name bs v (All-tail (IsVariable ms) b bs all) h) (bytes_eq b.name name) h

variable_made : (rules : Rules) (name : Name) (s : State) (o : Option ℕ) → bound_to name.bytes (s.inner ++ s.outer) ≡ o → Good rules s → (a : ℕ) (t : State) → found_or o name s ≡ Ok (t, a) → Leaves rules (IsOf form.Variable) s a t
variable_made rules name s (Some v) is good a t e =
    leaves_as rules (IsOf form.Variable) s s t v a e (record {
      good = good;
      grows = grows_none s.vertices;
      value = found_name s.vertices name.bytes (s.inner ++ s.outer) v (All-append (IsVariable s.vertices) s.inner s.outer good.inner good.outer) is;
    })
variable_made rules name s None is good a t e = absurd (cc)

pub variable_keeps : (rules : Rules) (base : List Made) (name : Name) → Keeps rules base (IsOf form.Variable) (variable name)
variable_keeps rules base name = record {
  leaves = λ s good g a t e. variable_made rules name s (bound_to name.bytes (s.inner ++ s.outer)) refl good a t e;
}

bind_keeps : (rules : Rules) (base : List Made) (name : List ℕ) (v : ℕ) → Has base v form.Variable → Keeps rules base (IsOf form.Variable) (bind name v)
bind_keeps rules base name v at = record {
  leaves = λ s good g a t e.
      let b : Bound = record { name = name; vertex = v } in
      let here : Has s.vertices v form.Variable = g.has v form.Variable at in
      leaves_as rules (IsOf form.Variable) s (record { vertices = s.vertices; edges = s.edges; inner = b ∷ s.inner; outer = s.outer }) t v a e (record {
        good = record { kept = good.kept; named = good.named; inner = All-cons (IsVariable s.vertices) b s.inner here good.inner; outer = good.outer; targets = good.targets };
        grows = grows_none s.vertices;
        value = here;
      });
}

chosen : {A : Type 0} (b : Bool) (e : EmitFault) (r : Result (State × A) EmitFault) (t : State) (a : A) → cond b (Err e) r ≡ Ok (t, a) → r ≡ Ok (t, a)
chosen true e r t a h = absurd (cc)
chosen false e r t a h = h

pub declare_keeps : (rules : Rules) (base : List Made) (name : Name) → rules.Allowed name.bytes → Keeps rules base (IsOf form.Variable) (declare name)
declare_keeps rules base name allowed = record {
  leaves = λ s good g a t e.
      let w = fresh name.tok form.Variable name.bytes ⟫ bind name.bytes in
      let k : Keeps rules base (IsOf form.Variable) w = keeps_then rules base (IsOf form.Variable) (IsOf form.Variable) (fresh name.tok form.Variable name.bytes) (bind name.bytes)
      (fresh_keeps rules base name.tok form.Variable name.bytes refl allowed) (λ ms v g h. bind_keeps rules ms name.bytes v h) in
      k.leaves s good g a t (chosen (is_some (bound_to name.bytes s.inner)) _ (w s) t a e);
}

-- ---- scopes
closed_of : {A : Type 0} (before : State) (r : Result (State × A) EmitFault) (t : State) (a : A) → closed before r ≡ Ok (t, a) → (u : State) × ((r ≡ Ok (u, a)) × (t ≡ record { vertices = u.vertices; edges = u.edges; inner = before.inner; outer = before.outer }))
closed_of before (Ok (u, b)) t a e =
    let left : State = record { vertices = u.vertices; edges = u.edges; inner = before.inner; outer = before.outer } in
    let both = pair_of (left, b) (t, a) e in
    (u, (ap (λ b. Ok (u, b)) (ap (λ x. x.1) both), sym (ap (λ x. x.0) both)))
closed_of before (Err f) t a e = absurd (cc)

pub scoped_keeps : {A : Type 0} (rules : Rules) (base : List Made) (Q : List Made → A → Type 0) (names : List Bound) (w : Walk A) → All (IsVariable base) names → Keeps rules base Q w → Keeps rules base Q (scoped names w)
scoped_keeps {A} rules base Q names w all k = record {
  leaves = λ s good g a t e.
      let inside : State = record { vertices = s.vertices; edges = s.edges; inner = names; outer = s.inner ++ s.outer } in
      let r = closed_of s (w inside) t a e in
      let u = r.0 in
      let opened : Good rules inside = record {
        kept = good.kept;
        named = good.named;
        inner = variables_grown base s.vertices names g all;
        outer = All-append (IsVariable s.vertices) s.inner s.outer good.inner good.outer;
        targets = good.targets;
      } in
      let l = k.leaves inside opened g a u r.1.0 in
      let left : Leaves rules Q s a (record { vertices = u.vertices; edges = u.edges; inner = s.inner; outer = s.outer }) = record {
        good = record { kept = l.good.kept; named = l.good.named; inner = variables_grown s.vertices u.vertices s.inner l.grows good.inner; outer = variables_grown s.vertices u.vertices s.outer l.grows good.outer; targets = l.good.targets };
        grows = l.grows;
        value = l.value;
      } in
      subst (λ t. Leaves rules Q s a t) (sym r.1.1) left;
}
