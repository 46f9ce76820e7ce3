-- The steps on the graph, and what the code keeps for them.
use Rattle.std.proofs.Common.{◌≡◌, ◌∙◌, sym, ap, refl, subst, ℕ, ◌<◌, ◌≤◌, Bool, false, cond, List, [], ◌∷◌, ◌++◌, length, Option, Some, None, Result, Ok, Err, arith}
use Rattle.std.specs.Prelude.{nat_lt, is_some, map, IsErrAnd}
use Rattle.std.specs.Borrow.{Bor}
use Rattle.std.specs.Option.{option_copied}
use Rattle.std.specs.BTreeMap.{BTreeMap}
use Rattle.std.proofs.lemmas.Bool.{lt-ltb}
use Rattle.std.proofs.lemmas.Bool.Decides.{nat_tests}
use Rattle.std.proofs.lemmas.List.{map-append, length-map}
use Rattle.faults.specs.declared.kinds.InputKind.TheVariants as input
use Rattle.c_tree.specs.declared.tree.Tok.{Tok}
use Rattle.c_tree.specs.declared.tree.Name.{Name}
use Rattle.emit_list.specs.declared.vertex.VertexForm.{VertexForm}
use Rattle.emit_list.specs.declared.vertex.VertexForm.TheVariants as form
use Rattle.emit_list.specs.declared.vertex.TheConstants.{MOST_VERTICES}
use Rattle.emit_list.specs.declared.edge.EmitLabel.TheVariants as label
use Rattle.emit_list.specs.Vertices.{made_for}
use Rattle.visible_names.specs.Names.{Bound, bound_to}
use Rattle.graph_emit.specs.declared.emitter.Spot.{Spot}
use Rattle.graph_emit.specs.declared.fault.EmitFault.{EmitFault}
use Rattle.graph_emit.specs.declared.fault.EmitFault.TheVariants as fault
use Rattle.graph_emit.specs.State.{State, Walk, done, and_then, ◌⟫◌, fresh, with_vertex, join, is_deref_of, is_address_of, place_of, deref_or_new, deref_of, address_or_new, address_of, bind, declare}
use Rattle.graph_emit.specs.Answers.{WalkGives, Answers, made, IsIndexed}
use Rattle.graph_emit.proofs.Steps.{answer_ok, GoesOn, goes, goes_by, stops_by, ends_done, pair_of}
use Rattle.graph_emit.proofs.Index.{indexed_plain}

-- ---- room
pub fresh_room : (tok : Tok) (f : VertexForm) (name : List ℕ) (s : State) → length s.vertices < MOST_VERTICES → fresh tok f name s ≡ Ok (with_vertex f name tok.number s, length s.vertices)
fresh_room tok f name s room = ap (λ b. cond b (Ok (with_vertex f name tok.number s, length s.vertices)) (Err (fault.At tok.line input.TooManyVertices))) (lt-ltb (length s.vertices) MOST_VERTICES room)

not_below : (n m : ℕ) → m ≤ n → nat_lt n m ≡ false
not_below n m h = grind (arith, nat_tests)

pub fresh_full : (tok : Tok) (f : VertexForm) (name : List ℕ) (s : State) → MOST_VERTICES ≤ length s.vertices → fresh tok f name s ≡ Err (fault.At tok.line input.TooManyVertices)
fresh_full tok f name s full = ap (λ b. cond b (Ok (with_vertex f name tok.number s, length s.vertices)) (Err (fault.At tok.line input.TooManyVertices))) (not_below (length s.vertices) MOST_VERTICES full)

pub spots_long : (ss : List Spot) → length (map made ss) ≡ length ss
spots_long ss = length-map ss made

pub spots_more : (ss ts : List Spot) (x : Spot) → ts ≡ ss ++ x ∷ [] → map made ts ≡ map made ss ++ made x ∷ []
spots_more ss ts x e = ap (map made) e ∙ map-append made ss (x ∷ [])

pub spots_plain : (ss ts : List Spot) (x : Spot) (d a : BTreeMap ℕ ℕ) → ts ≡ ss ++ x ∷ [] → IsIndexed (map made ss) d a → length ss < MOST_VERTICES → made_for x.form ≡ None → IsIndexed (map made ts) d a
spots_plain ss ts x d a e i room plain = subst (λ ms. IsIndexed ms d a) (sym (spots_more ss ts x e)) (indexed_plain (map made ss) (made x) d a i (omega (arith, spots_long ss)) plain)

-- ---- a vertex that is found by another
pub none_found : (r : Option (Bor ℕ)) (o : Option ℕ) → option_copied r ≡ o → ((t : Bor ℕ) → r ≡ Some t → ⊥) → o ≡ None
none_found None o e missing = sym e
none_found (Some t) o e missing = absurd (missing t refl)

-- no vertex is the dereference of this one, and none can be made
pub deref_full : (s : State) (tok : Tok) (v : ℕ) → place_of (is_deref_of v) s.vertices ≡ None → MOST_VERTICES ≤ length s.vertices → deref_of tok v s ≡ Err (fault.At tok.line input.TooManyVertices)
unfolding ◌⟫◌
deref_full s tok v none full = ap (λ o. deref_or_new o tok v s) none ∙ ap (λ r. and_then r (λ t. join v label.D t ⟫ λ _. done t)) (fresh_full tok (form.Deref v) [] s full)

pub address_full : (s : State) (tok : Tok) (v : ℕ) → place_of (is_address_of v) s.vertices ≡ None → MOST_VERTICES ≤ length s.vertices → address_of tok v s ≡ Err (fault.At tok.line input.TooManyVertices)
unfolding ◌⟫◌
address_full s tok v none full = ap (λ o. address_or_new o tok v s) none ∙ ap (λ r. and_then r (λ t. join t label.D v ⟫ λ _. done t)) (fresh_full tok (form.Address v) [] s full)

-- a new vertex that the code has added
fresh_given : (tok : Tok) (f : VertexForm) (s t : State) (n : ℕ) → length s.vertices < MOST_VERTICES → n ≡ length s.vertices → with_vertex f [] tok.number s ≡ t → WalkGives (fresh tok f []) s n t
fresh_given tok f s t n room e is = record {
  walked = fresh_room tok f [] s room ∙ ap (λ t. Ok (t, length s.vertices)) is ∙ ap (λ n. Ok (t, n)) (sym e);
  around = ap (λ (t : State). t.outer) (sym is);
}

pub deref_new : (s t u : State) (tok : Tok) (v n : ℕ) (a : Unit {0}) → place_of (is_deref_of v) s.vertices ≡ None → length s.vertices < MOST_VERTICES → n ≡ length s.vertices → with_vertex (form.Deref v) [] tok.number s ≡ t → Answers (join v label.D n) t (Ok a) u → Answers (deref_of tok v) s (Ok n) u
deref_new s t u tok v n a none room e is joined =
    let start : GoesOn (deref_of tok v) s (fresh tok (form.Deref v) [] ⟫ λ t. join v label.D t ⟫ λ _. done t) s = record { same = ap (λ o. deref_or_new o tok v s) none; around = refl } in
    ends_done (goes_by _ (goes _ start (fresh_given tok (form.Deref v) s t n room e is)) joined)

pub address_new : (s t u : State) (tok : Tok) (v n : ℕ) (a : Unit {0}) → place_of (is_address_of v) s.vertices ≡ None → length s.vertices < MOST_VERTICES → n ≡ length s.vertices → with_vertex (form.Address v) [] tok.number s ≡ t → Answers (join n label.D v) t (Ok a) u → Answers (address_of tok v) s (Ok n) u
address_new s t u tok v n a none room e is joined =
    let start : GoesOn (address_of tok v) s (fresh tok (form.Address v) [] ⟫ λ t. join t label.D v ⟫ λ _. done t) s = record { same = ap (λ o. address_or_new o tok v s) none; around = refl } in
    ends_done (goes_by _ (goes _ start (fresh_given tok (form.Address v) s t n room e is)) joined)

-- ---- declarations
-- a name that the innermost scope doesn't have yet
declares : (name : Name) (bytes : List ℕ) (inner : List Bound) (s : State) (found : Bool) → bytes ≡ name.bytes → inner ≡ s.inner → found ≡ is_some (bound_to bytes inner) → found ≡ false → GoesOn (declare name) s (fresh name.tok form.Variable bytes ⟫ bind bytes) s
declares name bytes inner s found b i is missing =
    let new : is_some (bound_to name.bytes s.inner) ≡ false = ap (λ n. is_some (bound_to n s.inner)) (sym b) ∙ ap (λ l. is_some (bound_to bytes l)) (sym i) ∙ sym is ∙ missing in
    let w : List ℕ → Walk ℕ = λ n. fresh name.tok form.Variable n ⟫ bind n in
    record { same = ap (λ t. cond t (Err (fault.At name.tok.line input.Repeated)) (w name.bytes s)) new ∙ ap (λ n. w n s) (sym b); around = refl }

pub declare_stops : (name : Name) (bytes : List ℕ) (inner : List Bound) (s t u : State) (found : Bool) (e : EmitFault) (r : Result ℕ EmitFault) → bytes ≡ name.bytes → inner ≡ s.inner → found ≡ is_some (bound_to bytes inner) → found ≡ false
    → Answers (fresh name.tok form.Variable bytes) s (Err e) t → IsErrAnd r (λ x. x ≡ e) → Answers (declare name) s r u
declare_stops name bytes inner s t u found e r b i is missing h err = stops_by _ r (declares name bytes inner s found b i is missing) h err

abbrev with_name : List ℕ → ℕ → State → State
with_name n v s = record { vertices = s.vertices; edges = s.edges; inner = (let b : Bound = record { name = n; vertex = v } in b) ∷ s.inner; outer = s.outer }

pub declare_ends : (name : Name) (bytes : List ℕ) (inner : List Bound) (s t u : State) (found : Bool) (v : ℕ) → bytes ≡ name.bytes → inner ≡ s.inner → found ≡ is_some (bound_to bytes inner) → found ≡ false
    → Answers (fresh name.tok form.Variable bytes) s (Ok v) t → bind bytes v t ≡ Ok (u, v) → Answers (declare name) s (Ok v) u
declare_ends name bytes inner s t u found v b i is missing h bound =
    let g = goes_by _ (declares name bytes inner s found b i is missing) h in
    let left : with_name bytes v t ≡ u = ap (λ x. x.0) (pair_of (with_name bytes v t, v) (u, v) bound) in
    answer_ok (record { walked = g.same ∙ bound; around = ap (λ (s : State). s.outer) (sym left) ∙ g.around })
