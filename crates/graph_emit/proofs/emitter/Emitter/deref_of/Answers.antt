use Rattle.std.proofs.Common.{◌≡◌, ◌<◌, ◌≤◌, ◌∙◌, [], ◌∷◌, ◌++◌, length, ap, inr, sym, subst, arith, None, Some, Err}
use Rattle.std.specs.Prelude.{map, nat_eq}
use Rattle.std.specs.Map.{update}
use Rattle.emit_list.specs.declared.vertex.VertexForm.TheVariants as form
use Rattle.emit_list.specs.declared.vertex.TheConstants.{MOST_VERTICES}
use Rattle.graph_emit.specs.State.{Made, State, is_deref_of, place_of, with_vertex}
use Rattle.graph_emit.specs.Answers.{made, at_number, IsIndexed}
use Rattle.graph_emit.proofs.Steps.{answer_err, state_is}
use Rattle.graph_emit.proofs.Index.{indexed_deref}
use Rattle.graph_emit.proofs.Emitting.{spots_long, spots_more, none_found, deref_full, deref_new}
use Rattle.graph_emit.proofs.emitter.Emitter.deref_of.Goals as goal

pub returns-then-number-ge-MOST_VERTICES : goal.returns-then-number-ge-MOST_VERTICES
returns-then-number-ge-MOST_VERTICES c =
    let ss = c.self.inside.spots.items in
    let s = c.args.self.now in
    let same : map made ss ≡ s.vertices = ap (λ (s : State). s.vertices) c.self.view_is in
    let missed : at_number c.self.inside.derefs c.args.v ≡ None = none_found c.get.result _ c.get.ensures.value c.in_default.not-Some in
    let none : place_of (is_deref_of c.args.v) s.vertices ≡ None = ap (place_of (is_deref_of c.args.v)) (sym same) ∙ sym (c.self.invariant.deref c.args.v) ∙ missed in
    let full : MOST_VERTICES ≤ length s.vertices = omega (arith, spots_long ss, ap length same) in
    answer_err (inr (deref_full s c.args.tok c.args.v none full ∙ ap Err (sym c.refusal.ensures)))

pub invariant_of-self-2 : goal.invariant_of-self-2
invariant_of-self-2 c =
    let ss = c.self.inside.spots.items in
    let missed : at_number c.self.inside.derefs c.args.v ≡ None = none_found c.get.result _ c.get.ensures.value c.in_default.not-Some in
    let number : c.len-number.result ≡ length (map made ss) = omega (arith, spots_long ss, c.len-number.ensures) in
    let room : length (map made ss) < MOST_VERTICES = omega arith in
    subst (λ ms. IsIndexed ms c.add_indexed.new.index c.self.inside.addresses) (sym (spots_more ss c.add_indexed.new.spots.items _ c.in_ok-add_indexed.ensures.spots))
    (indexed_deref (map made ss) [] c.args.tok.number c.args.v c.self.inside.derefs c.add_indexed.new.index c.self.inside.addresses c.self.invariant room missed
    (λ q. c.in_ok-add_indexed.ensures.index q ∙ ap (λ n. update nat_eq (at_number c.self.inside.derefs) c.args.v (Some n) q) number))

pub returns : goal.returns
returns c =
    let ss = c.self.inside.spots.items in
    let s = c.args.self.now in
    let x : Made = record { form = form.Deref c.args.v; name = []; token = c.args.tok.number } in
    let same : map made ss ≡ s.vertices = ap (λ (s : State). s.vertices) c.self.view_is in
    let missed : at_number c.self.inside.derefs c.args.v ≡ None = none_found c.get.result _ c.get.ensures.value c.in_default.not-Some in
    let none : place_of (is_deref_of c.args.v) s.vertices ≡ None = ap (place_of (is_deref_of c.args.v)) (sym same) ∙ sym (c.self.invariant.deref c.args.v) ∙ missed in
    let number : c.len-number.result ≡ length s.vertices = omega (arith, spots_long ss, ap length same, c.len-number.ensures) in
    let room : length s.vertices < MOST_VERTICES = omega arith in
    let t : State = record {
      vertices = map made c.add_indexed.new.spots.items;
      edges = c.self.inside.edges.items;
      inner = c.self.inside.names.inner;
      outer = c.self.inside.names.outer;
    } in
    let more : map made c.add_indexed.new.spots.items ≡ map made ss ++ x ∷ [] = spots_more ss c.add_indexed.new.spots.items _ c.in_ok-add_indexed.ensures.spots in
    let is : with_vertex (form.Deref c.args.v) [] c.args.tok.number s ≡ t = state_is (with_vertex (form.Deref c.args.v) [] c.args.tok.number s) t
    (ap (λ l. l ++ x ∷ []) (sym same) ∙ sym more)
    (ap (λ (s : State). s.edges) (sym c.self.view_is)) (ap (λ (s : State). s.inner) (sym c.self.view_is)) (ap (λ (s : State). s.outer) (sym c.self.view_is)) in
    deref_new s t c.join.new.self c.args.tok c.args.v c.len-number.result _ none room number is c.in_ok-join.ensures
