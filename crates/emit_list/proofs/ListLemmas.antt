-- A list with a vertex or an edge more.
use Rattle.std.proofs.Common.{◌≡◌, ℕ, zero, suc, ◌+◌, ◌<◌, ◌≤◌, ◌⊎◌, List, [], ◌∷◌, ◌++◌, length, Some, arith, refl, sym, ap, subst, inl, inr, length-append}
use Rattle.std.proofs.lemmas.List.Elements.{All-weaker, All-push}
use Rattle.emit_list.specs.declared.vertex.VertexForm.{VertexForm}
use Rattle.emit_list.specs.declared.vertex.Vertex.{Vertex}
use Rattle.emit_list.specs.declared.vertex.TheConstants.{MOST_VERTICES}
use Rattle.emit_list.specs.declared.edge.EmitEdge.{EmitEdge}
use Rattle.emit_list.specs.Vertices.{HasForm, IsBelow, IsEdgeBelow, IsListed, made_for}

-- a vertex of a list that got one more: one of those before, or the new one
pub form_of_push : (vs : List Vertex) (v : Vertex) (k : ℕ) (f : VertexForm) → HasForm (vs ++ v ∷ []) k f → HasForm vs k f ⊎ ((k ≡ length vs) × (v.form ≡ f))
form_of_push [] v zero f h = inr (refl, cc)
form_of_push [] v (suc k) f h = absurd (cc)
form_of_push (x ∷ vs) v zero f h = inl h
form_of_push (x ∷ vs) v (suc k) f h = elim (form_of_push vs v k f h) [ inl a ↦ inl a | inr (e, g) ↦ inr (ap suc e, g) ]

more_below : (n : ℕ) (e : EmitEdge) → IsEdgeBelow n e → (m : ℕ) → n ≤ m → IsEdgeBelow m e
more_below n e b m le = record { source = omega (arith, b.source); destination = omega (arith, b.destination) }

pub listed_vertex : (vs : List Vertex) (es : List EmitEdge) (v : Vertex) → IsListed vs es → length vs < MOST_VERTICES → IsBelow (length vs) v.form → IsListed (vs ++ v ∷ []) es
listed_vertex vs es v l room below =
    let long : length (vs ++ v ∷ []) ≡ length vs + 1 = length-append vs (v ∷ []) in
    record {
      few = omega (arith, long, l.few);
      earlier = λ k f h base e. elim (form_of_push vs v k f h) [
        | inl a ↦ l.earlier k f a base e
        | inr (at, g) ↦ subst (λ n. base < n) (sym at) (below base (subst (λ x. made_for x ≡ Some base) (sym g) e))
      ];
      inside = All-weaker (IsEdgeBelow (length vs)) (IsEdgeBelow (length (vs ++ v ∷ []))) (λ e b. more_below _ e b _ (omega (arith, long))) es l.inside;
    }

pub listed_edge : (vs : List Vertex) (es : List EmitEdge) (e : EmitEdge) → IsListed vs es → IsEdgeBelow (length vs) e → IsListed vs (es ++ e ∷ [])
listed_edge vs es e l below = record { few = l.few; earlier = l.earlier; inside = All-push (IsEdgeBelow (length vs)) es e l.inside below }
