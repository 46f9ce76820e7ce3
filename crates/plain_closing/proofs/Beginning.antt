-- The edges that a closing begins with, one by one.
use Rattle.std.proofs.Common.{◌≡◌, ◌⊎◌, ℕ, ◌+◌, ◌<◌, ◌≤◌, List, [], length, get_or, sym, subst, inl, inr, refl, arith}
use Rattle.std.specs.Prelude.{All, Contains, ◌↔◌}
use Rattle.std.specs.List.{AllWithin}
use Rattle.std.proofs.lemmas.Bool.{cases_lt}
use Rattle.std.proofs.lemmas.List.{get_or_default}
use Rattle.std.proofs.lemmas.List.Elements.{All-append, All-contains, All-nil, All-weaker, AllWithin-none, AllWithin-more, at_read, Contains-get_or}
use Rattle.graph_words.specs.declared.types.Vertex.{Vertex}
use Rattle.graph_words.specs.declared.types.LabelId.{LabelId}
use Rattle.graph_words.specs.declared.types.Edge.{Edge}
use Rattle.graph_words.specs.Reach.{edge}
use Rattle.normal_law.specs.Closure.{Normal, IsUp, IsEmpty}
use Rattle.plain_closing.specs.Begin.{AddsEach, AddsOf, IsAboveSome, IsEdgeBetween, IsLoop}
use Rattle.plain_closing.specs.Joins.{HasAbove, HasLoops}
use Rattle.plain_closing.proofs.Adding.{AddsOf-keeps, AddsOf-none, AddsOf-then}

-- The labels above the first k edges of the graph are there, and no others.
pub record IsGathering (n : Normal) (graph : List Edge) (k : ℕ) (edges : List Edge) : Type 0 where
  pub above : AllWithin (HasAbove n edges) graph 0 k
  pub only : All (IsAboveSome n graph) edges

pub IsGathering-start : (n : Normal) (graph : List Edge) → IsGathering n graph 0 []
IsGathering-start n graph = record { above = AllWithin-none (HasAbove n []) graph 0; only = All-nil (IsAboveSome n graph) }

pub IsGathering-step : (n : Normal) (graph : List Edge) (k : ℕ) (labels : List LabelId) (now after : List Edge) (d : Edge) → k < length graph → IsGathering n graph k now → ((a : LabelId) → Contains labels a ↔ IsUp n.rules (get_or graph k d).label a) → AddsEach (get_or graph k d).src labels (get_or graph k d).dst now after → IsGathering n graph (k + 1) after
IsGathering-step n graph k labels now after d h g up a =
    record {
      above =
          AllWithin-more (HasAbove n after) graph 0 k (λ i x le s l above. AddsOf-keeps (IsEdgeBetween e.src labels e.dst) now after a.grown (edge (get_or graph i x).src l (get_or graph i x).dst) (g.above i x le s l above))
          (at_read graph (HasAbove n after) k e h (get_or_default graph k d e h) (λ l is. All-contains (λ (x : LabelId). Contains after (edge e.src x e.dst)) labels l a.has ((up l).1 is)));
      only =
          subst (All (IsAboveSome n graph)) (sym a.grown.at_end)
          (All-append (IsAboveSome n graph) now a.grown.added g.only (All-weaker (IsEdgeBetween e.src labels e.dst) (IsAboveSome n graph) above a.grown.added a.grown.each));
    }
  where
    e : Edge
    e = get_or graph k d

    above : (x : Edge) → IsEdgeBetween e.src labels e.dst x → IsAboveSome n graph x
    above x b = subst (IsAboveSome n graph) (sym b.2) (e.label, Contains-get_or graph k d h, (up b.0).0 b.1)

-- The loops of the vertices below v are there.
pub record IsLooping (n : Normal) (vertices v : ℕ) (before now : List Edge) : Type 0 where
  pub grown : AddsOf (IsLoop n vertices) before now
  pub loops : (u : ℕ) → u < v → HasLoops n now u

pub IsLooping-start : (n : Normal) (vertices : ℕ) (edges : List Edge) → IsLooping n vertices 0 edges edges
IsLooping-start n vertices edges = record { grown = AddsOf-none (IsLoop n vertices) edges; loops = λ u l. absurd (omega arith) }

pub IsLooping-step : (n : Normal) (vertices v : ℕ) (labels : List LabelId) (before now after : List Edge) → v < vertices → IsLooping n vertices v before now → ((a : LabelId) → Contains labels a ↔ IsEmpty n a) → AddsEach (record { 0 = v }) labels (record { 0 = v }) now after → IsLooping n vertices (v + 1) before after
IsLooping-step n vertices v labels before now after h g empties a =
    record {
      grown = AddsOf-then (IsLoop n vertices) before now after g.grown new;
      loops = λ u l. at u (cases_lt u v) l;
    }
  where
    here : Vertex
    here = record { 0 = v }

    is_loop : (e : Edge) → IsEdgeBetween here labels here e → IsLoop n vertices e
    is_loop e b = subst (IsLoop n vertices) (sym b.2) (refl, h, (empties b.0).0 b.1)

    new : AddsOf (IsLoop n vertices) now after
    new = record { added = a.grown.added; at_end = a.grown.at_end; each = All-weaker (IsEdgeBetween here labels here) (IsLoop n vertices) is_loop a.grown.added a.grown.each }

    at : (u : ℕ) → (u < v) ⊎ (v ≤ u) → u < v + 1 → HasLoops n after u
    at u (inl l) _ = λ x e. AddsOf-keeps (IsLoop n vertices) now after new (edge (record { 0 = u }) x (record { 0 = u })) (g.loops u l x e)
    at u (inr l) m =
        let same : v ≡ u = omega arith in
        subst (HasLoops n after) same (λ x e. All-contains (λ (y : LabelId). Contains after (edge here y here)) labels x a.has ((empties x).1 e))
