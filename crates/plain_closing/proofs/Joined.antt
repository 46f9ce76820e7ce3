-- What is listed is in the closure, and a list that has all joins has all of the closure.
use Rattle.std.proofs.Common.{◌≡◌, ◌⊎◌, ℕ, ◌<◌, Bool, true, cond, List, [], ◌∷◌, ◌++◌, length, get_or, refl, arith, sym, subst, ap, ◌∙◌, inl, inr}
use Rattle.std.specs.Prelude.{All, Contains, filter, nat_lt, slice_index_or, ◌-◌, ◌↔◌}
use Rattle.std.proofs.lemmas.Bool.Decides.{nat_tests}
use Rattle.std.proofs.lemmas.List.Elements.{All-append, All-contains, All-filter, All-weaker, filter_passes}
use Rattle.closing_machine.proofs.Members.{Contains-filter}
use Rattle.graph_words.specs.declared.types.Vertex.{Vertex}
use Rattle.graph_words.specs.declared.types.LabelId.{LabelId}
use Rattle.graph_words.specs.declared.types.Edge.{Edge}
use Rattle.graph_words.specs.declared.types.Rule.{Rule}
use Rattle.graph_words.specs.Reach.{graph_with, Graph, IsGraph, edge, rule, Reach}
use Rattle.graph_words.proofs.ReachLaws.{Reach-label}
use Rattle.normal_law.specs.Closure.{Normal, IsLabelOf, IsNamed, IsUp, HasNamedLabels, Closure, given, loop}
use Rattle.normal_law.specs.Closed.{Joins, IsClosedOver}
use Rattle.normal_law.specs.NormalForm.{fresh_words, normal_form}
use Rattle.normal_law.proofs.ClosedLemmas.{Closure-in_closed}
use Rattle.normal_form.specs.Grammar.{IsGrammar}
use Rattle.plain_closing.specs.Begin.{AddsOf, IsAboveSome, IsLoop}
use Rattle.plain_closing.specs.Joins.{AddsMade, BeginsClosing, HasAbove, HasAllJoins, HasJoins, HasLoops, IsClosing, is_named}
use Rattle.plain_closing.proofs.Adding.{AddsMade-all, AddsMade-keeps, AddsOf-keeps}

-- a closing begins with the labels above each edge, and then the loops
pub BeginsClosing-from : (n : Normal) (vertices : ℕ) (graph first edges : List Edge) → All (HasAbove n first) graph → All (IsAboveSome n graph) first → AddsOf (IsLoop n vertices) first edges → ((v : ℕ) → v < vertices → HasLoops n edges v) → BeginsClosing n (graph_with vertices graph) edges
BeginsClosing-from n vertices graph first edges above only grown loops =
    record {
      above = All-weaker (HasAbove n first) (HasAbove n edges) (λ e h a up. AddsOf-keeps (IsLoop n vertices) first edges grown (edge e.src a e.dst) (h a up)) graph above;
      loops = loops;
      made =
          subst (λ (l : List Edge). All (IsClosing n (graph_with vertices graph)) l) (sym grown.at_end)
          (All-append (IsClosing n (graph_with vertices graph)) first grown.added
          (All-weaker (IsAboveSome n graph) (IsClosing n (graph_with vertices graph)) (λ e h. given h.0 h.1 h.2) first only)
          (All-weaker (IsLoop n vertices) (IsClosing n (graph_with vertices graph)) is_loop grown.added grown.each));
    }
  where
    is_loop : (e : Edge) → IsLoop n vertices e → IsClosing n (graph_with vertices graph) e
    is_loop e h = subst (λ (v : Vertex). Closure n (graph_with vertices graph) e.src e.label v) h.0 (loop h.1 h.2)

-- a list that began so and has all joins is closed over the graph
module _ (n : Normal) (g : Graph) (first edges : List Edge) (begins : BeginsClosing n g first) (made : AddsMade n first edges) (all : HasAllJoins n edges) where
  is_closed : IsClosedOver n g (Contains edges)
  is_closed =
      record {
        given = λ u v b a m up. AddsMade-keeps n first edges made (edge u a v) (All-contains (HasAbove n first) g.edges (edge u b v) begins.above m a up);
        loops = λ u a lt e. AddsMade-keeps n first edges made (edge u a u) (begins.loops u.0 lt a e);
        joins = λ u v w b c a x y j.
            let from_first : All (HasJoins n edges (edge u b v)) edges = All-contains (λ (f : Edge). All (HasJoins n edges f) edges) edges (edge u b v) all x in
            All-contains (HasJoins n edges (edge u b v)) edges (edge v c w) from_first y refl a j;
      }

  pub has_closure : (u v : Vertex) (a : LabelId) → Closure n g u a v → Contains edges (edge u a v)
  has_closure u v a c = Closure-in_closed c (Contains edges) is_closed

  pub in_closure : All (IsClosing n g) edges
  in_closure = AddsMade-all n g first edges made begins.made

-- a named label stands for itself
stands_for_itself : (rules : List Rule) (a : LabelId) → IsNamed a → (normal_form rules).stands a ≡ a ∷ []
stands_for_itself rules a lt =
    let test : nat_lt a.0 1000 ≡ true = grind (arith, nat_tests) in
    ap (λ t. cond t (a ∷ []) (slice_index_or (fresh_words rules) (a.0 - 1000) [])) test

-- what reaches has a named label
reached_named : (g : Graph) (rules : List Rule) (u v : Vertex) (a : LabelId) → All (λ e. IsNamed e.label) g.edges → HasNamedLabels rules → Reach g rules u (a ∷ []) v → IsNamed a
reached_named g rules u v a labels named r = go (Reach-label g rules u v a r)
  where
    go : ((x : Vertex) × Contains g.edges (edge u a x)) ⊎ ((r : List LabelId) × Contains rules (rule a r)) → IsNamed a
    go (inl p) = All-contains (λ (e : Edge). IsNamed e.label) g.edges (edge u a p.0) labels p.1
    go (inr p) = (All-contains (λ (r : Rule). IsNamed r.left × All IsNamed r.right) rules (rule a p.0) named p.1).0

abbrev pub Law : List Rule → Graph → Type 0
Law rules g = (u v : Vertex) (l : LabelId) → IsLabelOf (normal_form rules) l → (Closure (normal_form rules) g u l v ↔ Reach g rules u ((normal_form rules).stands l) v)

-- What each call of the closing promises, over the law of the normal form.
module _ (rules : List Rule) (g : Graph) (first edges : List Edge) (law : Law rules g) (limits : IsGrammar rules) (labels : All (λ e. IsNamed e.label) g.edges) (begins : BeginsClosing (normal_form rules) g first) (made : AddsMade (normal_form rules) first edges) (all : HasAllJoins (normal_form rules) edges) where
  pub closing_reached : All (λ e. Reach g rules e.src (e.label ∷ []) e.dst) (filter is_named edges)
  closing_reached k d l =
      let e = get_or (filter is_named edges) k d in
      let test : is_named e ≡ true = filter_passes is_named edges k d l in
      let named : IsNamed e.label = grind (arith, nat_tests) in
      let closing = All-filter is_named (IsClosing (normal_form rules) g) edges (in_closure (normal_form rules) g first edges begins made all) k d l in
      subst (λ (f : List LabelId). Reach g rules e.src f e.dst) (stands_for_itself rules e.label named) ((law e.src e.dst e.label (inl named)).0 closing)

  pub closing_has : (u v : Vertex) (a : LabelId) → Reach g rules u (a ∷ []) v → Contains (filter is_named edges) (edge u a v)
  closing_has u v a r =
      let named : IsNamed a = reached_named g rules u v a labels limits.named r in
      let test : nat_lt a.0 1000 ≡ true = grind (arith, nat_tests) in
      let stands = subst (λ (f : List LabelId). Reach g rules u f v) (sym (stands_for_itself rules a named)) r in
      Contains-filter is_named edges (edge u a v) (has_closure (normal_form rules) g first edges begins made all u v a ((law u v a (inl named)).1 stands)) test
