-- A partition of given edges is what a closing begins with, and fits its file.
use Rattle.std.proofs.Common.{◌≡◌, ◌⊎◌, ◌↔◌, inl, inr, ℕ, ◌+◌, ◌-◌, ◌<◌, ◌≤◌, ◌^◌, cond, List, [], ◌∷◌, length, refl, ap, arith, subst, true}
use Rattle.std.specs.Prelude.{All, Contains, nat_lt, slice_index_or}
use Rattle.std.proofs.lemmas.Bool.Decides.{nat_tests}
use Rattle.std.proofs.lemmas.List.Elements.{All-contains}
use Rattle.graph_words.specs.declared.types.Edge.{Edge}
use Rattle.graph_words.specs.declared.types.Born.{Born}
use Rattle.graph_words.specs.declared.types.Vertex.{Vertex}
use Rattle.graph_words.specs.declared.types.LabelId.{LabelId}
use Rattle.graph_words.specs.declared.types.Rule.{Rule}
use Rattle.graph_words.specs.Reach.{Graph, graph_with, edge, rule, Yields, done, keep, rewrite}
use Rattle.normal_law.specs.Closure.{Normal, IsUp, itself, above, IsEmpty, IsFreshLabel}
use Rattle.normal_law.specs.NormalForm.{normal_form, fresh_words}
use Rattle.closing_machine.specs.Machine.{IsGiven, input, loop}
use Rattle.closing_machine.specs.Rounds.{born}
use Rattle.closing_machine.proofs.Members.{All-from_members}
use Rattle.edge_text.specs.EdgesText.{edges_of, vertex_count_of}
use Rattle.edge_text.proofs.GraphLemmas.{IsGraph-with_count}
use Rattle.partition_file.specs.Spelling.{Part, IsPart, FitsPart, FitsEdge}
use Rattle.import_text.specs.Given.{IsFrom, IsAboveIn, IsLoopIn}
use Rattle.import_text.specs.GivenPart.{GathersCopy, GivesPart, expect_given}

-- ---- labels
up_below : (rules : List Rule) (k : ℕ) {b a : LabelId} → All (λ r. r.left.0 < k) rules → b.0 < k → IsUp rules b a → a.0 < k
up_below rules k left l itself = l
up_below rules k left l (above {a = a} c up m) = All-contains (λ (r : Rule). r.left.0 < k) rules (rule a (c ∷ [])) left m

left_below : (rules : List Rule) (k : ℕ) (a : LabelId) → All (λ r. r.left.0 < k) rules → {j : ℕ} {f w : List LabelId} → Yields rules j f w → f ≡ a ∷ [] → w ≡ [] → a.0 < k
left_below rules k a left done is none = absurd (cc)
left_below rules k a left (keep y) is none = absurd (cc)
left_below rules k a left (rewrite {a = b} {f = f} r m y) is none =
    let same : b ≡ a = cc in
    subst (λ (l : LabelId). l.0 < k) same (All-contains (λ (x : Rule). x.left.0 < k) rules (rule b r) left m)

empty_known : (rules : List Rule) (k : ℕ) (a : LabelId) → All (λ r. r.left.0 < k) rules → IsEmpty (normal_form rules) a → (a.0 < k) ⊎ IsFreshLabel (normal_form rules) a
empty_known rules k a left (inl named, (j, y)) =
    let test : nat_lt a.0 1000 ≡ true = grind (arith, nat_tests) in
    inl (left_below rules k a left y (ap (λ t. cond t (a ∷ []) (slice_index_or (fresh_words rules) (a.0 - 1000) [])) test) refl)
empty_known rules k a left (inr fresh, y) = inr fresh

-- ---- edges
given_above : (n : Normal) (lo hi vertices : ℕ) (edges : List Edge) (e : Edge) → IsAboveIn n lo hi edges e → IsGiven n (graph_with vertices edges) e
given_above n lo hi vertices edges e a = input a.1.0 a.1.1 a.1.2

given_loop : (n : Normal) (lo hi vertices : ℕ) (edges : List Edge) (e : Edge) → hi ≤ vertices → IsLoopIn n lo hi e → IsGiven n (graph_with vertices edges) e
given_loop n lo hi vertices edges e within l = subst (λ (v : Vertex). IsGiven n (graph_with vertices edges) (edge e.src e.label v)) l.1 (loop (omega (arith, l.0.1, within)) l.2)

from_given : (n : Normal) (lo hi : ℕ) (g : Graph) (e : Edge) → IsGiven n g e → IsFrom lo hi e → IsAboveIn n lo hi g.edges e ⊎ IsLoopIn n lo hi e
from_given n lo hi g e (input b m up) from = inl (from, (b, m, up))
from_given n lo hi g e (loop h empty) from = inr (from, refl, empty)

ends_below : (edges : List Edge) (vertices : ℕ) (e : Edge) → vertex_count_of edges ≤ vertices → Contains edges e → e.dst.0 < vertices
ends_below edges vertices e few m =
    let ends = All-contains (λ (x : Edge). (x.src.0 < vertex_count_of edges) × (x.dst.0 < vertex_count_of edges)) edges e (IsGraph-with_count edges) m in
    omega (arith, ends.1, few)

module _ (rules : List Rule) (labels : List (List ℕ)) (len vertices lo hi : ℕ) (tells : Type 0) (file : List ℕ) (given : List Edge) (p : Part) (g : GathersCopy (normal_form rules) labels len vertices lo hi tells file given) (bounds : (p.lo ≡ lo) × (p.hi ≡ hi)) (part : IsPart p)
    (are : (b : Born) → Contains p.edges b ↔ ((Contains given b.edge ⊎ IsLoopIn (normal_form rules) lo hi b.edge) × (b.birth ≡ 0))) (few : length p.edges < 2 ^ 64) (within : hi ≤ vertices) (left : All (λ r. r.left.0 < length labels) rules) (fresh_few : (normal_form rules).fresh ≤ 62000) where
  -- what an edge of the partition comes from
  comes : (b : Born) → Contains p.edges b → (IsAboveIn (normal_form rules) lo hi (edges_of labels g.text) b.edge ⊎ IsLoopIn (normal_form rules) lo hi b.edge) × (b.birth ≡ 0)
  comes b m =
      let h = (are b).0 m in
      (elim h.0 [ inl k ↦ inl ((g.all b.edge).0 k) | inr l ↦ inr l ], h.1)

  pub gives_part : GivesPart (normal_form rules) labels len vertices lo hi tells file p
  gives_part =
      record {
        text = g.text;
        good = g.good;
        is_file = g.is_file;
        given = record {
          given = λ e i from. (are (born e 0)).1 (elim (from_given (normal_form rules) lo hi (graph_with vertices (edges_of labels g.text)) e i from) [ inl a ↦ inl ((g.all e).1 a) | inr l ↦ inr l ], refl);
          only = All-from_members (λ b. IsGiven (normal_form rules) (graph_with vertices (edges_of labels g.text)) b.edge × IsFrom lo hi b.edge × (b.birth ≡ 0)) p.edges only;
        };
      }
    where
      only : (b : Born) → Contains p.edges b → IsGiven (normal_form rules) (graph_with vertices (edges_of labels g.text)) b.edge × IsFrom lo hi b.edge × (b.birth ≡ 0)
      only b m =
          let h = comes b m in
          elim h.0 [ inl a ↦ (given_above (normal_form rules) lo hi vertices (edges_of labels g.text) b.edge a, a.0, h.1) | inr l ↦ (given_loop (normal_form rules) lo hi vertices (edges_of labels g.text) b.edge within l, l.0, h.1) ]

  known : (e : Edge) → IsAboveIn (normal_form rules) lo hi (edges_of labels g.text) e ⊎ IsLoopIn (normal_form rules) lo hi e → (e.label.0 < length labels) ⊎ ((1000 ≤ e.label.0) × (e.label.0 < 1000 + (normal_form rules).fresh))
  known e (inl a) =
      let named = All-contains (λ (x : Edge). x.label.0 < length labels) (edges_of labels g.text) (edge e.src a.1.0 e.dst) g.good.reads.numbered a.1.1 in
      inl (up_below rules (length labels) left named a.1.2)
  known e (inr l) = empty_known rules (length labels) e.label left l.2

  ends : (e : Edge) → IsAboveIn (normal_form rules) lo hi (edges_of labels g.text) e ⊎ IsLoopIn (normal_form rules) lo hi e → e.dst.0 < vertices
  ends e (inl a) = ends_below (edges_of labels g.text) vertices (edge e.src a.1.0 e.dst) g.good.few a.1.1
  ends e (inr l) = omega (arith, ap (λ (v : Vertex). v.0) l.1, l.0.1, within)

  numbers : (k : ℕ) → (k < length labels) ⊎ ((1000 ≤ k) × (k < 1000 + (normal_form rules).fresh)) → k < 2 ^ 16
  numbers k (inl h) = omega (arith, h, g.good.reads.short)
  numbers k (inr h) = omega (arith, h.1, fresh_few)

  fits_edge : (b : Born) → Contains p.edges b → FitsEdge (expect_given lo hi vertices (length labels) (normal_form rules).fresh) b
  fits_edge b m =
      let h = comes b m in
      let label = known b.edge h.0 in
      record { known = label; number = numbers b.edge.label.0 label; vertex = ends b.edge h.0; earlier = omega (arith, h.1) }

  pub fits_part : FitsPart (expect_given lo hi vertices (length labels) (normal_form rules).fresh) p
  fits_part =
      record {
        lo = bounds.0;
        hi = bounds.1;
        part = part;
        each = All-from_members (FitsEdge (expect_given lo hi vertices (length labels) (normal_form rules).fresh)) p.edges fits_edge;
        few = few;
      }
