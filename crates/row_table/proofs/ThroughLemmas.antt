-- What joins through a centre.
use Rattle.std.proofs.Common.{◌≡◌, ◌↔◌, ℕ, ◌+◌, ◌<◌, ◌≤◌, ◌⊎◌, List, [], length, get_or, sym, ap, subst, ◌∙◌, arith, inl, inr}
use Rattle.std.specs.Prelude.{Contains}
use Rattle.std.proofs.lemmas.Bool.{cases_lt}
use Rattle.std.proofs.lemmas.List.{get_or_default}
use Rattle.std.proofs.lemmas.List.Kept.{AllPairs-filter}
use Rattle.graph_words.specs.declared.types.Vertex.{Vertex}
use Rattle.graph_words.specs.declared.types.LabelId.{LabelId}
use Rattle.graph_words.specs.declared.types.Born.{Born}
use Rattle.graph_words.specs.Reach.{edge}
use Rattle.normal_law.specs.Closure.{Normal}
use Rattle.normal_law.specs.Closed.{Joins}
use Rattle.partition_file.specs.Spelling.{row_of}
use Rattle.closing_machine.specs.Rounds.{IsCandidate, IsOrdered}
use Rattle.closing_machine.proofs.Members.{either}
use Rattle.row_table.specs.declared.blocks.Block.{Block}
use Rattle.row_table.specs.Loaded.{newer_edges}
use Rattle.row_table.specs.Joined.{BlocksHave, GivesJoins, JoinsTo, AddsJoins, AddsThroughOne, Through, LabelsAscend}
use Rattle.row_table.specs.Chains.{AtSource, BeginsAt, IsNextOfRow, IsNextSource}
use Rattle.row_table.proofs.SearchLemmas.{from_row, in_its_row}
use Rattle.row_table.proofs.BlockLemmas.{is_newer, newer_has}
use Rattle.row_table.proofs.JoinLemmas.{same_vertex}
use Rattle.row_table.proofs.RowLemmas.{some_born, sources_grow}

pub newer_labels : (since : ℕ) (row : List Born) → LabelsAscend row → LabelsAscend (newer_edges since row)
newer_labels since row up = AllPairs-filter (λ (x y : Born). x.edge.label.0 ≤ y.edge.label.0) _ row up

module _ (n : Normal) (since : ℕ) (x : Vertex) (row newer : List Born) where
  pub new_through : (b : Born) (before after : List Block) → b.edge.dst.0 ≡ x.0 → since ≤ b.birth → AddsJoins n b.edge.label row before after → AddsThroughOne n since x row newer b before after
  new_through b before after e new h a w = (
    λ g. either (λ (o : BlocksHave before a w). inl o) (λ (j : JoinsTo n b.edge.label row a w). inr (same_vertex b.edge.dst x e, inl (new, j))) ((h a w).0 g),
    λ o. either (λ (g : BlocksHave before a w). (h a w).1 (inl g)) (λ (t : Through n since x row newer b a w). (h a w).1 (inr (either (λ (p : (since ≤ b.birth) × JoinsTo n b.edge.label row a w). p.1) (λ (p : (b.birth < since) × JoinsTo n b.edge.label newer a w). absurd (omega (arith, p.0))) t.1))) o,
  )

  pub old_through : (b : Born) (before after : List Block) → b.edge.dst.0 ≡ x.0 → b.birth < since → AddsJoins n b.edge.label newer before after → AddsThroughOne n since x row newer b before after
  old_through b before after e old h a w = (
    λ g. either (λ (o : BlocksHave before a w). inl o) (λ (j : JoinsTo n b.edge.label newer a w). inr (same_vertex b.edge.dst x e, inr (old, j))) ((h a w).0 g),
    λ o. either (λ (g : BlocksHave before a w). (h a w).1 (inl g)) (λ (t : Through n since x row newer b a w). (h a w).1 (inr (either (λ (p : (since ≤ b.birth) × JoinsTo n b.edge.label row a w). absurd (omega (arith, p.0))) (λ (p : (b.birth < since) × JoinsTo n b.edge.label newer a w). p.1) t.1))) o,
  )

  -- what the edges into x from one place to before another join to
  abbrev pub AddsBetween : List Born → ℕ → ℕ → List Block → List Block → Type 0
  AddsBetween edges p q before after = (a : LabelId) (w : Vertex)
      → BlocksHave after a w ↔ (BlocksHave before a w ⊎ ((j : ℕ) × (p ≤ j) × (j < q) × Through n since x row newer (get_or edges j some_born) a w))

  pub between_none : (edges : List Born) (p : ℕ) (blocks : List Block) → AddsBetween edges p p blocks blocks
  between_none edges p blocks a w = (
    λ g. inl g,
    λ o. either (λ (g : BlocksHave blocks a w). g) (λ (t : (j : ℕ) × (p ≤ j) × (j < p) × Through n since x row newer (get_or edges j some_born) a w). absurd (omega (arith, t.1, t.2))) o,
  )

  pub between_more : (edges : List Born) (p q end : ℕ) (before now after : List Block) → p ≤ q → IsNextOfRow edges x.0 (q + 1) end → AddsBetween edges p q before now → AddsThroughOne n since x row newer (get_or edges q some_born) now after → AddsBetween edges p end before after
  between_more edges p q end before now after le next f h a w = (
    λ g. either
        (λ (g : BlocksHave now a w). either (λ (o : BlocksHave before a w). inl o) (λ (t : (j : ℕ) × (p ≤ j) × (j < q) × Through n since x row newer (get_or edges j some_born) a w). inr (t.0, t.1, omega (arith, t.2, next.on), t.3)) ((f a w).0 g))
        (λ (t : Through n since x row newer (get_or edges q some_born) a w). inr (q, le, omega (arith, next.on), t))
        ((h a w).0 g),
    λ o. either
        (λ (g : BlocksHave before a w). (h a w).1 (inl ((f a w).1 (inl g))))
        (λ (t : (j : ℕ) × (p ≤ j) × (j < end) × Through n since x row newer (get_or edges j some_born) a w).
        elim (cases_lt t.0 q) [
          | inl lt ↦ (h a w).1 (inl ((f a w).1 (inr (t.0, t.1, lt, t.3))))
          | inr ge ↦ elim (cases_lt q t.0) [
            | inl gt ↦ absurd (next.between t.0 some_born (omega arith) t.2 (ap (λ (v : Vertex). v.0) t.3.0))
            | inr le2 ↦ (let e : t.0 ≡ q = omega arith in (h a w).1 (inr (subst (λ (j : ℕ). Through n since x row newer (get_or edges j some_born) a w) e t.3)))
          ]
        ])
        o,
  )

module _ (n : Normal) (edges : List Born) (since : ℕ) (x u : Vertex) where
  candidate : (a : LabelId) (w : Vertex) (b c : Born) → Contains (row_of u.0 edges) b → b.edge.dst ≡ x → Contains (row_of x.0 edges) c → Joins n b.edge.label c.edge.label a → c.edge.dst ≡ w → (since ≤ b.birth) ⊎ (since ≤ c.birth) → IsCandidate n edges since x (edge u a w)
  candidate a w b c mb at mc j e new =
      let r = from_row edges b u.0 mb in
      let s = from_row edges c x.0 mc in
      record {
        first = b;
        second = c;
        has_first = r.0;
        has_second = s.0;
        centre = at;
        join = record { follows = at ∙ same_vertex x c.edge.src (sym s.1); source = same_vertex u b.edge.src (sym r.1); destination = sym e; label = j };
        one_new = new;
      }

  -- the edges into x from u stand from one place to before another
  module _ (sorted : IsOrdered edges) (place end : ℕ) (at : AtSource edges x place) (there : place < length edges) (begins : BeginsAt edges place u.0) (next : IsNextSource edges x place end) (blocks : List Block) (t : AddsBetween n since x (row_of x.0 edges) (newer_edges since (row_of x.0 edges)) edges place end [] blocks) where
    abbrev here : ℕ → Born
    here j = get_or edges j some_born

    from_here : (j : ℕ) → j < length edges → (here j).edge.src.0 ≡ u.0 → Contains (row_of u.0 edges) (here j)
    from_here j lt e = in_its_row edges (here j) u.0 e (j, lt, get_or_default edges j (here j) some_born lt)

    to : (a : LabelId) (w : Vertex) → BlocksHave blocks a w → IsCandidate n edges since x (edge u a w)
    to a w g =
        either
        (λ (o : BlocksHave [] a w). absurd (let l : o.1.0 < 0 = o.1.1 in omega arith))
        (λ (p : (j : ℕ) × (place ≤ j) × (j < end) × Through n since x (row_of x.0 edges) (newer_edges since (row_of x.0 edges)) (here j) a w).
        let lt : p.0 < length edges = omega (arith, p.2, next.within) in
        let m = from_here p.0 lt (next.same p.0 some_born p.1 p.2 (ap (λ (v : Vertex). v.0) p.3.0) ∙ begins some_born there) in
        either
        (λ (q : (since ≤ (here p.0).birth) × JoinsTo n (here p.0).edge.label (row_of x.0 edges) a w). candidate a w (here p.0) q.1.0 m p.3.0 q.1.1 q.1.2 q.1.3 (inl q.0))
        (λ (q : ((here p.0).birth < since) × JoinsTo n (here p.0).edge.label (newer_edges since (row_of x.0 edges)) a w).
        let new = is_newer since (row_of x.0 edges) q.1.0 q.1.1 in
        candidate a w (here p.0) q.1.0 m p.3.0 new.0 q.1.2 q.1.3 (inr new.1))
        p.3.1)
        ((t a w).0 g)

    back : (a : LabelId) (w : Vertex) → IsCandidate n edges since x (edge u a w) → BlocksHave blocks a w
    back a w c =
        let b : Born = c.first in
        let d : Born = c.second in
        let k : ℕ = c.has_first.0 in
        let lt : k < length edges = c.has_first.1 in
        let same : here k ≡ b = get_or_default edges k some_born b lt ∙ c.has_first.2 in
        let su : (here k).edge.src.0 ≡ u.0 = ap (λ (y : Born). y.edge.src.0) same ∙ ap (λ (v : Vertex). v.0) (sym c.join.source) in
        let dx : (here k).edge.dst.0 ≡ x.0 = ap (λ (y : Born). y.edge.dst.0) same ∙ ap (λ (v : Vertex). v.0) c.centre in
        let sp : (here place).edge.src.0 ≡ u.0 = begins some_born there in
        let on : place ≤ k = elim (cases_lt k place) [ inl l ↦ absurd (let h : (here k).edge.src.0 < (here place).edge.src.0 = at.before k some_born l there dx in omega arith) | inr g ↦ g ] in
        let within : k < end = elim (cases_lt k end) [ inl l ↦ l | inr g ↦ absurd (let h : (here place).edge.src.0 < (here end).edge.src.0 = next.other some_born (omega arith) in let m : (here end).edge.src.0 ≤ (here k).edge.src.0 = sources_grow edges sorted end k g lt in omega arith) ] in
        let sd : d.edge.src.0 ≡ x.0 = ap (λ (v : Vertex). v.0) (sym c.join.follows ∙ c.centre) in
        let md = in_its_row edges d x.0 sd c.has_second in
        let give : Through n since x (row_of x.0 edges) (newer_edges since (row_of x.0 edges)) b a w → BlocksHave blocks a w = λ h. (t a w).1 (inr (k, on, within, subst (λ (y : Born). Through n since x (row_of x.0 edges) (newer_edges since (row_of x.0 edges)) y a w) (sym same) h)) in
        elim (cases_lt b.birth since) [
          | inl old ↦ (
              let new : since ≤ d.birth = either (λ (l : since ≤ b.birth). absurd (omega arith)) (λ (l : since ≤ d.birth). l) c.one_new in
              give (c.centre, inr (old, (d, newer_has since (row_of x.0 edges) d md new, c.join.label, sym c.join.destination))))
          | inr le ↦ give (c.centre, inl (le, (d, md, c.join.label, sym c.join.destination)))
        ]

    pub gives_source : GivesJoins (IsCandidate n edges since x) u blocks
    gives_source a w = (to a w, back a w)

pub source_gives : (n : Normal) (edges : List Born) (since : ℕ) (x : Vertex) (row newer : List Born) → row ≡ row_of x.0 edges → newer ≡ newer_edges since row → IsOrdered edges → (place end : ℕ) → AtSource edges x place → place < length edges → IsNextSource edges x place end → (blocks : List Block) → AddsBetween n since x row newer edges place end [] blocks → (u : Vertex) → BeginsAt edges place u.0 → GivesJoins (IsCandidate n edges since x) u blocks
source_gives n edges since x row newer is_row is_newer sorted place end at there next blocks t u begins = gives_source n edges since x u sorted place end at there begins next blocks (rw (is_newer, is_row) at t)
