-- The joins through a centre, source after source.
use Rattle.std.proofs.Common.{◌≡◌, ◌≢◌, ℕ, ◌+◌, ◌<◌, ◌≤◌, ◌⊎◌, List, [], length, get_or, sym, ap, subst, ◌∙◌, arith, inl, inr}
use Rattle.std.proofs.lemmas.Bool.{cases_lt}
use Rattle.std.proofs.lemmas.List.{get_or_default}
use Rattle.std.proofs.lemmas.List.Elements.{All-weaker}
use Rattle.graph_words.specs.declared.types.Vertex.{Vertex}
use Rattle.graph_words.specs.declared.types.Edge.{Edge}
use Rattle.graph_words.specs.declared.types.Born.{Born}
use Rattle.normal_law.specs.Closure.{Normal}
use Rattle.closing_machine.specs.Rounds.{IsCandidate, IsOrdered}
use Rattle.closing_machine.specs.JoinsAt.{IsJoinsAt}
use Rattle.closing_machine.proofs.Members.{either}
use Rattle.row_table.specs.Chains.{AtSource, BeginsAt, BeginsBehind, IsNextOfRow, IsNextSource}
use Rattle.row_table.specs.Joined.{AppendsJoins}
use Rattle.row_table.proofs.JoinLemmas.{appends_both, appends_idle}
use Rattle.row_table.proofs.RowLemmas.{some_born, source_grows, sources_grow}

-- ---- the edges into x from one source

-- all edges into x from a place to before another begin where the one at the first place does
pub record Walk (edges : List Born) (x : Vertex) (place q : ℕ) : Type 0 where
  pub on : place ≤ q
  pub within : q ≤ length edges
  pub here : (d : Born) → q < length edges → (get_or edges q d).edge.dst.0 ≡ x.0
  pub same : (j : ℕ) (d : Born) → place ≤ j → j < q → (get_or edges j d).edge.dst.0 ≡ x.0 → (get_or edges j d).edge.src.0 ≡ (get_or edges place d).edge.src.0

pub walk_start : (edges : List Born) (x : Vertex) (place : ℕ) → AtSource edges x place → Walk edges x place place
walk_start edges x place at = record { on = omega arith; within = at.within; here = at.here; same = λ j d le lt. absurd (omega arith) }

module _ (edges : List Born) (x : Vertex) (place q : ℕ) (walk : Walk edges x place q) where
  pub walk_more : (end : ℕ) → q < length edges → (get_or edges q some_born).edge.src.0 ≡ (get_or edges place some_born).edge.src.0 → IsNextOfRow edges x.0 (q + 1) end → Walk edges x place end
  walk_more end lt begins next =
      record {
        on = omega (arith, walk.on, next.on);
        within = next.within;
        here = next.here;
        same = λ j d le l e. elim (cases_lt j q) [
          | inl before ↦ walk.same j d le before e
          | inr ge ↦ elim (cases_lt q j) [
            | inl behind ↦ absurd (next.between j d (omega arith) l e)
            | inr g ↦ (
                let s : q ≡ j = omega arith in
                subst (λ (k : ℕ). (get_or edges k d).edge.src.0 ≡ (get_or edges place d).edge.src.0) s
                (ap (λ (b : Born). b.edge.src.0) (get_or_default edges q d some_born lt) ∙ begins ∙ ap (λ (b : Born). b.edge.src.0) (get_or_default edges place some_born d (let o = walk.on in omega arith))))
          ]
        ];
      }

  pub walk_end : IsOrdered edges → place < length edges → length edges ≤ q ⊎ ((get_or edges q some_born).edge.src.0 ≢ (get_or edges place some_born).edge.src.0) → IsNextSource edges x place q
  walk_end sorted there stop = record { on = on; within = walk.within; here = walk.here; same = walk.same; other = other }
    where
      elsewhere : (d : Born) → q < length edges → (get_or edges q d).edge.src.0 ≢ (get_or edges place d).edge.src.0
      elsewhere d lt e =
          either
          (λ (le : length edges ≤ q). omega arith)
          (λ (ne : (get_or edges q some_born).edge.src.0 ≢ (get_or edges place some_born).edge.src.0). ne (ap (λ (b : Born). b.edge.src.0) (get_or_default edges q some_born d lt) ∙ e ∙ ap (λ (b : Born). b.edge.src.0) (get_or_default edges place d some_born there)))
          stop

      on : place < q
      on = elim (cases_lt place q) [
        | inl lt ↦ lt
        | inr ge ↦ (let o : place ≤ q = walk.on in let e : place ≡ q = omega arith in absurd (elsewhere some_born (omega arith) (ap (λ (k : ℕ). (get_or edges k some_born).edge.src.0) (sym e))))
      ]

      other : (d : Born) → q < length edges → (get_or edges place d).edge.src.0 < (get_or edges q d).edge.src.0
      other d lt =
          let up : (get_or edges place d).edge.src.0 ≤ (get_or edges q d).edge.src.0 = source_grows _ _ (sorted place q d on lt) in
          elim (cases_lt (get_or edges place d).edge.src.0 (get_or edges q d).edge.src.0) [
            | inl l ↦ l
            | inr ge ↦ absurd (elsewhere d lt (omega arith))
          ]

-- ---- source after source

-- the edge into x that a candidate begins with
first_of : (n : Normal) (edges : List Born) (since : ℕ) (x : Vertex) (e : Edge) → IsCandidate n edges since x e → (k : ℕ) × (k < length edges) × ((get_or edges k some_born).edge.dst.0 ≡ x.0) × ((get_or edges k some_born).edge.src.0 ≡ e.src.0)
first_of n edges since x e c =
    let same : get_or edges c.has_first.0 some_born ≡ c.first = get_or_default edges c.has_first.0 some_born c.first c.has_first.1 ∙ c.has_first.2 in
    (c.has_first.0, c.has_first.1, ap (λ (y : Born). y.edge.dst.0) same ∙ ap (λ (v : Vertex). v.0) c.centre, ap (λ (y : Born). y.edge.src.0) same ∙ ap (λ (v : Vertex). v.0) (sym c.join.source))

module _ (n : Normal) (edges : List Born) (since : ℕ) (x : Vertex) (sorted : IsOrdered edges) where
  abbrev here : ℕ → Born
  here j = get_or edges j some_born

  abbrev IsOne : Edge → Type 0
  IsOne = IsCandidate n edges since x

  pub at_first : (first : ℕ) → IsNextOfRow edges x.0 0 first → AtSource edges x first
  at_first first h = record { within = h.within; here = h.here; before = λ j d lt end e. absurd (h.between j d (omega arith) lt e) }

  pub sources_none : (first : ℕ) → IsNextOfRow edges x.0 0 first → (out : List Edge) → AppendsJoins edges IsOne (BeginsBehind edges first) out out
  sources_none first h out =
      appends_idle edges IsOne (BeginsBehind edges first) out (λ e c p.
      let f = first_of n edges since x e c in
      let k : ℕ = f.0 in
      let lt : k < length edges = f.1 in
      let on : first ≤ k = elim (cases_lt k first) [ inl l ↦ absurd (h.between k some_born (omega arith) l f.2) | inr g ↦ g ] in
      let behind : e.src.0 < (here first).edge.src.0 = p some_born (omega arith) in
      let m : (here first).edge.src.0 ≤ (here k).edge.src.0 = sources_grow edges sorted first k on lt in
      let s : (here k).edge.src.0 ≡ e.src.0 = f.3 in
      omega arith)

  module _ (place end : ℕ) (at : AtSource edges x place) (there : place < length edges) (next : IsNextSource edges x place end) where
    pub at_next : AtSource edges x end
    at_next = record { within = next.within; here = next.here; before = before }
      where
        before : (j : ℕ) (d : Born) → j < end → end < length edges → (get_or edges j d).edge.dst.0 ≡ x.0 → (get_or edges j d).edge.src.0 < (get_or edges end d).edge.src.0
        before j d lt l e =
            let other : (get_or edges place d).edge.src.0 < (get_or edges end d).edge.src.0 = next.other d l in
            elim (cases_lt j place) [
              | inl first ↦ (let h : (get_or edges j d).edge.src.0 < (get_or edges place d).edge.src.0 = at.before j d first there e in omega arith)
              | inr on ↦ (let h : (get_or edges j d).edge.src.0 ≡ (get_or edges place d).edge.src.0 = next.same j d on lt e in omega arith)
            ]

    abbrev u : ℕ
    u = (here place).edge.src.0

    at_u : (v : ℕ) → BeginsAt edges place v → v ≡ u
    at_u v b = sym (b some_born there)

    is_u : (v : ℕ) → v ≡ u → BeginsAt edges place v
    is_u v e d lt = ap (λ (y : Born). y.edge.src.0) (get_or_default edges place d some_born lt) ∙ sym e

    behind_u : (v : ℕ) → BeginsBehind edges place v → v < u
    behind_u v b = b some_born there

    before_u : (v : ℕ) → v < u → BeginsBehind edges place v
    before_u v l d lt = subst (λ (y : Born). v < y.edge.src.0) (get_or_default edges place some_born d lt) l

    at_end : (v : ℕ) → v ≤ u → BeginsBehind edges end v
    at_end v le d lt = let o : (get_or edges place d).edge.src.0 < (get_or edges end d).edge.src.0 = next.other d lt in let s : (get_or edges place d).edge.src.0 ≡ u = ap (λ (y : Born). y.edge.src.0) (get_or_default edges place d some_born there) in omega arith

    abbrev Between : ℕ → Type 0
    Between v = (u < v) × BeginsBehind edges end v

    idle : (e : Edge) → IsOne e → Between e.src.0 → ⊥
    idle e c p =
        let f = first_of n edges since x e c in
        let k : ℕ = f.0 in
        let lt : k < length edges = f.1 in
        let s : (here k).edge.src.0 ≡ e.src.0 = f.3 in
        let up : u < e.src.0 = p.0 in
        elim (cases_lt k end) [
          | inl l ↦ elim (cases_lt k place) [
            | inl first ↦ (let h : (here k).edge.src.0 < u = at.before k some_born first there f.2 in omega arith)
            | inr on ↦ (let h : (here k).edge.src.0 ≡ u = next.same k some_born on l f.2 in omega arith)
          ]
          | inr on ↦ (
              let b : e.src.0 < (here end).edge.src.0 = p.1 some_born (omega arith) in
              let m : (here end).edge.src.0 ≤ (here k).edge.src.0 = sources_grow edges sorted end k on lt in
              omega arith)
        ]

    pub sources_more : (start mid after : List Edge) → AppendsJoins edges IsOne (BeginsBehind edges place) start mid → AppendsJoins edges IsOne (BeginsAt edges place) mid after → AppendsJoins edges IsOne (BeginsBehind edges end) start after
    sources_more start mid after f g =
        let one = appends_both edges IsOne (BeginsBehind edges place) (BeginsAt edges place) (λ v. v ≤ u)
        (λ v le. elim (cases_lt v u) [ inl l ↦ inl (before_u v l) | inr ge ↦ inr (is_u v (omega arith)) ])
        (λ v o. either (λ (b : BeginsBehind edges place v). let l : v < u = behind_u v b in omega arith) (λ (b : BeginsAt edges place v). let e : v ≡ u = at_u v b in omega arith) o)
        (λ v w b c. let l : v < u = behind_u v b in let e : w ≡ u = at_u w c in omega arith)
        start mid after f g in
        appends_both edges IsOne (λ v. v ≤ u) Between (BeginsBehind edges end)
        (λ v b. elim (cases_lt u v) [ inl l ↦ inr (l, b) | inr ge ↦ inl ge ])
        (λ v o. either (at_end v) (λ (p : Between v). p.1) o)
        (λ v w le p. omega (arith, le, p.0))
        start after after one (appends_idle edges IsOne Between after idle)

  pub sources_end : (place : ℕ) (out : List Edge) → length edges ≤ place → AppendsJoins edges IsOne (BeginsBehind edges place) [] out → IsJoinsAt n edges since x out
  sources_end place out le h =
      rw h.behind (record { joins = h.are.joins; absent = h.are.absent; complete = λ e c. h.are.complete e c (λ d lt. absurd (omega arith)); ascending = h.are.ascending })

-- the source of the edge at a place
pub begins_here : (edges all : List Born) (place : ℕ) → all ≡ edges → place < length edges → BeginsAt edges place (get_or all place some_born).edge.src.0
begins_here edges all place e there d lt = ap (λ (b : Born). b.edge.src.0) (get_or_default edges place d some_born there) ∙ ap (λ (l : List Born). (get_or l place some_born).edge.src.0) (sym e)

pub appends_at : (edges : List Born) (IsOne : Edge → Type 0) (place u : ℕ) → place < length edges → BeginsAt edges place u → (before after : List Edge) → AppendsJoins edges IsOne (λ v. v ≡ u) before after → AppendsJoins edges IsOne (BeginsAt edges place) before after
appends_at edges IsOne place u there begins before after h =
    record {
      new = h.new;
      behind = h.behind;
      are = record {
        joins = h.are.joins;
        sources = All-weaker (λ (e : Edge). e.src.0 ≡ u) (λ (e : Edge). BeginsAt edges place e.src.0) (λ e same d lt. begins d lt ∙ sym same) h.new h.are.sources;
        absent = h.are.absent;
        complete = λ e c b. h.are.complete e c (sym (b some_born there) ∙ begins some_born there);
        ascending = h.are.ascending;
      };
    }
