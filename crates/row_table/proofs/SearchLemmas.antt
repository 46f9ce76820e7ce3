-- A place found among edges in order.
use Rattle.std.proofs.Common.{◌≡◌, ℕ, ◌+◌, ◌<◌, ◌≤◌, ◌⊎◌, Bool, true, false, not, List, length, get_or, refl, sym, ap, subst, ◌∙◌, arith, inl, inr}
use Rattle.std.specs.Prelude.{Contains, ◌↔◌}
use Rattle.std.proofs.lemmas.Bool.{cases_lt, false≢true}
use Rattle.std.proofs.lemmas.Bool.Decides.{nat_tests}
use Rattle.std.proofs.lemmas.List.{get_or_default}
use Rattle.std.proofs.lemmas.List.Elements.{All-filter}
use Rattle.std.proofs.lemmas.List.Kept.{AllPairs-filter}
use Rattle.graph_words.specs.declared.types.Edge.{Edge}
use Rattle.graph_words.specs.declared.types.Born.{Born}
use Rattle.graph_words.specs.Reach.{IsBefore}
use Rattle.partition_file.specs.Spelling.{is_from, row_of}
use Rattle.closing_machine.specs.Rounds.{IsOrdered, HasEdge, born}
use Rattle.closing_machine.proofs.Members.{either, Contains-filter, Contains-kept, passes}
use Rattle.row_table.specs.Index.{StandBefore, PartsBefore}
use Rattle.row_table.specs.Loaded.{Loaded, IsLoaded, IsRow, newer_of}
use Rattle.row_table.proofs.OrderLemmas.{before_trans, before_not_same, one_first}
use Rattle.row_table.proofs.RowLemmas.{is_from_yes}

module _ (edges : List Born) (e : Edge) (sorted : IsOrdered edges) where
  -- those up to one that stands before e do so too
  pub stand_up_to : (n : ℕ) (f : Born) → n < length edges → IsBefore (get_or edges n f).edge e → StandBefore edges e (n + 1)
  stand_up_to n f lt here =
      record {
        within = omega arith;
        before = λ k d le. elim (cases_lt k n) [
          | inl l ↦ before_trans (get_or edges k d).edge (get_or edges n d).edge e (sorted k n d l lt) (subst (λ (x : Born). IsBefore x.edge e) (get_or_default edges n f d lt) here)
          | inr g ↦ (let same : n ≡ k = omega arith in subst (λ (x : Born). IsBefore x.edge e) (get_or_default edges n f d lt ∙ ap (λ (j : ℕ). get_or edges j d) same) here)
        ];
      }

  -- those from one on that doesn't stand before e don't either
  pub none_from : (n : ℕ) (f : Born) → n < length edges → (IsBefore (get_or edges n f).edge e → ⊥) → (k : ℕ) (d : Born) → n ≤ k → k < length edges → IsBefore (get_or edges k d).edge e → ⊥
  none_from n f lt here k d le l b =
      elim (cases_lt n k) [
        | inl up ↦ here (before_trans (get_or edges n f).edge (get_or edges k d).edge e (subst (λ (x : Born). IsBefore x.edge (get_or edges k d).edge) (get_or_default edges n d f lt) (sorted n k d up l)) b)
        | inr g ↦ (let same : k ≡ n = omega arith in here (subst (λ (x : Born). IsBefore x.edge e) (ap (λ (j : ℕ). get_or edges j d) same ∙ get_or_default edges n d f lt) b))
      ]

  module _ (place : ℕ) (parts : PartsBefore edges e place) where
    -- where e is there, it stands at the place
    at_place : HasEdge edges e → (d : Born) → (place < length edges) × ((get_or edges place d).edge ≡ e)
    at_place h d =
        let k : ℕ = h.1.0 in
        let l : k < length edges = h.1.1 in
        let is : (get_or edges k d).edge ≡ e = ap (λ (b : Born). b.edge) (get_or_default edges k d (born e h.0) l ∙ h.1.2) in
        elim (cases_lt k place) [
          | inl lt ↦ absurd (before_not_same e (subst (λ (y : Edge). IsBefore y e) is (parts.front.before k d lt)))
          | inr ge ↦ elim (cases_lt place k) [
            | inl up ↦ absurd (parts.behind place d (omega arith) (omega arith) (subst (λ (y : Edge). IsBefore (get_or edges place d).edge y) is (sorted place k d up l)))
            | inr le ↦ (let same : k ≡ place = omega arith in (omega arith, subst (λ (j : ℕ). (get_or edges j d).edge ≡ e) same is))
          ]
        ]

    pub not_at_end : place ≡ length edges → HasEdge edges e → ⊥
    not_at_end end h = let a = at_place h (born e 0) in omega (arith, a.0)

    pub there : (f : Born) → place < length edges → (IsBefore e (get_or edges place f).edge → ⊥) → HasEdge edges e
    there f lt here =
        let x : Born = get_or edges place f in
        either
        (λ (b : IsBefore e x.edge). absurd (here b))
        (λ (b : (e ≡ x.edge) ⊎ IsBefore x.edge e). either
        (λ (s : e ≡ x.edge). (x.birth, (place, lt, get_or_default edges place (born e x.birth) f lt ∙ ap (λ (y : Edge). born y x.birth) (sym s))))
        (λ (s : IsBefore x.edge e). absurd (parts.behind place f (omega arith) lt s))
        b)
        (one_first e x.edge)

    pub not_there : (f : Born) → place < length edges → IsBefore e (get_or edges place f).edge → HasEdge edges e → ⊥
    not_there f lt here h = let a = at_place h f in before_not_same e (subst (λ (y : Edge). IsBefore e y) a.1 here)

-- ---- rows and newer edges

pub row_ordered : (v : ℕ) (edges : List Born) → IsOrdered edges → IsOrdered (row_of v edges)
row_ordered v edges sorted = AllPairs-filter (λ (x y : Born). IsBefore x.edge y.edge) (is_from v) edges sorted

pub in_its_row : (edges : List Born) (b : Born) (v : ℕ) → b.edge.src.0 ≡ v → Contains edges b → Contains (row_of v edges) b
in_its_row edges b v e m = Contains-filter (is_from v) edges b m (is_from_yes v b e)

same_source : (v : ℕ) (b : Born) → is_from v b ≡ true → b.edge.src.0 ≡ v
same_source v b h = grind (arith, nat_tests, h)

pub from_row : (edges : List Born) (b : Born) (v : ℕ) → Contains (row_of v edges) b → Contains edges b × (b.edge.src.0 ≡ v)
from_row edges b v m = (Contains-kept (is_from v) edges b m, same_source v b (passes (is_from v) edges b m))

pub row_has : (edges : List Born) (e : Edge) → HasEdge (row_of e.src.0 edges) e ↔ HasEdge edges e
row_has edges e = (λ h. (h.0, (from_row edges (born e h.0) e.src.0 h.1).0), λ h. (h.0, in_its_row edges (born e h.0) e.src.0 refl h.1))

pub newer_loaded : (l : Loaded) (since : ℕ) → IsLoaded l → IsLoaded (newer_of since l)
newer_loaded l since h =
    record {
      bounds = h.bounds;
      behind = h.behind;
      ordered = AllPairs-filter (λ (x y : Born). IsBefore x.edge y.edge) _ l.edges h.ordered;
      sources = All-filter _ (λ (b : Born). IsRow l b.edge.src.0) l.edges h.sources;
    }

-- a test that is turned round
pub turned : (b : Bool) (P H : Type 0) → (b ≡ true → P) × (P → b ≡ true) → ((P → ⊥) → H) → (P → H → ⊥) → (not b ≡ true → H) × (H → not b ≡ true)
turned true P H d f g = (λ t. absurd (false≢true t), λ h. absurd (g (d.0 refl) h))
turned false P H d f g = (λ t. f (λ p. false≢true (d.1 p)), λ h. refl)
