-- Edges that were compared one with the next ascend.
use Rattle.std.proofs.Common.{◌≡◌, ℕ, ◌+◌, ◌-◌, ◌<◌, ◌≤◌, List, length, get_or, arith, subst, inl, inr, []}
use Rattle.std.proofs.lemmas.Bool.{cases_lt}
use Rattle.std.proofs.lemmas.List.{get_or_default}
use Rattle.graph_words.specs.declared.types.Edge.{Edge}
use Rattle.std.specs.Prelude.{All}
use Rattle.std.proofs.lemmas.List.Elements.{All-weaker, All-map}
use Rattle.std.proofs.lemmas.List.Sorted.{All-permutation}
use Rattle.graph_words.specs.Reach.{IsBefore}
use Rattle.closing_machine.specs.Rounds.{all_born, born}
use Rattle.row_table.specs.Loaded.{Loaded, Absorbs}
use Rattle.superstep.specs.Room.{IsInFormat}
use Rattle.bench.specs.Fits.{FitsEdge}

before_trans : (x y z : Edge) → IsBefore x y → IsBefore y z → IsBefore x z
before_trans x y z p q = grind (arith, p, q)

-- the first n ascend
abbrev pub Ascend : List Edge → ℕ → Type 0
Ascend edges n = (i j : ℕ) (d : Edge) → i < j → j < n → IsBefore (get_or edges i d) (get_or edges j d)

pub ascend_one : (edges : List Edge) → Ascend edges 1
ascend_one edges i j d lt end = absurd (omega arith)

pub ascend_more : (edges : List Edge) (n : ℕ) (e f : Edge) → 1 ≤ n → n < length edges → IsBefore (get_or edges (n - 1) e) (get_or edges n f) → Ascend edges n → Ascend edges (n + 1)
ascend_more edges n e f some lt here h i j d less end =
    elim (cases_lt j n) [
      | inl l ↦ h i j d less l
      | inr g ↦ (
          let same : n ≡ j = omega arith in
          let last : IsBefore (get_or edges (n - 1) d) (get_or edges n d) = subst (λ (y : Edge). IsBefore (get_or edges (n - 1) d) y) (get_or_default edges n f d lt) (subst (λ (x : Edge). IsBefore x (get_or edges n f)) (get_or_default edges (n - 1) e d (omega arith)) here) in
          let to : IsBefore (get_or edges i d) (get_or edges n d) =
          elim (cases_lt i (n - 1)) [
            | inl l ↦ before_trans (get_or edges i d) (get_or edges (n - 1) d) (get_or edges n d) (h i (n - 1) d l (omega arith)) last
            | inr k ↦ (let at : n - 1 ≡ i = omega arith in subst (λ (m : ℕ). IsBefore (get_or edges m d) (get_or edges n d)) at last)
          ] in
          subst (λ (m : ℕ). IsBefore (get_or edges i d) (get_or edges m d)) same to)
    ]

-- edges that fit, in rows that had none
pub absorbed_fit : (before after : Loaded) (new : List Edge) (vertices birth : ℕ) → before.edges ≡ [] → Absorbs before new birth after → All (FitsEdge vertices) new → All IsInFormat after.edges
absorbed_fit before after new vertices birth none a fits =
    All-permutation IsInFormat (all_born new birth) after.edges (rw none at a.edges.same)
    (All-map IsInFormat (λ (e : Edge). born e birth) new (All-weaker (FitsEdge vertices) (λ (e : Edge). IsInFormat (born e birth)) (λ e f. record { label = f.label; vertex = f.destination }) new fits))
