-- Rounds as a loop makes them: in order, in the box, each with at least one more edge, within the budget so far.
use Rattle.std.proofs.Common.{◌≡◌, ℕ, ◌+◌, ◌-◌, ◌<◌, ◌≤◌, List, ◌++◌, length, arith, subst, length-append}
use Rattle.std.specs.Prelude.{All}
use Rattle.std.proofs.lemmas.Bool.{cases_lt}
use Rattle.std.proofs.lemmas.List.{length-map}
use Rattle.std.proofs.lemmas.List.Elements.{All-contains}
use Rattle.std.proofs.lemmas.List.Sorted.{length_permutation}
use Rattle.graph_words.specs.declared.types.LabelId.{LabelId}
use Rattle.graph_words.specs.declared.types.Edge.{Edge}
use Rattle.graph_words.specs.declared.types.Born.{Born}
use Rattle.normal_law.specs.Closure.{Normal}
use Rattle.normal_law.specs.Closed.{Joins}
use Rattle.closing_machine.specs.Rounds.{born, all_born, IsJoin, IsOrdered, Rounds, begun, again}
use Rattle.closing_machine.specs.Capacity.{IsInBox, capacity}
use Rattle.closing_machine.proofs.Members.{either}
use Rattle.closing_machine.proofs.Rounding.{rounds_keep}
use Rattle.closing_machine.proofs.Determined.{same_rounds}
use Rattle.closing_machine.proofs.Room.{capacity_bounds}

module _ (n : Normal) (start : List Born) (since birth : ℕ) where
  pub rounds_ordered : {k last : ℕ} {rows : List Born} → Rounds n start since birth k rows last → IsOrdered start → IsOrdered rows
  rounds_ordered begun o = o
  rounds_ordered (again new r is some order) o = order.ordered

  pub rounds_longer : {k last : ℕ} {rows : List Born} → Rounds n start since birth k rows last → length start + k ≤ length rows
  rounds_longer begun = omega arith
  rounds_longer (again {k = k} {rows = rows} {after = after} new r is some o) =
      let h = rounds_longer r in
      let l : length after ≡ length (rows ++ all_born new (birth + k)) = length_permutation (rows ++ all_born new (birth + k)) after o.same in
      let a : length (rows ++ all_born new (birth + k)) ≡ length rows + length (all_born new (birth + k)) = length-append rows (all_born new (birth + k)) in
      let m : length (all_born new (birth + k)) ≡ length new = length-map new (λ (x : Edge). born x (birth + k)) in
      omega arith

  -- the births of all rounds fit, as the edges do
  pub rounds_fit : (low high : ℕ) {k last : ℕ} {rows : List Born} → Rounds n start since birth k rows last → IsOrdered start → All (IsInBox low high) start → ((b c a : LabelId) → Joins n b c a → a.0 < 63000) → birth + k ≤ birth + (capacity low high - length start)
  rounds_fit low high {rows = rows} r o box labels =
      let step = λ (x y : Born) (e : Edge) (b : ℕ) (hx : IsInBox low high x) (hy : IsInBox low high y) (j : IsJoin n x.edge y.edge e).
      made x y e b hx hy j in
      let all = rounds_keep n start since birth (IsInBox low high) step (λ b m. All-contains (IsInBox low high) start b box m) r in
      let long = rounds_longer r in
      let short = capacity_bounds low high rows (rounds_ordered r o) all in
      omega arith
    where
      made : (x y : Born) (e : Edge) (b : ℕ) → IsInBox low high x → IsInBox low high y → IsJoin n x.edge y.edge e → IsInBox low high (born e b)
      made x y e b hx hy j =
          record {
            above = rw j.source hx.above;
            below = rw j.source hx.below;
            label = labels x.edge.label y.edge.label e.label j.label;
            vertex = rw j.destination hy.vertex;
          }

  -- a loop's budget: every shorter number of rounds that added was within it
  pub budget_more : (budget : ℕ) {k last : ℕ} {rows : List Born} → Rounds n start since birth k rows last → (1 ≤ k → length rows ≤ budget) → ((j l : ℕ) (mid : List Born) → Rounds n start since birth j mid l → 1 ≤ j → j < k → length mid ≤ budget) → (j l : ℕ) (mid : List Born) → Rounds n start since birth j mid l → 1 ≤ j → j < k + 1 → length mid ≤ budget
  budget_more budget {k = k} {rows = rows} r now before j l mid q some lt =
      either
      (λ h. before j l mid q some h)
      (λ h.
      let e : k ≡ j = omega arith in
      let same = (same_rounds n start since birth r q e).0 in
      let fits = now (omega arith) in
      subst (λ (x : List Born). length x ≤ budget) same fits)
      (cases_lt j k)
