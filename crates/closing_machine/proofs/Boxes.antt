-- Edges in order from one interval into another are no more than fit there.
use Rattle.std.proofs.Common.{◌≡◌, ℕ, ◌+◌, ◌-◌, ◌*◌, ◌<◌, ◌≤◌, Bool, true, List, length, arith, inl, inr, subst}
use Rattle.std.specs.Prelude.{All, Contains, count_by, filter}
use Rattle.std.proofs.lemmas.List.Elements.{All-contains, All-filter, filter_passes}
use Rattle.std.proofs.lemmas.List.Kept.{AllPairs-filter}
use Rattle.std.proofs.lemmas.List.Sums.{length-filter}
use Rattle.graph_words.specs.declared.types.Born.{Born}
use Rattle.graph_words.specs.Reach.{IsBefore}
use Rattle.closing_machine.specs.Rounds.{IsOrdered}
use Rattle.closing_machine.specs.Capacity.{IsBetween}
use Rattle.closing_machine.proofs.Room.{mixed_lt, rising}

-- the number of an edge, counted from the first place of the box
abbrev code : ℕ → ℕ → ℕ → Born → ℕ
code a c w x = ((x.edge.src.0 - a) * 63000 + x.edge.label.0) * w + (x.edge.dst.0 - c)

module _ (a b c d : ℕ) where
  code_rises : (x y : Born) → IsBetween a b c d x → IsBetween a b c d y → IsBefore x.edge y.edge → code a c (d - c) x < code a c (d - c) y
  code_rises x y i j (inl lt) =
      let above : a ≤ x.edge.src.0 = i.above in
      let first = mixed_lt 63000 (x.edge.src.0 - a) (y.edge.src.0 - a) x.edge.label.0 y.edge.label.0 (omega arith) i.label in
      mixed_lt (d - c) ((x.edge.src.0 - a) * 63000 + x.edge.label.0) ((y.edge.src.0 - a) * 63000 + y.edge.label.0) (x.edge.dst.0 - c) (y.edge.dst.0 - c) first (omega (arith, i.from, i.to))
  code_rises x y i j (inr (e, inl lt)) =
      mixed_lt (d - c) ((x.edge.src.0 - a) * 63000 + x.edge.label.0) ((y.edge.src.0 - a) * 63000 + y.edge.label.0) (x.edge.dst.0 - c) (y.edge.dst.0 - c) (rw e (omega arith)) (omega (arith, i.from, i.to))
  code_rises x y i j (inr (e, inr (f, lt))) = let from : c ≤ x.edge.dst.0 = i.from in rw (e, f) (omega arith)

  code_below : (x : Born) → IsBetween a b c d x → code a c (d - c) x < ((b - a) * 63000 + 0) * (d - c) + 0
  code_below x i =
      let above : a ≤ x.edge.src.0 = i.above in
      let below : x.edge.src.0 < b = i.below in
      let first = mixed_lt 63000 (x.edge.src.0 - a) (b - a) x.edge.label.0 0 (omega arith) i.label in
      mixed_lt (d - c) ((x.edge.src.0 - a) * 63000 + x.edge.label.0) ((b - a) * 63000 + 0) (x.edge.dst.0 - c) 0 first (omega (arith, i.from, i.to))

  inside_fit : (edges : List Born) → IsOrdered edges → All (IsBetween a b c d) edges → length edges ≤ (b - a) * (d - c) * 63000
  inside_fit edges ordered all =
      let inside = λ (x : Born) (m : Contains edges x). All-contains (IsBetween a b c d) edges x all m in
      let h = rising (code a c (d - c)) 0 (((b - a) * 63000 + 0) * (d - c) + 0) edges (λ x y mx my before. code_rises x y (inside x mx) (inside y my) before) ordered (λ x m. (omega arith, code_below x (inside x m))) in
      swapped (b - a) (d - c) (length edges) (omega (arith, h))
    where
      swapped : (p q n : ℕ) → n ≤ (p * 63000 + 0) * q + 0 → n ≤ p * q * 63000
      swapped p q n le = grind (arith, le)

-- those of an ordered list that pass a test
pub passing_fit : (a b c d : ℕ) (test : Born → Bool) (edges : List Born) → IsOrdered edges → All (λ x. test x ≡ true → IsBetween a b c d x) edges → count_by test edges ≤ (b - a) * (d - c) * 63000
passing_fit a b c d test edges ordered all =
    let kept = filter test edges in
    let passes = filter_passes test edges in
    let inside = All-filter test (λ x. test x ≡ true → IsBetween a b c d x) edges all in
    subst (λ (n : ℕ). n ≤ (b - a) * (d - c) * 63000) (length-filter test edges)
    (inside_fit a b c d kept (AllPairs-filter (λ x y. IsBefore x.edge y.edge) test edges ordered) (λ i fallback low. inside i fallback low (passes i fallback low)))
