-- Counts of a row that is counted edge by edge.
use Rattle.std.proofs.Common.{◌≡◌, ◌≢◌, ℕ, ◌+◌, ◌<◌, ◌≤◌, ◌==◌, ◌&&◌, Bool, true, false, cond, List, [], ◌∷◌, ◌++◌, length, get_or, take, sym, ap, ◌∙◌, subst, append_assoc, arith}
use Rattle.std.specs.Prelude.{All}
use Rattle.std.specs.List.Sorted.{IsPermutation}
use Rattle.std.proofs.lemmas.Bool.Decides.{nat_tests}
use Rattle.std.proofs.lemmas.List.{take_more}
use Rattle.std.proofs.lemmas.List.Sorted.{IsPermutation-append_comm}
use Rattle.graph_words.specs.declared.types.Born.{Born}
use Rattle.closing_machine.specs.State.{part, target}
use Rattle.intervals.specs.Bounds.{IsCut, LiesIn}
use Rattle.open_store.proofs.Places.{place_of_lies}
use Rattle.dest_map.specs.Counts.{IsCountsOf}
use Rattle.store.specs.NewStore.{IsCounted}

pub raised_few : (t : Bool) (x m n : ℕ) → m ≡ cond t (x + 1) x → x ≤ n → m ≤ n + 1
raised_few true x m n is few = omega (arith, is, few)
raised_few false x m n is few = omega (arith, is, few)

not_same : (a i : ℕ) → a ≢ i → (a == i) ≡ false
not_same a i apart = grind (arith, nat_tests)

pub raised_other : (a i : ℕ) (q : Bool) (x m : ℕ) → a ≢ i → m ≡ cond (a == i && q) (x + 1) x → m ≡ x
raised_other a i q x m apart is = is ∙ ap (λ (t : Bool). cond (t && q) (x + 1) x) (not_same a i apart)

-- one edge more behind the others
pub one_more : (before edges : List Born) (k : ℕ) (d : Born) → k < length edges → IsPermutation (get_or edges k d ∷ (before ++ take k edges)) (before ++ take (k + 1) edges)
one_more before edges k d within =
    let whole : (before ++ take k edges) ++ get_or edges k d ∷ [] ≡ before ++ take (k + 1) edges = append_assoc before (take k edges) (get_or edges k d ∷ []) ∙ ap (λ (l : List Born). before ++ l) (sym (take_more edges k d within)) in
    subst (IsPermutation (get_or edges k d ∷ (before ++ take k edges))) whole (IsPermutation-append_comm (get_or edges k d ∷ []) (before ++ take k edges))

pub counted_more : (ends : List ℕ) (before edges : List Born) (i j k : ℕ) (d : Born) (old new : ℕ × List ℕ) → IsCut ends → All (IsCounted ends i) edges → k < length edges → LiesIn ends j (get_or edges k d).edge.dst.0
    → ((e : List ℕ) (xs ys : List Born) (b : Born) → IsCountsOf e xs old → part e b ≡ i → target e b ≡ j → IsPermutation (b ∷ xs) ys → IsCountsOf e ys new) → IsCountsOf ends (before ++ take k edges) old → IsCountsOf ends (before ++ take (k + 1) edges) new
counted_more ends before edges i j k d old new cut each within lies add is =
    let b = get_or edges k d in
    add ends (before ++ take k edges) (before ++ take (k + 1) edges) b is (place_of_lies ends i b.edge.src.0 cut (each k d within).source) (place_of_lies ends j b.edge.dst.0 cut lies) (one_more before edges k d within)
