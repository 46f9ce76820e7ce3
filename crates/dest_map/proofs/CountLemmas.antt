-- Laws of counts.
use Rattle.std.proofs.Common.{◌≡◌, ℕ, suc, ◌+◌, ◌-◌, ◌<◌, ◌≤◌, Bool, true, false, cond, List, [], ◌∷◌, length, take, drop, refl, sym, ap, ◌∙◌, arith, length-append, take-append-drop, ◌*◌}
use Rattle.std.specs.Prelude.{◌==◌, ◌&&◌, count_by, slice_index_or, IsPermutation}
use Rattle.std.proofs.Math.Path.{fun_ext}
use Rattle.std.proofs.lemmas.Bool.{cases_lt}
use Rattle.std.proofs.lemmas.Bool.Decides.{nat_tests}
use Rattle.std.proofs.lemmas.List.Sums.{sum_by-cons}
use Rattle.std.proofs.lemmas.List.Sorted.{sum_by_pushed}
use Rattle.graph_words.specs.declared.types.Born.{Born}
use Rattle.closing_machine.specs.State.{place, part, target}
use Rattle.closing_machine.specs.Machine.{parent}
use Rattle.closing_machine.proofs.Members.{either}
use Rattle.closing_machine.proofs.Splitting.{place_parent}
use Rattle.dest_map.specs.Table.{counts_of, is_child, split_count}
use Rattle.dest_map.specs.Counts.{AreShares, IsCountsOf, count_of, cut_ends}

-- one that two tests share is counted by both
pub count_parts : (p q r : Born → Bool) (xs : List Born) → ((b : Born) → cond (p b) 1 0 ≡ cond (q b) 1 0 + cond (r b) 1 0) → count_by p xs ≡ count_by q xs + count_by r xs
count_parts p q r [] h = refl
count_parts p q r (x ∷ xs) h =
    let e = count_parts p q r xs h in
    let a : count_by p (x ∷ xs) ≡ cond (p x) 1 0 + count_by p xs = sum_by-cons (λ b. cond (p b) 1 0) x xs in
    let b : count_by q (x ∷ xs) ≡ cond (q x) 1 0 + count_by q xs = sum_by-cons (λ b. cond (q b) 1 0) x xs in
    let c : count_by r (x ∷ xs) ≡ cond (r x) 1 0 + count_by r xs = sum_by-cons (λ b. cond (r b) 1 0) x xs in
    omega (arith, e, a, b, c, h x)

pub count_same : (p q : Born → Bool) (xs : List Born) → ((b : Born) → p b ≡ q b) → count_by p xs ≡ count_by q xs
count_same p q xs h = ap (λ (t : Born → Bool). count_by t xs) (fun_ext h)

-- one edge more
pub count_pushed : (ends : List ℕ) (b : Born) (before after : List Born) → IsPermutation (b ∷ before) after → (i j : ℕ) → count_of ends after i j ≡ cond (part ends b == i && target ends b == j) (count_of ends before i j + 1) (count_of ends before i j)
count_pushed ends b before after same i j =
    sum_by_pushed (λ e. cond (part ends e == i && target ends e == j) 1 0) b before after same ∙ one (part ends b == i && target ends b == j) (count_of ends before i j)
  where
    one : (t : Bool) (n : ℕ) → cond t 1 0 + n ≡ cond t (n + 1) n
    one true n = omega arith
    one false n = omega arith

-- of a parent's place, which child has it
same_child : (i a p q : ℕ) → parent i q ≡ p → is_child i a ≡ false → (p == parent i a) ≡ (q == a)
same_child i a p q e away = grind (arith, nat_tests)

two_children : (i p q : ℕ) → parent i q ≡ p → cond (p == i) 1 0 ≡ cond (q == i) 1 0 + cond (q == suc i) 1 0
two_children i p q e = grind (arith, nat_tests)

-- the map with one edge more
pub counts_pushed : (old new : ℕ × List ℕ) (i j : ℕ) → new.0 ≡ old.0 → ((a b : ℕ) → counts_of new a b ≡ cond (a == i && b == j) (counts_of old a b + 1) (counts_of old a b)) → (ends : List ℕ) (before after : List Born) (b : Born) → IsCountsOf ends before old → part ends b ≡ i → target ends b ≡ j → IsPermutation (b ∷ before) after → IsCountsOf ends after new
counts_pushed old new i j size entries ends before after b h pi pj same =
    record {
      size = size ∙ h.size;
      counts = λ x y lx ly. entries x y ∙ rw (h.counts x y lx ly) (turn x y ∙ sym (count_pushed ends b before after same x y));
    }
  where
    turn : (x y : ℕ) → cond (x == i && y == j) (count_of ends before x y + 1) (count_of ends before x y) ≡ cond (part ends b == x && target ends b == y) (count_of ends before x y + 1) (count_of ends before x y)
    turn x y = ap (λ (t : Bool). cond t (count_of ends before x y + 1) (count_of ends before x y)) (rw (pi, pj) (grind (arith, nat_tests)))

-- whether a partition of the new numbers is the low child, the high child, or neither
pub data Kind (i a : ℕ) : Type 0 where
  low_child : a ≡ i → Kind i a
  high_child : a ≡ suc i → Kind i a
  neither : is_child i a ≡ false → (parent i a ≡ i → ⊥) → Kind i a

pub kind : (i a : ℕ) → Kind i a
kind i a =
    either
    (λ lt. neither (grind (arith, nat_tests)) (λ e. absurd (before lt e)))
    (λ ge. either (λ lt. (let e : a ≡ i = omega arith in low_child e)) (λ gt. either (λ lt. (let e : a ≡ suc i = omega arith in high_child e)) (λ far. neither (grind (arith, nat_tests)) (λ e. behind far e)) (cases_lt a (suc (suc i)))) (cases_lt a (suc i)))
    (cases_lt a i)
  where
    before : a < i → parent i a ≡ i → ⊥
    before lt e = grind (arith, nat_tests)

    behind : suc (suc i) ≤ a → parent i a ≡ i → ⊥
    behind le e = grind (arith, nat_tests)

-- what the two children have of a test that goes on
halves : (p l r t u : Bool) → cond p 1 0 ≡ cond l 1 0 + cond r 1 0 → t ≡ u → cond (p && t) 1 0 ≡ cond (l && t) 1 0 + cond (r && u) 1 0
halves p l r t u e f = rw (← f) (both t)
  where
    swap_and : (a b : Bool) → (a && b) ≡ (b && a)
    swap_and true true = refl
    swap_and true false = refl
    swap_and false true = refl
    swap_and false false = refl

    both : (t : Bool) → cond (p && t) 1 0 ≡ cond (l && t) 1 0 + cond (r && t) 1 0
    both true = rw (swap_and p true, swap_and l true, swap_and r true) e
    both false = rw (swap_and p false, swap_and l false, swap_and r false) refl

halves_right : (p l r t u : Bool) → cond p 1 0 ≡ cond l 1 0 + cond r 1 0 → t ≡ u → cond (t && p) 1 0 ≡ cond (t && l) 1 0 + cond (u && r) 1 0
halves_right p l r true u e f = rw (← f) e
halves_right p l r false u e f = rw (← f) refl

module _ (ends : List ℕ) (edges : List Born) (i at : ℕ) (row column corner : List ℕ) (old : ℕ → ℕ → ℕ) (h : AreShares ends edges i at row column corner) (olds : (a b : ℕ) → a < length ends → b < length ends → old a b ≡ count_of ends edges a b) where
  up : (v : ℕ) → parent i (place (cut_ends ends i at) v) ≡ place ends v
  up v = place_parent ends i at v h.there h.below

  part_other : (a : ℕ) (b : Born) → is_child i a ≡ false → (part ends b == parent i a) ≡ (part (cut_ends ends i at) b == a)
  part_other a b away = same_child i a (part ends b) (part (cut_ends ends i at) b) (up b.edge.src.0) away

  target_other : (a : ℕ) (b : Born) → is_child i a ≡ false → (target ends b == parent i a) ≡ (target (cut_ends ends i at) b == a)
  target_other a b away = same_child i a (target ends b) (target (cut_ends ends i at) b) (up b.edge.dst.0) away

  in_neither : (a b : ℕ) → parent i a < length ends → parent i b < length ends → is_child i a ≡ false → is_child i b ≡ false → old (parent i a) (parent i b) ≡ count_of (cut_ends ends i at) edges a b
  in_neither a b la lb aa ab =
      olds (parent i a) (parent i b) la lb
      ∙ count_same (λ e. part ends e == parent i a && target ends e == parent i b) (λ e. part (cut_ends ends i at) e == a && target (cut_ends ends i at) e == b) edges (λ e. rw (part_other a e aa, target_other b e ab) refl)

  low_row : (b : ℕ) → parent i b < length ends → (parent i b ≡ i → ⊥) → is_child i b ≡ false → slice_index_or row (parent i b) 0 ≡ count_of (cut_ends ends i at) edges i b
  low_row b lb ne ab =
      h.row_is (parent i b) lb ne
      ∙ count_same (λ e. part (cut_ends ends i at) e == i && target ends e == parent i b) (λ e. part (cut_ends ends i at) e == i && target (cut_ends ends i at) e == b) edges (λ e. rw (target_other b e ab) refl)

  low_column : (a : ℕ) → parent i a < length ends → (parent i a ≡ i → ⊥) → is_child i a ≡ false → slice_index_or column (parent i a) 0 ≡ count_of (cut_ends ends i at) edges a i
  low_column a la ne aa =
      h.column_is (parent i a) la ne
      ∙ count_same (λ e. part ends e == parent i a && target (cut_ends ends i at) e == i) (λ e. part (cut_ends ends i at) e == a && target (cut_ends ends i at) e == i) edges (λ e. rw (part_other a e aa) refl)

  high_row : (b : ℕ) → parent i b < length ends → (parent i b ≡ i → ⊥) → is_child i b ≡ false → old i (parent i b) - slice_index_or row (parent i b) 0 ≡ count_of (cut_ends ends i at) edges (suc i) b
  high_row b lb ne ab =
      let whole : old i (parent i b) ≡ count_of ends edges i (parent i b) = olds i (parent i b) h.there lb in
      let parts : count_of ends edges i (parent i b) ≡ count_by (λ e. part (cut_ends ends i at) e == i && target ends e == parent i b) edges + count_of (cut_ends ends i at) edges (suc i) b = count_parts (λ e. part ends e == i && target ends e == parent i b) (λ e. part (cut_ends ends i at) e == i && target ends e == parent i b) (λ e. part (cut_ends ends i at) e == suc i && target (cut_ends ends i at) e == b) edges (λ e. halves (part ends e == i) (part (cut_ends ends i at) e == i) (part (cut_ends ends i at) e == suc i) (target ends e == parent i b) (target (cut_ends ends i at) e == b) (two_children i (part ends e) (part (cut_ends ends i at) e) (up e.edge.src.0)) (target_other b e ab)) in
      let low : slice_index_or row (parent i b) 0 ≡ count_by (λ e. part (cut_ends ends i at) e == i && target ends e == parent i b) edges = h.row_is (parent i b) lb ne in
      omega (arith, whole, parts, low)

  high_column : (a : ℕ) → parent i a < length ends → (parent i a ≡ i → ⊥) → is_child i a ≡ false → old (parent i a) i - slice_index_or column (parent i a) 0 ≡ count_of (cut_ends ends i at) edges a (suc i)
  high_column a la ne aa =
      let whole : old (parent i a) i ≡ count_of ends edges (parent i a) i = olds (parent i a) i la h.there in
      let parts : count_of ends edges (parent i a) i ≡ count_by (λ e. part ends e == parent i a && target (cut_ends ends i at) e == i) edges + count_of (cut_ends ends i at) edges a (suc i) = count_parts (λ e. part ends e == parent i a && target ends e == i) (λ e. part ends e == parent i a && target (cut_ends ends i at) e == i) (λ e. part (cut_ends ends i at) e == a && target (cut_ends ends i at) e == suc i) edges (λ e. halves_right (target ends e == i) (target (cut_ends ends i at) e == i) (target (cut_ends ends i at) e == suc i) (part ends e == parent i a) (part (cut_ends ends i at) e == a) (two_children i (target ends e) (target (cut_ends ends i at) e) (up e.edge.dst.0)) (part_other a e aa)) in
      let low : slice_index_or column (parent i a) 0 ≡ count_by (λ e. part ends e == parent i a && target (cut_ends ends i at) e == i) edges = h.column_is (parent i a) la ne in
      omega (arith, whole, parts, low)

  -- each count after the cut
  pub split_counts : (a b : ℕ) → a < suc (length ends) → b < suc (length ends) → split_count i row column corner old a b ≡ count_of (cut_ends ends i at) edges a b
  split_counts a b la lb = by_kind (kind i a) (kind i b)
    where
      below : (a : ℕ) → a < suc (length ends) → i < length ends → parent i a < length ends
      below a la li = grind (arith, nat_tests)

      pa : parent i a < length ends
      pa = below a la h.there

      pb : parent i b < length ends
      pb = below b lb h.there

      low_is : (a : ℕ) → a ≡ i → is_child i a ≡ true
      low_is a e = grind (arith, nat_tests)

      high_is : (a : ℕ) → a ≡ suc i → is_child i a ≡ true
      high_is a e = grind (arith, nat_tests)

      is_low : (a : ℕ) → a ≡ i → (a == i) ≡ true
      is_low a e = grind (arith, nat_tests)

      not_low : (a : ℕ) → a ≡ suc i → (a == i) ≡ false
      not_low a e = grind (arith, nat_tests)

      corner_at : (x y a b : ℕ) → x < 2 → y < 2 → a ≡ i + x → b ≡ i + y → slice_index_or corner (2 * (a - i) + (b - i)) 0 ≡ count_of (cut_ends ends i at) edges a b
      corner_at x y a b lx ly ea eb =
          let p : 2 * (a - i) + (b - i) ≡ 2 * x + y = omega arith in
          let q : count_of (cut_ends ends i at) edges (i + x) (i + y) ≡ count_of (cut_ends ends i at) edges a b = rw (ea, eb) refl in
          ap (λ (k : ℕ). slice_index_or corner k 0) p ∙ h.corner_is x y lx ly ∙ q

      by_kind : Kind i a → Kind i b → split_count i row column corner old a b ≡ count_of (cut_ends ends i at) edges a b
      by_kind (low_child e) (low_child f) = rw (low_is a e, low_is b f) (corner_at 0 0 a b (omega arith) (omega arith) (omega arith) (omega arith))
      by_kind (low_child e) (high_child f) = rw (low_is a e, high_is b f) (corner_at 0 1 a b (omega arith) (omega arith) (omega arith) (omega arith))
      by_kind (high_child e) (low_child f) = rw (high_is a e, low_is b f) (corner_at 1 0 a b (omega arith) (omega arith) (omega arith) (omega arith))
      by_kind (high_child e) (high_child f) = rw (high_is a e, high_is b f) (corner_at 1 1 a b (omega arith) (omega arith) (omega arith) (omega arith))
      by_kind (low_child e) (neither ab nb) = rw (low_is a e, ab, is_low a e) (low_row b pb nb ab ∙ (let q : count_of (cut_ends ends i at) edges i b ≡ count_of (cut_ends ends i at) edges a b = rw e refl in q))
      by_kind (high_child e) (neither ab nb) = rw (high_is a e, ab, not_low a e) (high_row b pb nb ab ∙ (let q : count_of (cut_ends ends i at) edges (suc i) b ≡ count_of (cut_ends ends i at) edges a b = rw e refl in q))
      by_kind (neither aa na) (low_child f) = rw (aa, low_is b f, is_low b f) (low_column a pa na aa ∙ (let q : count_of (cut_ends ends i at) edges a i ≡ count_of (cut_ends ends i at) edges a b = rw f refl in q))
      by_kind (neither aa na) (high_child f) = rw (aa, high_is b f, not_low b f) (high_column a pa na aa ∙ (let q : count_of (cut_ends ends i at) edges a (suc i) ≡ count_of (cut_ends ends i at) edges a b = rw f refl in q))
      by_kind (neither aa na) (neither ab nb) = rw (aa, ab) (in_neither a b pa pb aa ab)

-- the map after a cut
pub counts_split : (old new : ℕ × List ℕ) (i : ℕ) (row column corner : List ℕ) → new.0 ≡ old.0 + 1 → ((a b : ℕ) → counts_of new a b ≡ split_count i row column corner (counts_of old) a b) → (ends : List ℕ) (edges : List Born) (at : ℕ) → IsCountsOf ends edges old → AreShares ends edges i at row column corner → IsCountsOf (cut_ends ends i at) edges new
counts_split old new i row column corner size entries ends edges at h shares =
    let long : length (cut_ends ends i at) ≡ suc (length ends) = omega (arith, length-append (take i ends) (at ∷ drop i ends), ap length (take-append-drop i ends), length-append (take i ends) (drop i ends)) in
    record {
      size = omega (arith, h.size, size);
      counts = λ a b la lb. entries a b ∙ split_counts ends edges i at row column corner (counts_of old) shares h.counts a b (omega arith) (omega arith);
    }
