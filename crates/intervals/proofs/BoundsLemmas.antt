-- Laws of cuts.
use Rattle.std.proofs.Common.{length-append, ◌≡◌, ℕ, zero, suc, ◌+◌, ◌<◌, ◌≤◌, true, false, cond, leb, List, [], ◌∷◌, ◌++◌, length, get_or, refl, sym, ap, ◌∙◌, subst, arith, inl, inr, add-one}
use Rattle.std.specs.List.{insert}
use Rattle.std.proofs.lemmas.Bool.{cases_lt, leb-true, leb-false}
use Rattle.std.proofs.lemmas.Bool.Decides.{nat_tests}
use Rattle.std.proofs.lemmas.List.{get_or_append_left, get_or_default}
use Rattle.std.proofs.Math.Seq.{get_or-append_seam}
use Rattle.std.proofs.lemmas.List.Edits.{length-insert, get_or-insert_below, get_or-insert_at, get_or-insert_above}
use Rattle.std.proofs.lemmas.List.Sums.{sum_by-cons}
use Rattle.intervals.specs.Bounds.{low_of, high_of, IsCut, vertices_of, LiesIn, interval_of}

-- a later interval begins no lower
pub low_grows : (ends : List ℕ) → IsCut ends → (i j : ℕ) → i ≤ j → j ≤ length ends → low_of ends i ≤ low_of ends j
low_grows ends cut i zero le within = let first : i ≡ 0 = omega arith in rw first (omega arith)
low_grows ends cut i (suc j) le within =
    elim (cases_lt i (suc j)) [
      | inl lt ↦ omega (arith, low_grows ends cut i j (omega arith) (omega arith), cut j (omega arith))
      | inr ge ↦ let same : i ≡ suc j = omega arith in rw same (omega arith)
    ]

-- the interval ends within the vertices
pub high_within : (ends : List ℕ) → IsCut ends → (i : ℕ) → i < length ends → high_of ends i ≤ vertices_of ends
high_within ends cut i lt = low_grows ends cut (suc i) (length ends) (omega arith) (omega arith)

pub lies_below : (ends : List ℕ) (i v : ℕ) → IsCut ends → LiesIn ends i v → v < vertices_of ends
lies_below ends i v cut lies = omega (arith, high_within ends cut i lies.number, lies.high)

at_or_before : (end v : ℕ) → end ≤ v → leb end v ≡ true
at_or_before end v le = grind (arith, nat_tests)

not_before : (end v : ℕ) → v < end → leb end v ≡ false
not_before end v lt = grind (arith, nat_tests)

-- where the first i numbers are at most v and the others above it, i of them are at most v
pub count_of_front : (ends : List ℕ) (i v : ℕ) → i ≤ length ends → ((k : ℕ) → k < i → get_or ends k 0 ≤ v) → ((k : ℕ) → i ≤ k → k < length ends → v < get_or ends k 0) → interval_of ends v ≡ i
count_of_front [] i v le front behind = omega arith
count_of_front (end ∷ ends) zero v le front behind =
    let rest = count_of_front ends zero v (omega arith) (λ k lt. absurd (omega arith)) (λ k ge lt. behind (suc k) (omega arith) (omega arith)) in
    sum_by-cons (λ e. cond (leb e v) 1 0) end ends ∙ rw (not_before end v (behind 0 (omega arith) (omega arith)), rest) refl
count_of_front (end ∷ ends) (suc i) v le front behind =
    let rest = count_of_front ends i v (omega arith) (λ k lt. front (suc k) (omega arith)) (λ k ge lt. behind (suc k) (omega arith) (omega arith)) in
    sum_by-cons (λ e. cond (leb e v) 1 0) end ends ∙ rw (at_or_before end v (front 0 (omega arith)), rest) (omega arith)

pub lies_in_its_interval : (ends : List ℕ) (i v : ℕ) → IsCut ends → LiesIn ends i v → interval_of ends v ≡ i
lies_in_its_interval ends i v cut lies =
    count_of_front ends i v (omega (arith, lies.number))
    (λ k lt. omega (arith, low_grows ends cut (suc k) i (omega arith) (omega (arith, lies.number)), lies.low))
    (λ k ge lt. omega (arith, low_grows ends cut (suc i) (suc k) (omega arith) (omega arith), lies.high))

-- the ends up to the one before the vertex, and no more, are at most v
pub lies_from_point : (ends : List ℕ) (i v : ℕ) → i ≤ length ends → ((k : ℕ) → k < i → get_or ends k 0 ≤ v) → ((k : ℕ) → i ≤ k → k < length ends → v < get_or ends k 0) → v < vertices_of ends → LiesIn ends i v
lies_from_point ends i v le front behind below =
    let lt : i < length ends = elim (cases_lt i (length ends)) as (λ _. i < length ends) [
      | inl lt ↦ lt
      | inr ge ↦ let all : i ≡ length ends = omega arith in absurd (omega (arith, low_at_most ends i v front, ap (low_of ends) all, below))
    ] in
    record { number = lt; low = low_at_most ends i v front; high = behind i (omega arith) lt }
  where
    low_at_most : (ends : List ℕ) (i v : ℕ) → ((k : ℕ) → k < i → get_or ends k 0 ≤ v) → low_of ends i ≤ v
    low_at_most ends zero v front = omega arith
    low_at_most ends (suc i) v front = front i (omega arith)

-- how many of the first n ends are at most v: where a cut is searched from the front
record Front (ends : List ℕ) (v : ℕ) : Type 0 where
  number : ℕ
  within : number ≤ length ends
  front : (k : ℕ) → k < number → get_or ends k 0 ≤ v
  behind : (k : ℕ) → number ≤ k → k < length ends → v < get_or ends k 0

-- the ends rise
pub ends_rise : (ends : List ℕ) → IsCut ends → (i j : ℕ) → i ≤ j → j < length ends → get_or ends i 0 ≤ get_or ends j 0
ends_rise ends cut i j le lt = low_grows ends cut (suc i) (suc j) (omega arith) (omega arith)

search_from : (ends : List ℕ) (v n : ℕ) → IsCut ends → n ≤ length ends → ((k : ℕ) → k < n → get_or ends k 0 ≤ v) → (left : ℕ) → n + left ≡ length ends → Front ends v
search_from ends v n cut le front zero all = record { number = n; within = le; front = front; behind = λ k ge lt. absurd (omega arith) }
search_from ends v n cut le front (suc left) all =
    elim (cases_lt v (get_or ends n 0)) [
      | inl lt ↦ record { number = n; within = le; front = front; behind = λ k ge inside. omega (arith, ends_rise ends cut n k ge inside) }
      | inr ge ↦ search_from ends v (n + 1) cut (omega arith) (below_more n front ge) left (omega arith)
    ]
  where
    below_more : (n : ℕ) → ((k : ℕ) → k < n → get_or ends k 0 ≤ v) → get_or ends n 0 ≤ v → (k : ℕ) → k < n + 1 → get_or ends k 0 ≤ v
    below_more n front here k lt = elim (cases_lt k n) [
      | inl less ↦ front k less
      | inr more ↦ let same : k ≡ n = omega arith in rw same here
    ]

pub each_vertex_lies : (ends : List ℕ) (v : ℕ) → IsCut ends → v < vertices_of ends → LiesIn ends (interval_of ends v) v
each_vertex_lies ends v cut below =
    let f = search_from ends v 0 cut (omega arith) (λ k lt. absurd (omega arith)) (length ends) (omega arith) in
    rw (count_of_front ends f.number v f.within f.front f.behind) (lies_from_point ends f.number v f.within f.front f.behind below)

-- a cut more within interval i
pub cut_inserted : (ends : List ℕ) (i at : ℕ) → IsCut ends → i < length ends → low_of ends i < at → at < high_of ends i → IsCut (insert ends i at)
cut_inserted ends i at cut number low high = λ k lt. by_place k (omega (arith, length-insert ends i at (omega arith)))
  where
    at_place : get_or (insert ends i at) i 0 ≡ at
    at_place = get_or-insert_at ends i at 0 (omega arith)

    low_below : (k : ℕ) → k ≤ i → low_of (insert ends i at) k ≡ low_of ends k
    low_below zero le = refl
    low_below (suc k) le = get_or-insert_below ends i at 0 k (omega arith) (omega arith)

    low_above : (k : ℕ) → i < k → low_of (insert ends i at) (suc k) ≡ low_of ends k
    low_above zero lt = absurd (omega arith)
    low_above (suc k) lt = rw (← add-one) (get_or-insert_above ends i at 0 k (omega arith) (omega arith))

    behind : (k : ℕ) → i < k → k < length ends + 1 → low_of (insert ends i at) k < high_of (insert ends i at) k
    behind zero above lt = absurd (omega arith)
    behind (suc k) above lt =
        let end : get_or (insert ends i at) (suc k) 0 ≡ get_or ends k 0 = rw (← add-one) (get_or-insert_above ends i at 0 k (omega arith) (omega arith)) in
        elim (cases_lt i k) [
          | inl later ↦ omega (arith, end, low_above k later, cut k (omega arith))
          | inr le ↦ let same : k ≡ i = omega arith in omega (arith, end, ap (λ (j : ℕ). get_or (insert ends i at) j 0) same, ap (λ (j : ℕ). get_or ends j 0) same, at_place)
        ]

    by_place : (k : ℕ) → k < length ends + 1 → low_of (insert ends i at) k < high_of (insert ends i at) k
    by_place k lt = elim (cases_lt k i) [
      | inl below ↦ omega (arith, low_below k (omega arith), get_or-insert_below ends i at 0 k below (omega arith), cut k (omega arith))
      | inr ge ↦ elim (cases_lt i k) [
        | inl above ↦ behind k above lt
        | inr le ↦ let same : k ≡ i = omega arith in rw same (omega (arith, low_below i (omega arith), at_place))
      ]
    ]

-- one more interval behind the others
pub low_before : (ends : List ℕ) (end k : ℕ) → k ≤ length ends → low_of (ends ++ end ∷ []) k ≡ low_of ends k
low_before ends end zero le = refl
low_before ends end (suc k) le = get_or_append_left ends (end ∷ []) 0 k (omega arith)

pub vertices_pushed : (ends : List ℕ) (end : ℕ) → vertices_of (ends ++ end ∷ []) ≡ end
vertices_pushed ends end =
    let len : length (ends ++ end ∷ []) ≡ suc (length ends) = omega (arith, length-append ends (end ∷ [])) in
    ap (low_of (ends ++ end ∷ [])) len ∙ get_or-append_seam ends end [] 0

pub cut_pushed : (ends : List ℕ) (end : ℕ) → IsCut ends → vertices_of ends < end → IsCut (ends ++ end ∷ [])
cut_pushed ends end cut above = λ k lt.
    elim (cases_lt k (length ends)) [
      | inl front ↦ omega (arith, low_before ends end k (omega arith), get_or_append_left ends (end ∷ []) 0 k front, cut k front)
      | inr ge ↦
          let last : k ≡ length ends = omega (arith, length-append ends (end ∷ [])) in
          rw last (omega (arith, low_before ends end (length ends) (omega arith), get_or-append_seam ends end [] 0))
    ]

-- what a binary search by `end <= v` asks of the ends
pub rises_to : (ends : List ℕ) (v : ℕ) → IsCut ends → (i j d : ℕ) → i ≤ j → j < length ends → leb (get_or ends j d) v ≡ true → leb (get_or ends i d) v ≡ true
rises_to ends v cut i j d le lt up =
    let below : get_or ends j d ≤ v = leb-true (get_or ends j d) v up in
    at_or_before (get_or ends i d) v (omega (arith, get_or_default ends i d 0 (omega arith), get_or_default ends j d 0 lt, ends_rise ends cut i j le lt, below))

-- and what its answer says
pub point_of : (ends seen : List ℕ) (i v : ℕ) → ends ≡ seen → i ≤ length ends → ((k d : ℕ) → 0 ≤ k → k < i → leb (get_or ends k d) v ≡ true) → ((k d : ℕ) → i ≤ k → k < length ends → leb (get_or ends k d) v ≡ false) → v < vertices_of seen → LiesIn seen i v
point_of ends seen i v same within front behind below =
    subst (λ (xs : List ℕ). LiesIn xs i v) same (lies_from_point ends i v within (λ k lt. leb-true (get_or ends k 0) v (front k 0 (omega arith) lt)) (λ k ge lt. leb-false (get_or ends k 0) v (behind k 0 ge lt)) (subst (λ (xs : List ℕ). v < vertices_of xs) (sym same) below))
