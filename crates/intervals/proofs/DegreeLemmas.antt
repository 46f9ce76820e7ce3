-- Laws of cuts by degrees.
use Rattle.std.proofs.Common.{◌≡◌, ℕ, zero, suc, ◌+◌, ◌-◌, ◌<◌, ◌≤◌, List, [], ◌∷◌, ◌++◌, length, get_or, take, drop, refl, sym, ap, ◌∙◌, subst, arith, inl, inr, length-append, length-drop}
use Rattle.std.specs.Prelude.{sum}
use Rattle.std.proofs.lemmas.Bool.{cases_lt}
use Rattle.std.proofs.lemmas.List.{get_or-drop, get_or_append_left, ext_get_or}
use Rattle.std.proofs.Math.Seq.{get_or-append_seam}
use Rattle.std.proofs.lemmas.List.Sums.{sum_by_more, sum_by-take-le, sum_by-take-drop}
use Rattle.intervals.specs.Bounds.{low_of, high_of, IsCut, vertices_of}
use Rattle.intervals.specs.DegreeCut.{degree_between, IsLongest, IsCutByDegree}
use Rattle.intervals.proofs.BoundsLemmas.{high_within, low_before, vertices_pushed, cut_pushed}

-- one vertex more
pub degree_more : (counts : List ℕ) (low high : ℕ) → low ≤ high → high < length counts → degree_between counts low (high + 1) ≡ degree_between counts low high + get_or counts high 0
degree_more counts low high le lt =
    let rest : List ℕ = drop low counts in
    let one : high + 1 - low ≡ (high - low) + 1 = omega arith in
    let here : low + (high - low) ≡ high = omega arith in
    ap (λ (n : ℕ). sum (take n rest)) one
    ∙ sum_by_more (λ x. x) rest (high - low) 0 (omega (arith, length-drop low counts))
    ∙ ap (λ (x : ℕ). sum (take (high - low) rest) + x) (rw get_or-drop (ap (λ (j : ℕ). get_or counts j 0) here))

-- the first vertex alone
pub degree_of_first : (counts : List ℕ) (low : ℕ) → low < length counts → degree_between counts low (low + 1) ≡ get_or counts low 0
degree_of_first counts low lt =
    let none : low - low ≡ 0 = omega arith in
    let empty : degree_between counts low low ≡ 0 = ap (λ (n : ℕ). sum (take n (drop low counts))) none in
    omega (arith, degree_more counts low low (omega arith) lt, empty)

-- a part counts no more than all
pub degree_at_most : (counts : List ℕ) (low high : ℕ) → degree_between counts low high ≤ sum counts
degree_at_most counts low high = omega (arith, sum_by-take-le (λ x. x) (drop low counts) (high - low), sum_by-take-drop (λ x. x) counts low)

-- more vertices count no less
degree_grows : (counts : List ℕ) (low high more : ℕ) → low ≤ high → high + more ≤ length counts → degree_between counts low high ≤ degree_between counts low (high + more)
degree_grows counts low high zero le within = let none : high + 0 ≡ high = omega arith in rw none (omega arith)
degree_grows counts low high (suc more) le within =
    let one : high + suc more ≡ (high + more) + 1 = omega arith in
    rw one (omega (arith, degree_more counts low (high + more) (omega arith) (omega arith), degree_grows counts low high more le (omega arith)))

-- the longest interval has one end
no_longer : (counts : List ℕ) (limit low high higher : ℕ) → IsLongest counts limit low high → IsLongest counts limit low higher → high < higher → ⊥
no_longer counts limit low high higher short long lt =
    let more : degree_between counts low (high + 1) ≤ degree_between counts low (high + 1 + (higher - (high + 1))) = degree_grows counts low (high + 1) (higher - (high + 1)) (omega (arith, short.first)) (omega (arith, long.within)) in
    let whole : high + 1 + (higher - (high + 1)) ≡ higher = omega arith in
    let up : degree_between counts low (high + 1) ≤ degree_between counts low higher = rw whole at more in
    elim long.fits [
      | inl one ↦ omega (arith, one, short.first)
      | inr fits ↦ omega (arith, fits, up, short.full (omega (arith, long.within)))
    ]

longest_is_one : (counts : List ℕ) (limit low high higher : ℕ) → IsLongest counts limit low high → IsLongest counts limit low higher → high ≡ higher
longest_is_one counts limit low high higher one other =
    elim (cases_lt high higher) [
      | inl lt ↦ absurd (no_longer counts limit low high higher one other lt)
      | inr ge ↦ elim (cases_lt higher high) [
        | inl lt ↦ absurd (no_longer counts limit low higher high other one lt)
        | inr le ↦ omega arith
      ]
    ]

-- two cuts have the same first intervals
same_low : (counts : List ℕ) (limit : ℕ) (xs ys : List ℕ) → IsCutByDegree counts limit xs → IsCutByDegree counts limit ys → (i : ℕ) → i ≤ length xs → (i ≤ length ys) × (low_of xs i ≡ low_of ys i)
same_low counts limit xs ys x y zero le = (omega arith, refl)
same_low counts limit xs ys x y (suc i) le =
    let before = same_low counts limit xs ys x y i (omega arith) in
    let inside : low_of xs i < length counts = omega (arith, x.cut i (omega arith), high_within xs x.cut i (omega arith), x.whole) in
    let also : i < length ys = elim (cases_lt i (length ys)) as (λ _. i < length ys) [
      | inl lt ↦ lt
      | inr ge ↦ let all : i ≡ length ys = omega (arith, before.0) in absurd (omega (arith, inside, before.1, ap (low_of ys) all, y.whole))
    ] in
    elim (cases_lt (i + 1) 256) [
      | inl lt ↦
          let one = x.longest i (omega arith) lt in
          let other = y.longest i also lt in
          (omega arith, longest_is_one counts limit (low_of ys i) (high_of xs i) (high_of ys i) (subst (λ (low : ℕ). IsLongest counts limit low (high_of xs i)) before.1 one) other)
      | inr ge ↦
          let x-all : length xs ≡ suc i = omega (arith, x.few) in
          let y-all : length ys ≡ suc i = omega (arith, y.few) in
          (omega arith, ap (low_of xs) (sym x-all) ∙ x.whole ∙ sym y.whole ∙ ap (low_of ys) y-all)
    ]

pub one_cut : (counts : List ℕ) (limit : ℕ) (xs ys : List ℕ) → IsCutByDegree counts limit xs → IsCutByDegree counts limit ys → xs ≡ ys
one_cut counts limit xs ys x y =
    let no_more = same_low counts limit xs ys x y (length xs) (omega arith) in
    let no_fewer = same_low counts limit ys xs y x (length ys) (omega arith) in
    ext_get_or 0 xs ys (omega (arith, no_more.0, no_fewer.0)) (λ i lt. (same_low counts limit xs ys x y (suc i) (omega arith)).1)

-- the first intervals of a cut, up to the vertex low
pub record CutsFront (counts : List ℕ) (limit low : ℕ) (ends : List ℕ) : Type 0 where
  pub cut : IsCut ends
  pub so_far : vertices_of ends ≡ low
  pub within : low ≤ length counts
  pub few : length ends ≤ 256
  pub all : length ends ≡ 256 → low ≡ length counts
  pub longest : (i : ℕ) → i < length ends → i + 1 < 256 → IsLongest counts limit (low_of ends i) (high_of ends i)

pub cuts_nothing : (counts : List ℕ) (limit : ℕ) → CutsFront counts limit 0 []
cuts_nothing counts limit = record { cut = λ i lt. absurd (omega arith); so_far = refl; within = omega arith; few = omega arith; all = λ e. absurd (omega arith); longest = λ i lt few. absurd (omega arith) }

-- one more interval
pub cuts_more : (counts : List ℕ) (limit low high : ℕ) (ends : List ℕ) → CutsFront counts limit low ends → low < high → high ≤ length counts → (length ends + 1 < 256 → IsLongest counts limit low high) → (256 ≤ length ends + 1 → high ≡ length counts) → CutsFront counts limit high (ends ++ high ∷ [])
cuts_more counts limit low high ends before lt within longest rest =
    let len : length (ends ++ high ∷ []) ≡ length ends + 1 = omega (arith, length-append ends (high ∷ [])) in
    record {
      cut = cut_pushed ends high before.cut (omega (arith, before.so_far));
      so_far = vertices_pushed ends high;
      within = within;
      few = omega (arith, before.few, few_before);
      all = λ e. rest (omega arith);
      longest = λ i inside few. by_place i (omega arith) few;
    }
  where
    few_before : length ends < 256
    few_before = elim (cases_lt (length ends) 256) as (λ _. length ends < 256) [
      | inl lt ↦ lt
      | inr ge ↦ absurd (omega (arith, before.all (omega (arith, before.few))))
    ]

    by_place : (i : ℕ) → i < length ends + 1 → i + 1 < 256 → IsLongest counts limit (low_of (ends ++ high ∷ []) i) (high_of (ends ++ high ∷ []) i)
    by_place i inside few = elim (cases_lt i (length ends)) [
      | inl front ↦ rw (low_before ends high i (omega arith), get_or_append_left ends (high ∷ []) 0 i front) (before.longest i front few)
      | inr ge ↦
          let last : i ≡ length ends = omega arith in
          rw (last, low_before ends high (length ends) (omega arith), get_or-append_seam ends high [] 0, before.so_far) (longest (omega arith))
    ]

pub cuts_all : (counts : List ℕ) (limit low : ℕ) (ends : List ℕ) → CutsFront counts limit low ends → length counts ≤ low → IsCutByDegree counts limit ends
cuts_all counts limit low ends front done = record { cut = front.cut; whole = omega (arith, front.so_far, front.within); few = front.few; longest = front.longest }
