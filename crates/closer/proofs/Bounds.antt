-- How many edges a manifest can tell of.
use Rattle.std.proofs.Common.{◌≡◌, ℕ, zero, suc, ◌+◌, ◌-◌, ◌*◌, ◌^◌, ◌<◌, ◌≤◌, ◌==◌, Bool, true, false, cond, List, [], ◌∷◌, length, get_or, refl, sym, ap, ◌∙◌, subst, arith, inl, inr}
use Rattle.std.specs.Prelude.{sum, map, All, nat_lt}
use Rattle.std.proofs.Math.Nat.{mul-le-mul_right}
use Rattle.std.proofs.lemmas.Bool.{cases_lt}
use Rattle.std.proofs.lemmas.Bool.Decides.{nat_tests}
use Rattle.graph_words.specs.declared.types.Born.{Born}
use Rattle.closing_machine.specs.State.{EndsCut, place, target}
use Rattle.closing_machine.specs.Machine.{high, low}
use Rattle.closing_machine.specs.Measure.{sum_below}
use Rattle.closing_machine.proofs.Boxes.{passing_fit}
use Rattle.closing_machine.proofs.Closing.{place_below}
use Rattle.closing_machine.proofs.Members.{either}
use Rattle.partition_file.specs.Spelling.{FitsEdge, IsPart}
use Rattle.dest_map.specs.Table.{counts_of}
use Rattle.manifest_codec.specs.declared.types.PartEntry.{PartEntry}
use Rattle.manifest_codec.specs.declared.types.Manifest.{Manifest}
use Rattle.manifest_codec.specs.Rules.{widths}
use Rattle.manifest_codec.specs.Spelling.{Cover, FitsManifest, width}
use Rattle.store_law.specs.Listed.{ends_of, expect_of, part_of}
use Rattle.store_law.proofs.Intervals.{cut_from_cover}
use Rattle.open_store.specs.PartRead.{count_into}
use Rattle.open_store.proofs.Tallies.{ends_count}
use Rattle.closer.proofs.Sums.{row_sum, sum_at_most, sum_changed, sum_front, sum_of_counts, sum_same, sum_scaled, table_sum, two_changed}

-- ---- vertices by their intervals

abbrev his : List PartEntry → List ℕ
his parts = map (λ p. p.hi) parts

widths_from : (from : ℕ) (parts : List PartEntry) (k : ℕ) → k < length parts → get_or (widths from parts) k 0 ≡ get_or (his parts) k 0 - get_or (from ∷ his parts) k 0
widths_from from [] k within = absurd (omega (arith, within))
widths_from from (p ∷ ps) zero within = refl
widths_from from (p ∷ ps) (suc k) within = widths_from p.hi ps k (omega (arith, within))

pub width_is : (m : Manifest) (a : ℕ) → a < length m.parts → width m a ≡ high (ends_of m) a - low (ends_of m) a
width_is m a lt = widths_from 0 m.parts a lt

widths_cover : (top from : ℕ) (parts : List PartEntry) → Cover top from parts → sum_below (λ i. get_or (widths from parts) i 0) (length parts) + from ≡ top
widths_cover top from [] cover = let e : from ≡ top = cover in omega (arith, e)
widths_cover top from (p ∷ ps) cover =
    let r = widths_cover top p.hi ps cover.1 in
    let s = sum_front (λ i. get_or (widths from (p ∷ ps)) i 0) (length ps) in
    let b : from < p.hi = cover.0 in
    omega (arith, r, s, b)

pub widths_sum : (m : Manifest) → FitsManifest m → sum_below (width m) (length m.parts) ≡ m.vertices
widths_sum m fits = let c = widths_cover m.vertices 0 m.parts fits.cover in omega (arith, c)

place_lies : (ends : List ℕ) (from to v : ℕ) → EndsCut from ends to → from ≤ v → v < to → (get_or (from ∷ ends) (place ends v) 0 ≤ v) × (v < get_or ends (place ends v) 0)
place_lies [] from to v is le lt = absurd (let e : from ≡ to = is in omega arith)
place_lies (e ∷ es) from to v is le lt = either (λ h. rw (test h) (le, h)) (λ h. rw (fails h) (place_lies es e to v is.1 h lt)) (cases_lt v e)
  where
    test : v < e → nat_lt v e ≡ true
    test h = grind (arith, nat_tests)

    fails : e ≤ v → nat_lt v e ≡ false
    fails h = grind (arith, nat_tests)

same_number : (a b : ℕ) → (a == b) ≡ true → a ≡ b
same_number a b e = grind (arith, nat_tests)

-- ---- the edges of one partition

-- a label of the format
pub label_fits : (m : Manifest) (fresh a : ℕ) (b : Born) → length m.labels ≤ 1000 → fresh ≤ 62000 → FitsEdge (expect_of m fresh a) b → b.edge.label.0 < 63000
label_fits m fresh a b named few f = elim f.known [ inl low ↦ omega (arith, low, named) | inr high ↦ omega (arith, high.1, few) ]

module _ (m : Manifest) (fits : FitsManifest m) where
  pub cut : EndsCut 0 (ends_of m) m.vertices
  cut = cut_from_cover m.vertices 0 m.parts fits.cover

  pub ends_into : (b : Born) → b.edge.dst.0 < m.vertices → target (ends_of m) b < length m.parts
  ends_into b lt = let p = place_below (ends_of m) 0 m.vertices b.edge.dst.0 cut (omega arith) lt in omega (arith, p, ends_count m)

  -- where a table tells of edges, their row adds up to how many there are
  pub row_total : (t : ℕ × List ℕ) (a : ℕ) (edges : List Born) → ((b : ℕ) → b < length m.parts → counts_of t a b ≡ count_into (ends_of m) edges b) → All (λ b. b.edge.dst.0 < m.vertices) edges → row_sum t (length m.parts) a ≡ length edges
  row_total t a edges told vertices =
      sum_same (λ b. counts_of t a b) (λ b. count_into (ends_of m) edges b) (length m.parts) told
      ∙ sum_of_counts (λ b. target (ends_of m) b) (length m.parts) edges (λ i d lt. ends_into (get_or edges i d) (vertices i d lt))

  -- no more edges than this lead from a partition
  pub row_fits : (a : ℕ) → a < length m.parts → row_sum m.map (length m.parts) a ≤ width m a * (63000 * 16777216)
  row_fits a la =
      let each = sum_at_most (λ b. counts_of m.map a b) (λ b. width m b * (width m a * 63000)) (length m.parts) (λ b lb. let c = fits.counts a b la lb in omega (arith, c)) in
      let all = sum_scaled (width m) (width m a * 63000) (length m.parts) in
      let top : m.vertices * (width m a * 63000) ≤ 16777216 * (width m a * 63000) = mul-le-mul_right (width m a * 63000) fits.vertices in
      let w : sum_below (width m) (length m.parts) * (width m a * 63000) ≡ m.vertices * (width m a * 63000) = ap (λ (x : ℕ). x * (width m a * 63000)) (widths_sum m fits) in
      omega (arith, each, all, top, w)

  pub map_total : sum m.map.1 ≡ sum_below (row_sum m.map (length m.parts)) (length m.parts)
  map_total = table_sum m.map (length m.parts) fits.map.size fits.map.rows

  -- all that fits into the partitions
  pub all_fit : (f : ℕ → ℕ) → ((a : ℕ) → a < length m.parts → f a ≤ width m a * (63000 * 16777216)) → sum_below f (length m.parts) ≤ 16777216 * (63000 * 16777216)
  all_fit f each =
      let le = sum_at_most f (λ a. width m a * (63000 * 16777216)) (length m.parts) each in
      let all = sum_scaled (width m) (63000 * 16777216) (length m.parts) in
      let w = widths_sum m fits in
      let v = fits.vertices in
      omega (arith, le, all, w, v)

  abbrev rows : ℕ → ℕ
  rows a = row_sum m.map (length m.parts) a

  abbrev room : ℕ → ℕ
  room a = width m a * (63000 * 16777216)

  other_row : (i a : ℕ) → a < length m.parts → cond (a == i) (room a) (rows a) ≤ room a
  other_row i a la = by_test (a == i)
    where
      by_test : (t : Bool) → cond t (room a) (rows a) ≤ room a
      by_test true = omega arith
      by_test false = row_fits a la

  -- there is room for a birth for each edge that one partition may still take
  pub room_one : (i n : ℕ) → i < length m.parts → rows i ≡ n → m.round + (room i - n) < 2 ^ 64
  room_one i n li is =
      let f = all_fit (λ a. cond (a == i) (room a) (rows a)) (other_row i) in
      let c = sum_changed rows (λ a. cond (a == i) (room a) (rows a)) (length m.parts) i li (λ j lt ne. let t : (j == i) ≡ false = grind (arith, nat_tests) in rw t refl) in
      let h : cond (i == i) (room i) (rows i) ≡ room i = (let t : (i == i) ≡ true = grind (arith, nat_tests) in rw t refl) in
      let r = fits.reached in
      let s = fits.rounds in
      let t = map_total in
      omega (arith, f, c, h, r, s, t, is)

  -- and that two may
  pub room_two : (i j n k : ℕ) → i < j → j < length m.parts → rows i ≡ n → rows j ≡ k → m.round + ((room i + room j) - (n + k)) < 2 ^ 64
  room_two i j n k before lj one two =
      let f = all_fit new (λ a la. within a la (a == i) (a == j)) in
      let c = two_changed rows new (length m.parts) i j before lj (λ x lt a b. let t : (x == i) ≡ false = grind (arith, nat_tests) in let u : (x == j) ≡ false = grind (arith, nat_tests) in rw (t, u) refl) in
      let h : new i ≡ room i = (let t : (i == i) ≡ true = grind (arith, nat_tests) in rw t refl) in
      let g : new j ≡ room j = (let t : (j == i) ≡ false = grind (arith, nat_tests) in let u : (j == j) ≡ true = grind (arith, nat_tests) in rw (t, u) refl) in
      let r = fits.reached in
      let s = fits.rounds in
      let t = map_total in
      omega (arith, f, c, h, g, r, s, t, one, two)
    where
      new : ℕ → ℕ
      new a = cond (a == i) (room a) (cond (a == j) (room a) (rows a))

      within : (a : ℕ) → a < length m.parts → (t u : Bool) → cond t (room a) (cond u (room a) (rows a)) ≤ room a
      within a la true u = omega arith
      within a la false true = omega arith
      within a la false false = row_fits a la

  -- the edges that lead from one partition into another are as few as the format has room for
  pub counts_fit : (a j : ℕ) (edges : List Born) → a < length m.parts → j < length m.parts → IsPart (part_of m a edges) → All (λ b. b.edge.label.0 < 63000) edges → All (λ b. b.edge.dst.0 < m.vertices) edges → count_into (ends_of m) edges j ≤ width m a * width m j * 63000
  counts_fit a j edges la lj part labels vertices =
      subst (λ (n : ℕ). count_into (ends_of m) edges j ≤ n * 63000) (λ i. sym (width_is m a la) i * sym (width_is m j lj) i)
      (passing_fit (low (ends_of m) a) (high (ends_of m) a) (low (ends_of m) j) (high (ends_of m) j) (λ x. target (ends_of m) x == j) edges part.ascending (λ i d lt test.
      let x = get_or edges i d in
      let from = part.within i d lt in
      let lies = place_lies (ends_of m) 0 m.vertices x.edge.dst.0 cut (omega arith) (vertices i d lt) in
      let at : target (ends_of m) x ≡ j = same_number (target (ends_of m) x) j test in
      record {
        above = from.0;
        below = from.1;
        label = labels i d lt;
        from = subst (λ (k : ℕ). get_or (0 ∷ ends_of m) k 0 ≤ x.edge.dst.0) at lies.0;
        to = subst (λ (k : ℕ). x.edge.dst.0 < get_or (ends_of m) k 0) at lies.1;
      }))
