-- The counts of a row, one after the other, and the lines of partitions.
use Rattle.std.proofs.Common.{◌≡◌, ℕ, zero, suc, ◌+◌, ◌*◌, ◌^◌, ◌<◌, ◌≤◌, List, [], ◌∷◌, ◌++◌, length, take, drop, get_or, refl, sym, subst, ap, ◌∙◌, arith, append_assoc, append-nil, take-append-drop}
use Rattle.std.specs.Prelude.{map, slice_index_or, Option, Err, Ok}
use Rattle.io_edge.specs.Devices.{AppendsPrefix}
use Rattle.text_page.specs.Gathered.{HasGathered}
use Rattle.text_page.proofs.Gathering.{gathers_longer, gathers_then}
use Rattle.std.proofs.Math.Nat.{mul-le-mul}
use Rattle.std.proofs.lemmas.List.{take_more, get_or-map, length-take}
use Rattle.dest_map.specs.Table.{counts_of}
use Rattle.manifest_codec.specs.declared.types.PartEntry.{PartEntry}
use Rattle.manifest_codec.specs.declared.types.Manifest.{Manifest}
use Rattle.manifest_codec.specs.Rules.{widths}
use Rattle.manifest_codec.specs.Spelling.{Cover, FitsManifest, width}
use Rattle.store_law.specs.Listed.{ends_of}
use Rattle.store_law.proofs.Intervals.{cut_from_cover}
use Rattle.query_text.specs.Text.{edges_in, part_line, part_lines, sum_below}
use Rattle.query_text.proofs.Reading.{ends_within}

-- a partition ends as many vertices behind its first as it is wide
width_from : (top from : ℕ) (parts : List PartEntry) (k : ℕ) → Cover top from parts → k < length parts → slice_index_or (from ∷ map (λ p. p.hi) parts) k 0 + slice_index_or (widths from parts) k 0 ≡ slice_index_or (map (λ p. p.hi) parts) k 0
width_from top from [] k cover below = absurd (omega (arith, below))
width_from top from (p ∷ ps) zero cover below = let l : from < p.hi = cover.0 in omega arith
width_from top from (p ∷ ps) (suc k) cover below = width_from top p.hi ps k cover.1 (omega (arith, below))

module _ (m : Manifest) (f : FitsManifest m) where
  abbrev to : ℕ → ℕ
  to j = slice_index_or (0 ∷ ends_of m) j 0

  to_small : (j : ℕ) → to j ≤ 16777216
  to_small j = let within = ends_within 0 m.vertices (ends_of m) j (cut_from_cover m.vertices 0 m.parts f.cover) in omega (arith, within.1, f.vertices)

  width_is : (j : ℕ) → j < length m.parts → to j + width m j ≡ to (suc j)
  width_is j below = width_from m.vertices 0 m.parts j f.cover below

  -- the counts up to partition j are no more than fit there
  row_within : (i j : ℕ) → i < length m.parts → j ≤ length m.parts → sum_below (counts_of m.map i) j ≤ width m i * to j * 63000
  row_within i zero there within = omega arith
  row_within i (suc j) there within =
      let before : sum_below (counts_of m.map i) j ≤ width m i * to j * 63000 = row_within i j there (omega (arith, within)) in
      let here : counts_of m.map i j ≤ width m i * width m j * 63000 = f.counts i j there (omega (arith, within)) in
      let spread : width m i * (to j + width m j) ≡ width m i * to j + width m i * width m j = grind (arith) in
      let same : width m i * (to j + width m j) ≡ width m i * to (suc j) = ap (λ (n : ℕ). width m i * n) (width_is j (omega (arith, within))) in
      omega (arith, before, here, spread, same)

  pub row_fits : (i j : ℕ) → i < length m.parts → j ≤ length m.parts → sum_below (counts_of m.map i) j < 2 ^ 64
  row_fits i j there within =
      let wide : width m i ≤ 16777216 = omega (arith, width_is i there, to_small (suc i)) in
      let all : width m i * to j ≤ 16777216 * 16777216 = mul-le-mul wide (to_small j) in
      omega (arith, row_within i j there within, all)

-- the lines of partitions, one more
lines_append : (m : Manifest) (i lo : ℕ) (xs ys : List PartEntry) → part_lines m i lo (xs ++ ys) ≡ part_lines m i lo xs ++ part_lines m (i + length xs) (slice_index_or (lo ∷ map (λ p. p.hi) xs) (length xs) 0) ys
lines_append m i lo [] ys = let e : i ≡ i + 0 = omega arith in ap (λ (k : ℕ). part_lines m k lo ys) e
lines_append m i lo (x ∷ xs) ys =
    let e : suc i + length xs ≡ i + length (x ∷ xs) = omega arith in
    ap (λ (t : List ℕ). part_line i lo x.hi (edges_in m i) ++ t) (lines_append m (suc i) x.hi xs ys ∙ ap (λ (k : ℕ). part_lines m (suc i) x.hi xs ++ part_lines m k (slice_index_or (x.hi ∷ map (λ p. p.hi) xs) (length xs) 0) ys) e)
    ∙ sym (append_assoc (part_line i lo x.hi (edges_in m i)) (part_lines m (suc i) x.hi xs) (part_lines m (i + length (x ∷ xs)) (slice_index_or (x.hi ∷ map (λ p. p.hi) xs) (length xs) 0) ys))

-- where the first i partitions end
abbrev pub end_of : List PartEntry → ℕ → ℕ
end_of parts i = slice_index_or (0 ∷ map (λ p. p.hi) parts) i 0

end_front : (lo : ℕ) (parts : List PartEntry) (i : ℕ) → i ≤ length parts → slice_index_or (lo ∷ map (λ p. p.hi) (take i parts)) (length (take i parts)) 0 ≡ slice_index_or (lo ∷ map (λ p. p.hi) parts) i 0
end_front lo parts zero within = refl
end_front lo [] (suc i) within = absurd (omega (arith, within))
end_front lo (p ∷ parts) (suc i) within = end_front p.hi parts i (omega (arith, within))

front_long : (parts : List PartEntry) (i : ℕ) → i ≤ length parts → 0 + length (take i parts) ≡ i
front_long parts i within = omega (arith, within, length-take i parts)

pub parts_more : (m : Manifest) (parts : List PartEntry) (i : ℕ) (d : PartEntry) → i < length parts → part_lines m 0 0 (take (i + 1) parts) ≡ part_lines m 0 0 (take i parts) ++ part_line i (end_of parts i) (get_or parts i d).hi (edges_in m i)
parts_more m parts i d below =
    ap (λ (l : List PartEntry). part_lines m 0 0 l) (take_more parts i d below)
    ∙ lines_append m 0 0 (take i parts) (get_or parts i d ∷ [])
    ∙ ap (λ (k : ℕ). part_lines m 0 0 (take i parts) ++ part_lines m k (slice_index_or (0 ∷ map (λ p. p.hi) (take i parts)) (length (take i parts)) 0) (get_or parts i d ∷ [])) (front_long parts i (omega (arith, below)))
    ∙ ap (λ (lo : ℕ). part_lines m 0 0 (take i parts) ++ part_lines m i lo (get_or parts i d ∷ [])) (end_front 0 parts i (omega (arith, below)))
    ∙ ap (λ (t : List ℕ). part_lines m 0 0 (take i parts) ++ t) (append-nil (part_line i (end_of parts i) (get_or parts i d).hi (edges_in m i)))

pub parts_front : (m : Manifest) (parts : List PartEntry) (i : ℕ) → (rest : List ℕ) × (part_lines m 0 0 parts ≡ part_lines m 0 0 (take i parts) ++ rest)
parts_front m parts i = (_, ap (λ (l : List PartEntry). part_lines m 0 0 l) (sym (take-append-drop i parts)) ∙ lines_append m 0 0 (take i parts) (drop i parts))

-- where the next partition ends
pub end_next : (parts : List PartEntry) (i : ℕ) (d : PartEntry) → i < length parts → end_of parts (i + 1) ≡ (get_or parts i d).hi
end_next parts i d below = let e : i + 1 ≡ suc i = omega arith in ap (λ (n : ℕ). end_of parts n) e ∙ get_or-map (λ (p : PartEntry). p.hi) parts i d 0 below

-- ---- printing them
module _ (m : Manifest) (items : List PartEntry) (i : ℕ) (d : PartEntry) (lo edges : ℕ) (line : List ℕ) (same : items ≡ m.parts) (there : i < length items) (lo_is : lo ≡ end_of m.parts i) (edges_is : edges ≡ edges_in m i) (line_is : line ≡ part_line i lo (get_or items i d).hi edges) where
  below : i < length m.parts
  below = subst (λ (l : List PartEntry). i < length l) same there

  line_here : line ≡ part_line i (end_of m.parts i) (get_or m.parts i d).hi (edges_in m i)
  line_here =
      line_is
      ∙ ap (λ (l : List PartEntry). part_line i lo (get_or l i d).hi edges) same
      ∙ ap (λ (n : ℕ). part_line i n (get_or m.parts i d).hi edges) lo_is
      ∙ ap (λ (n : ℕ). part_line i (end_of m.parts i) (get_or m.parts i d).hi n) edges_is

  more : part_lines m 0 0 (take i m.parts) ++ line ≡ part_lines m 0 0 (take (i + 1) m.parts)
  more = ap (λ (t : List ℕ). part_lines m 0 0 (take i m.parts) ++ t) line_here ∙ sym (parts_more m m.parts i d below)

  pub part_gathered : (a b c : Option (List ℕ)) (p q r : List ℕ) → HasGathered a p b q (part_lines m 0 0 (take i m.parts)) → HasGathered b q c r line → HasGathered a p c r (part_lines m 0 0 (take (i + 1) m.parts))
  part_gathered a b c p q r g h = subst (λ (t : List ℕ). HasGathered a p c r t) more (gathers_then {U = Unit {0}} {F = Unit {0}} a b c p q r (Ok tt) (part_lines m 0 0 (take i m.parts)) line g h)

  pub part_failed : (a b c : Option (List ℕ)) (p q : List ℕ) → HasGathered a p b q (part_lines m 0 0 (take i m.parts)) → AppendsPrefix b c (q ++ line) → AppendsPrefix a c (p ++ part_lines m 0 0 m.parts)
  part_failed a b c p q g h =
      let front = subst (λ (t : List ℕ). AppendsPrefix a c (p ++ t)) more (gathers_then {U = Unit {0}} {F = Unit {0}} a b c p q q (Err tt) (part_lines m 0 0 (take i m.parts)) line g h) in
      let rest = parts_front m m.parts (i + 1) in
      subst (λ (t : List ℕ). AppendsPrefix a c (p ++ t)) (sym rest.1) (gathers_longer a c p (part_lines m 0 0 (take (i + 1) m.parts)) rest.0 front)

  pub end_is : (get_or items i d).hi ≡ end_of m.parts (i + 1)
  end_is = ap (λ (l : List PartEntry). (get_or l i d).hi) same ∙ sym (end_next m.parts i d below)
