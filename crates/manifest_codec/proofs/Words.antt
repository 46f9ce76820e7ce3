-- The rules in words, and as reading asks them.
use Rattle.std.proofs.Common.{◌≡◌, ◌≢◌, ℕ, zero, suc, ◌+◌, ◌*◌, ◌^◌, ◌<◌, ◌≤◌, Bool, true, false, not, ◌&&◌, eqb, List, [], ◌∷◌, ◌++◌, length, get_or, replicate, map, refl, sym, ap, subst, ◌∙◌, append_assoc, arith, All, AllPairs, sum}
use Rattle.std.specs.List.{flat_map, list_any, AllByRecursion}
use Rattle.std.specs.Cmp.Lexicographic.{same_text, other_text}
use Rattle.std.proofs.Math.Nat.{mul-le-mul}
use Rattle.std.proofs.Math.Seq.{get_or-append_seam}
use Rattle.std.proofs.lemmas.Bool.{le-ltb, lt-ltb, ltb-true, eq-eqb, eqb-true}
use Rattle.std.proofs.lemmas.Bool.Decides.{nat_tests}
use Rattle.std.proofs.lemmas.List.{length-append, append-nil, get_or_append_left}
use Rattle.std.proofs.lemmas.List.Concat.{flat_map-cons}
use Rattle.std.proofs.lemmas.List.Elements.{All-push, All-head, All-tail, recursion_from_All}
use Rattle.std.proofs.lemmas.List.Folds.{list_any_none, list_any_at}
use Rattle.std.proofs.lemmas.List.Quantifiers.{all_pairs_push}
use Rattle.graph_words.specs.Text.{IsLabel, same_name}
use Rattle.graph_words.proofs.TestLemmas.{label_yes, label_from_test}
use Rattle.label_table.specs.Names.{has_name}
use Rattle.manifest_codec.specs.declared.types.PartEntry.{PartEntry}
use Rattle.manifest_codec.specs.declared.types.Head.{Head}
use Rattle.manifest_codec.specs.declared.types.Manifest.{Manifest}
use Rattle.manifest_codec.specs.Rules.{at_most, is_part_count, is_end, is_file, widths, count_limits}
use Rattle.manifest_codec.specs.Spelling.{Cover, FitsManifest, width, head_of, newest_in}
use Rattle.dest_map.specs.Table.{counts_of}
use Rattle.pair_sched.specs.Marks.{joined_of}
use Rattle.manifest_codec.proofs.Tables.{length-widths, length-limits, limit_at, entry_at, place_within, by_rows, all_from_places, places_from_all}
use Rattle.manifest_codec.proofs.ListLaws.{cells_paired}
use Rattle.manifest_codec.proofs.Kept.{LabelsFit, PartsFit, CellsFit, Kept}
use Rattle.graph_words.specs.declared.limits.TheConstants.{MOST_LABEL_BYTES}

at_most_yes : (limit n : ℕ) → n ≤ limit → at_most limit n ≡ true
at_most_yes limit n le = ap not (le-ltb limit n le)

at_most_says : (limit n : ℕ) → at_most limit n ≡ true → n ≤ limit
at_most_says limit n e = grind (arith, nat_tests)

apart_eqb : (a b : ℕ) → a ≢ b → eqb a b ≡ false
apart_eqb a b apart = go (eqb a b) refl
  where
    go : (t : Bool) → eqb a b ≡ t → eqb a b ≡ false
    go true e = absurd (apart (eqb-true a b e))
    go false e = e

-- ---- labels

other_name : (x y : List ℕ) → x ≢ y → same_name x y ≡ false
other_name x y apart = go (same_name x y) refl
  where
    go : (b : Bool) → same_name x y ≡ b → same_name x y ≡ false
    go true e = absurd (apart (same_text x y (sym e)))
    go false e = e

names_apart : (before : List (List ℕ)) (x : List ℕ) → not (has_name before x) ≡ true → (k : ℕ) (d : List ℕ) → k < length before → get_or before k d ≢ x
names_apart before x new k d lt same = go (has_name before x) new (list_any_at (λ y. same_name y x) before k d lt (ap (λ y. same_name y x) same ∙ itself x))
  where
    itself : (x : List ℕ) → same_name x x ≡ true
    itself x = test (same_name x x) refl
      where
        test : (b : Bool) → same_name x x ≡ b → same_name x x ≡ true
        test true e = e
        test false e = absurd (other_text x x (sym e) refl)

    go : (b : Bool) → not b ≡ true → b ≡ true → ⊥
    go true e f = absurd cc
    go false e f = absurd cc

abbrev Apart : List (List ℕ) → Type 0
Apart names = AllPairs (λ x y. x ≢ y) names

labels_from_table : (before names : List (List ℕ)) → Apart (before ++ names) → All IsLabel names → LabelsFit before names
labels_from_table before [] apart labels = tt
labels_from_table before (l ∷ names) apart labels =
    let new : has_name before l ≡ false = list_any_none (λ y. same_name y l) before (λ k d lt. other_name (get_or before k d) l (λ same. apart k (length before) d lt (omega (arith, length-append before (l ∷ names))) (get_or_append_left before (l ∷ names) d k lt ∙ same ∙ sym (get_or-append_seam before l names d)))) in
    (label_yes l (All-head IsLabel l names labels), ap not new, labels_from_table (before ++ l ∷ []) names (subst Apart (sym (append_assoc before (l ∷ []) names)) apart) (All-tail IsLabel l names labels))

table_from_labels : (before names : List (List ℕ)) → Apart before → All IsLabel before → LabelsFit before names → Apart (before ++ names) × All IsLabel (before ++ names)
table_from_labels before [] apart labels fits = subst (λ (t : List (List ℕ)). Apart t × All IsLabel t) (sym (append-nil before)) (apart, labels)
table_from_labels before (l ∷ names) apart labels fits =
    subst (λ (t : List (List ℕ)). Apart t × All IsLabel t) (append_assoc before (l ∷ []) names) (table_from_labels (before ++ l ∷ []) names
    (all_pairs_push (λ x y. x ≢ y) before l apart (names_apart before l fits.1))
    (All-push IsLabel before l labels (label_from_test l fits.0))
    fits.2)

-- ---- partitions

abbrev InRange : PartEntry → Type 0
InRange p = (4 ≤ p.file) × (p.file ≤ 1023)

abbrev Own : List PartEntry → Type 0
Own parts = AllPairs (λ p q. p.file ≢ q.file) parts

covers_up : (top low : ℕ) (parts : List PartEntry) → Cover top low parts → low + length parts ≤ top
covers_up top low [] cover = omega (arith, cover)
covers_up top low (p ∷ parts) cover = omega (arith, cover.0, covers_up top p.hi parts cover.1)

end_yes : (top low hi left : ℕ) → low < hi → hi ≤ top → (left ≡ 0 → hi ≡ top) → is_end top left low hi ≡ true
end_yes top low hi zero above within last = let e : hi ≡ top = last refl in grind (arith, nat_tests)
end_yes top low hi (suc left) above within last = grind (arith, nat_tests)

cover_end : (top low : ℕ) (p : PartEntry) (parts : List PartEntry) → Cover top low (p ∷ parts) → is_end top (length parts) low p.hi ≡ true
cover_end top low p [] cover = end_yes top low p.hi 0 cover.0 (omega (arith, cover.1)) (λ _. cover.1)
cover_end top low p (q ∷ parts) cover = end_yes top low p.hi (length (q ∷ parts)) cover.0 (omega (arith, covers_up top p.hi (q ∷ parts) cover.1)) (λ e. absurd (omega arith))

file_yes : (before : List PartEntry) (p : PartEntry) → InRange p → ((k : ℕ) (d : PartEntry) → k < length before → (get_or before k d).file ≢ p.file) → is_file before p.file ≡ true
file_yes before p range other =
    let none : list_any (λ q. eqb q.file p.file) before ≡ false = list_any_none (λ q. eqb q.file p.file) before (λ k d lt. apart_eqb (get_or before k d).file p.file (other k d lt)) in
    rw none (grind (arith, nat_tests, range.0, range.1))

file_range : (before : List PartEntry) (file : ℕ) → is_file before file ≡ true → (4 ≤ file) × (file ≤ 1023) × (list_any (λ q. eqb q.file file) before ≡ false)
file_range before file e = three (at_most file 4) (at_most 1023 file) (list_any (λ q. eqb q.file file) before) e refl refl refl
  where
    three : (a b c : Bool) → (a && b && not c) ≡ true → at_most file 4 ≡ a → at_most 1023 file ≡ b → list_any (λ q. eqb q.file file) before ≡ c → (4 ≤ file) × (file ≤ 1023) × (list_any (λ q. eqb q.file file) before ≡ false)
    three true true false e x y z = (at_most_says file 4 x, at_most_says 1023 file y, z)
    three true true true e x y z = absurd cc
    three true false c e x y z = absurd cc
    three false b c e x y z = absurd cc

files_apart : (before : List PartEntry) (p : PartEntry) → list_any (λ q. eqb q.file p.file) before ≡ false → (k : ℕ) (d : PartEntry) → k < length before → (get_or before k d).file ≢ p.file
files_apart before p none k d lt same =
    let some : list_any (λ q. eqb q.file p.file) before ≡ true = list_any_at (λ q. eqb q.file p.file) before k d lt (eq-eqb (get_or before k d).file p.file same) in
    absurd cc

parts_from_words : (h : Head) (low : ℕ) (before parts : List PartEntry) (newest : List ℕ) → Cover h.vertices low parts → All InRange parts → Own (before ++ parts) → length newest ≡ length parts → AllByRecursion (λ n. n < h.round) newest → PartsFit h low before parts newest
parts_from_words h low before [] [] cover range own len births = tt
parts_from_words h low before [] (n ∷ newest) cover range own len births = absurd (omega (arith, len))
parts_from_words h low before (p ∷ parts) [] cover range own len births = absurd (omega (arith, len))
parts_from_words h low before (p ∷ parts) (n ∷ newest) cover range own len births =
    let other : (k : ℕ) (d : PartEntry) → k < length before → (get_or before k d).file ≢ p.file = λ k d lt same.
    own k (length before) d lt (omega (arith, length-append before (p ∷ parts))) (ap (λ (q : PartEntry). q.file) (get_or_append_left before (p ∷ parts) d k lt) ∙ same ∙ sym (ap (λ (q : PartEntry). q.file) (get_or-append_seam before p parts d))) in (
      cover_end h.vertices low p parts cover,
      file_yes before p (All-head InRange p parts range) other,
      lt-ltb n h.round births.0,
      parts_from_words h p.hi (before ++ p ∷ []) parts newest cover.1 (All-tail InRange p parts range) (subst Own (sym (append_assoc before (p ∷ []) parts)) own) (omega (arith, len)) births.1,
    )

-- what the partitions behind those before are
record PartWords (h : Head) (before parts : List PartEntry) (newest : List ℕ) : Type 0 where
  pub range : All InRange (before ++ parts)
  pub own : Own (before ++ parts)
  pub len : length newest ≡ length parts
  pub births : AllByRecursion (λ n. n < h.round) newest

words_from_parts : (h : Head) (low : ℕ) (before parts : List PartEntry) (newest : List ℕ) → All InRange before → Own before → PartsFit h low before parts newest → PartWords h before parts newest
words_from_parts h low before [] [] range own fits = record { range = subst (All InRange) (sym (append-nil before)) range; own = subst Own (sym (append-nil before)) own; len = refl; births = tt }
words_from_parts h low before [] (n ∷ newest) range own fits = absurd fits
words_from_parts h low before (p ∷ parts) [] range own fits = absurd fits
words_from_parts h low before (p ∷ parts) (n ∷ newest) range own fits =
    let f = file_range before p.file fits.1 in
    let more = words_from_parts h p.hi (before ++ p ∷ []) parts newest (All-push InRange before p range (f.0, f.1)) (all_pairs_push (λ q r. q.file ≢ r.file) before p own (files_apart before p f.2)) fits.3 in
    record {
      range = subst (All InRange) (append_assoc before (p ∷ []) parts) more.range;
      own = subst Own (append_assoc before (p ∷ []) parts) more.own;
      len = ap suc more.len;
      births = (ltb-true n h.round fits.2, more.births);
    }

end_says : (top left low hi : ℕ) → is_end top left low hi ≡ true → (low < hi) × (left ≡ 0 → hi ≡ top)
end_says top zero low hi e = (grind (arith, nat_tests), λ _. grind (arith, nat_tests))
end_says top (suc left) low hi e = (grind (arith, nat_tests), λ z. absurd (omega arith))

cover_from_parts : (h : Head) (low : ℕ) (before : List PartEntry) (p : PartEntry) (parts : List PartEntry) (newest : List ℕ) → PartsFit h low before (p ∷ parts) newest → Cover h.vertices low (p ∷ parts)
cover_from_parts h low before p parts [] fits = absurd fits
cover_from_parts h low before p [] (n ∷ newest) fits = let e = end_says h.vertices 0 low p.hi fits.0 in (e.0, e.1 refl)
cover_from_parts h low before p (q ∷ parts) (n ∷ newest) fits =
    let e = end_says h.vertices (length (q ∷ parts)) low p.hi fits.0 in
    (e.0, cover_from_parts h p.hi (before ++ p ∷ []) q parts newest fits.3)

cover_from : (h : Head) (parts : List PartEntry) (newest : List ℕ) → is_part_count h.vertices (length parts) ≡ true → PartsFit h 0 [] parts newest → Cover h.vertices 0 parts
cover_from h [] newest count fits = grind (arith, nat_tests)
cover_from h (p ∷ parts) newest count fits = cover_from_parts h 0 [] p parts newest fits

part_count_yes : (top : ℕ) (parts : List PartEntry) → length parts ≤ 256 → Cover top 0 parts → is_part_count top (length parts) ≡ true
part_count_yes top [] few cover = let e : 0 ≡ top = cover in grind (arith, nat_tests)
part_count_yes top (p ∷ parts) few cover = let le : 0 + length (p ∷ parts) ≤ top = covers_up top 0 (p ∷ parts) cover in grind (arith, nat_tests)

-- ---- counts and marks

abbrev Small : List ℕ → Type 0
Small ws = AllByRecursion (λ b. b ≤ 16777216) ws

widths_small : (top low : ℕ) (parts : List PartEntry) → top ≤ 16777216 → Cover top low parts → Small (widths low parts)
widths_small top low [] le cover = tt
widths_small top low (p ∷ parts) le cover = (omega (arith, covers_up top p.hi parts cover.1), widths_small top p.hi parts le cover.1)

abbrev Short : List ℕ → Type 0
Short limits = AllByRecursion (λ n. n < 2 ^ 64) limits

short_append : (xs ys : List ℕ) → Short xs → Short ys → Short (xs ++ ys)
short_append [] ys a b = b
short_append (x ∷ xs) ys a b = (a.0, short_append xs ys a.1 b)

product_short : (a b : ℕ) → a ≤ 16777216 → b ≤ 16777216 → a * b * 63000 < 2 ^ 64
product_short a b la lb = let h : a * b ≤ 16777216 * 16777216 = mul-le-mul la lb in omega (arith, h)

row_short : (a : ℕ) (vs : List ℕ) → a ≤ 16777216 → Small vs → Short (map (λ b. a * b * 63000) vs)
row_short a [] la small = tt
row_short a (v ∷ vs) la small = (product_short a v la small.0, row_short a vs la small.1)

rows_short : (ws vs : List ℕ) → Small ws → Small vs → Short (flat_map (λ a. map (λ b. a * b * 63000) vs) ws)
rows_short [] vs small all = tt
rows_short (w ∷ ws) vs small all = subst Short (sym (flat_map-cons (λ a. map (λ b. a * b * 63000) vs) w ws)) (short_append (map (λ b. w * b * 63000) vs) (flat_map (λ a. map (λ b. a * b * 63000) vs) ws) (row_short w vs small.0 all) (rows_short ws vs small.1 all))

cells_from_places : (limits cells : List ℕ) → Short limits → length cells ≡ length limits → ((n : ℕ) → n < length limits → get_or cells n 0 ≤ get_or limits n 0) → CellsFit limits cells
cells_from_places [] [] short len within = tt
cells_from_places [] (n ∷ cells) short len within = absurd (omega (arith, len))
cells_from_places (limit ∷ limits) [] short len within = absurd (omega (arith, len))
cells_from_places (limit ∷ limits) (n ∷ cells) short len within =
    let le : n ≤ limit = within 0 (omega arith) in
    (at_most_yes limit n le, omega (arith, short.0, le), cells_from_places limits cells short.1 (omega (arith, len)) (λ k lt. within (suc k) (omega (arith, lt))))

places_from_cells : (limits cells : List ℕ) → CellsFit limits cells → (n : ℕ) → n < length limits → get_or cells n 0 ≤ get_or limits n 0
places_from_cells [] [] fits n lt = absurd (omega (arith, lt))
places_from_cells [] (c ∷ cells) fits n lt = absurd fits
places_from_cells (limit ∷ limits) [] fits n lt = absurd fits
places_from_cells (limit ∷ limits) (c ∷ cells) fits zero lt = at_most_says limit c fits.0
places_from_cells (limit ∷ limits) (c ∷ cells) fits (suc n) lt = places_from_cells limits cells fits.2 n (omega (arith, lt))

-- the counts of a map within their limits, by rows and columns and in one list
counts_from_words : (m : Manifest) → FitsManifest m → Short (count_limits (widths 0 m.parts)) → CellsFit (count_limits (widths 0 m.parts)) m.map.1
counts_from_words m f short =
    let ws = widths 0 m.parts in
    let k = length m.parts in
    let wide : length ws ≡ k = length-widths 0 m.parts in
    let long : length (count_limits ws) ≡ k * k = length-limits m.parts in
    let each : (i j : ℕ) → i < k → j < k → get_or m.map.1 (i * k + j) 0 ≤ get_or (count_limits ws) (i * k + j) 0 = λ i j li lj.
    let limit : get_or (count_limits ws) (i * k + j) 0 ≡ get_or ws i 0 * get_or ws j 0 * 63000 = ap (λ (n : ℕ). get_or (count_limits ws) (i * n + j) 0) (sym wide) ∙ limit_at ws i j (omega (arith, wide, li)) (omega (arith, wide, lj)) in
    let le : counts_of m.map i j ≤ get_or ws i 0 * get_or ws j 0 * 63000 = f.counts i j li lj in
    subst (λ (n : ℕ). get_or m.map.1 (i * k + j) 0 ≤ n) (sym limit) (subst (λ (n : ℕ). n ≤ get_or ws i 0 * get_or ws j 0 * 63000) (entry_at k m.map.0 m.map.1 i j f.map.size lj) le) in
    cells_from_places (count_limits ws) m.map.1 short (f.map.rows ∙ sym long) (λ n lt. by_rows (λ n. get_or m.map.1 n 0 ≤ get_or (count_limits ws) n 0) k each n (omega (arith, lt, long)))

words_from_counts : (m : Manifest) → Kept m → (i j : ℕ) → i < length m.parts → j < length m.parts → counts_of m.map i j ≤ width m i * width m j * 63000
words_from_counts m f i j li lj =
    let ws = widths 0 m.parts in
    let k = length m.parts in
    let wide : length ws ≡ k = length-widths 0 m.parts in
    let long : length (count_limits ws) ≡ k * k = length-limits m.parts in
    let limit : get_or (count_limits ws) (i * k + j) 0 ≡ get_or ws i 0 * get_or ws j 0 * 63000 = ap (λ (n : ℕ). get_or (count_limits ws) (i * n + j) 0) (sym wide) ∙ limit_at ws i j (omega (arith, wide, li)) (omega (arith, wide, lj)) in
    let le : get_or m.map.1 (i * k + j) 0 ≤ get_or (count_limits ws) (i * k + j) 0 = places_from_cells (count_limits ws) m.map.1 f.counts (i * k + j) (omega (arith, place_within k i j li lj, long)) in
    subst (λ (n : ℕ). n ≤ get_or ws i 0 * get_or ws j 0 * 63000) (sym (entry_at k m.map.0 m.map.1 i j f.map_size lj)) (subst (λ (n : ℕ). get_or m.map.1 (i * k + j) 0 ≤ n) limit le)

marks_from_words : (k round : ℕ) (cells : List ℕ) → round < 2 ^ 64 → length cells ≡ k → AllByRecursion (λ n. n ≤ round) cells → CellsFit (replicate k round) cells
marks_from_words zero round [] small len within = tt
marks_from_words zero round (n ∷ cells) small len within = absurd (omega (arith, len))
marks_from_words (suc k) round [] small len within = absurd (omega (arith, len))
marks_from_words (suc k) round (n ∷ cells) small len within = (at_most_yes round n within.0, omega (arith, small, within.0), marks_from_words k round cells small (omega (arith, len)) within.1)

words_from_marks : (k round : ℕ) (cells : List ℕ) → CellsFit (replicate k round) cells → (length cells ≡ k) × AllByRecursion (λ n. n ≤ round) cells
words_from_marks zero round [] fits = (refl, tt)
words_from_marks zero round (n ∷ cells) fits = absurd fits
words_from_marks (suc k) round [] fits = absurd fits
words_from_marks (suc k) round (n ∷ cells) fits =
    let more = words_from_marks k round cells fits.2 in
    (ap suc more.0, (at_most_says round n fits.0, more.1))

joined_from_words : (m : Manifest) → FitsManifest m → AllByRecursion (λ n. n ≤ m.round) m.marks.1
joined_from_words m f =
    let k = length m.parts in
    let each : (i j : ℕ) → i < k → j < k → get_or m.marks.1 (i * k + j) 0 ≤ m.round = λ i j li lj. subst (λ (n : ℕ). n ≤ m.round) (entry_at k m.marks.0 m.marks.1 i j f.marks.size lj) (f.joined i j li lj) in
    all_from_places (λ n. n ≤ m.round) m.marks.1 (λ n lt. by_rows (λ n. get_or m.marks.1 n 0 ≤ m.round) k each n (omega (arith, lt, f.marks.rows)))

words_from_joined : (m : Manifest) → Kept m → length m.marks.1 ≡ length m.parts * length m.parts → AllByRecursion (λ n. n ≤ m.round) m.marks.1 → (i j : ℕ) → i < length m.parts → j < length m.parts → joined_of m.marks i j ≤ m.round
words_from_joined m f long all i j li lj =
    let k = length m.parts in
    subst (λ (n : ℕ). n ≤ m.round) (sym (entry_at k m.marks.0 m.marks.1 i j f.marks_size lj)) (places_from_all (λ n. n ≤ m.round) m.marks.1 all (i * k + j) (omega (arith, place_within k i j li lj, long)))

-- ---- the whole

pub kept_from_words : (m : Manifest) → FitsManifest m → Kept m
kept_from_words m f =
    let small = widths_small m.vertices 0 m.parts f.vertices f.cover in
    record {
      head = record {
        generation = at_most_yes 2 m.generation f.generation;
        round = lt-ltb 0 m.round (omega (arith, f.round));
        vertices = at_most_yes 16777216 m.vertices f.vertices;
        grammar_len = at_most_yes 16777216 m.grammar_len f.grammar_len;
        edges_len = at_most_yes 1099511627776 m.edges_len f.edges_len;
        first_len = f.first_len;
        rounds = f.rounds;
      };
      label_count = at_most_yes 1000 (length m.labels) f.labels.short;
      labels = labels_from_table [] m.labels f.labels.once f.labels.labels;
      part_count = part_count_yes m.vertices m.parts f.few f.cover;
      parts = parts_from_words (head_of m) 0 [] m.parts (newest_in m) f.cover f.files f.files_once f.marks.births (all_from_places (λ n. n < m.round) (newest_in m) (λ i lt. f.newest i (omega (arith, lt, f.marks.births))));
      map_size = f.map.size;
      marks_size = f.marks.size;
      counts = counts_from_words m f (rows_short (widths 0 m.parts) (widths 0 m.parts) small small);
      joined = marks_from_words (length m.parts * length m.parts) m.round m.marks.1 f.rounds f.marks.rows (joined_from_words m f);
      reached = at_most_yes (1 + sum m.map.1) m.round f.reached;
    }

pub words_from_kept : (m : Manifest) → Kept m → FitsManifest m
words_from_kept m k =
    let t = table_from_labels [] m.labels (λ i j d lt within. absurd (omega arith)) (λ i d lt. absurd (omega arith)) k.labels in
    let p = words_from_parts (head_of m) 0 [] m.parts (newest_in m) (λ i d lt. absurd (omega arith)) (λ i j d lt within. absurd (omega arith)) k.parts in
    let j = words_from_marks (length m.parts * length m.parts) m.round m.marks.1 k.joined in
    record {
      generation = at_most_says 2 m.generation k.head.generation;
      round = ltb-true 0 m.round k.head.round;
      rounds = k.head.rounds;
      vertices = at_most_says 16777216 m.vertices k.head.vertices;
      grammar_len = at_most_says 16777216 m.grammar_len k.head.grammar_len;
      edges_len = at_most_says 1099511627776 m.edges_len k.head.edges_len;
      first_len = k.head.first_len;
      labels = record { once = t.0; short = at_most_says 1000 (length m.labels) k.label_count; labels = t.1 };
      few = part_count_says m.vertices (length m.parts) k.part_count;
      cover = cover_from (head_of m) m.parts (newest_in m) k.part_count k.parts;
      files = p.range;
      files_once = p.own;
      map = record { size = k.map_size; rows = cells_paired (count_limits (widths 0 m.parts)) m.map.1 k.counts ∙ length-limits m.parts };
      counts = words_from_counts m k;
      marks = record { size = k.marks_size; rows = j.0; births = p.len };
      newest = λ i lt. places_from_all (λ n. n < m.round) (newest_in m) p.births i (omega (arith, lt, p.len));
      joined = words_from_joined m k j.0 j.1;
      reached = at_most_says (1 + sum m.map.1) m.round k.reached;
    }
  where
    part_count_says : (vertices k : ℕ) → is_part_count vertices k ≡ true → k ≤ 256
    part_count_says vertices k e = grind (arith, nat_tests)

-- ---- what encoding needs

short_names : (names : List (List ℕ)) → AllByRecursion IsLabel names → AllByRecursion (λ name. length name ≤ MOST_LABEL_BYTES) names
short_names [] labels = tt
short_names (l ∷ names) labels = (labels.0.short, short_names names labels.1)

pub labels_short : (m : Manifest) → FitsManifest m → AllByRecursion (λ name. length name ≤ MOST_LABEL_BYTES) m.labels
labels_short m f = short_names m.labels (recursion_from_All IsLabel m.labels f.labels.labels)
