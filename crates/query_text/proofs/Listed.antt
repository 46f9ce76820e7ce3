-- The partitions that were read are those that the contents list.
use Rattle.std.proofs.Common.{◌≡◌, ℕ, zero, suc, ◌+◌, ◌-◌, ◌≤◌, ◌<◌, List, [], ◌∷◌, ◌++◌, length, Result, Ok, Err, Option, Some, None, refl, sym, subst, ap, ◌∙◌, append-nil, arith}
use Rattle.std.specs.Prelude.{Bool, IsTrue, IfOk, map, slice_index_or}
use Rattle.std.specs.List.{flat_map}
use Rattle.std.proofs.lemmas.Grind.{flat_map-append}
use Rattle.std.proofs.lemmas.List.Elements.{filter-append}
use Rattle.std.proofs.lemmas.List.{ext_get_or, length-map}
use Rattle.graph_words.specs.declared.types.Born.{Born}
use Rattle.graph_words.specs.declared.types.LabelId.{LabelId}
use Rattle.normal_law.specs.NormalForm.{normal_form}
use Rattle.std.specs.Io.KnownBytes.{Appends}
use Rattle.io_edge.specs.Devices.{AppendsPrefix, Takes}
use Rattle.io_edge.proofs.DeviceLemmas.{AppendsPrefix-more}
use Rattle.closing_machine.specs.State.{place}
use Rattle.closing_machine.specs.Parts.{all_edges}
use Rattle.disk_model.specs.Disk.{Contents}
use Rattle.intervals.specs.Bounds.{LiesIn, low_of, vertices_of}
use Rattle.manifest_codec.specs.declared.types.PartEntry.{PartEntry}
use Rattle.manifest_codec.specs.Spelling.{Cover}
use Rattle.partition_file.specs.Spelling.{IsExpect, Part}
use Rattle.partition_file.proofs.FileLaws.{one_part}
use Rattle.store_law.specs.Listed.{ends_of, part_of}
use Rattle.store_law.proofs.Intervals.{cut_from_cover, listed_partitions}
use Rattle.open_store.specs.Store.{IsOpenStore, OpenStore, expect_in}
use Rattle.open_store.proofs.Places.{cut_of_cover, place_of_lies}
use Rattle.query_text.specs.Answered.{AreListedIn, AreRead, ArePartsPrinted, first_asked, wanted}
use Rattle.query_text.specs.Text.{answer_line, answers_in, answers_text, is_answer}
use Rattle.query_text.specs.declared.fault.AnswerFault.{AnswerFault}
use Rattle.query_text.proofs.Places.{answers_from}
use Rattle.query_text.proofs.Reading.{all_edges-append, ends_within}

module _ (s : OpenStore) (o : IsOpenStore s) where
  expected : (i : ℕ) → IsExpect (expect_in s i)
  expected i =
      let within = ends_within 0 s.manifest.vertices (ends_of s.manifest) i (cut_from_cover s.manifest.vertices 0 s.manifest.parts o.fits.cover) in
      record {
        lo = omega (arith, within.1, o.fits.vertices);
        hi = omega (arith, within.2, o.fits.vertices);
        vertices = omega (arith, o.fits.vertices);
        round = o.fits.rounds;
      }

  pub each_listed : (tells : Bool) (c : Contents) (first : ℕ) (read parts : List (List Born)) → IsTrue tells → AreRead s tells c first read → AreListedIn s c parts → (i : ℕ) → i < length read → slice_index_or read i [] ≡ slice_index_or parts (first + i) []
  each_listed tells c first read parts t are listed i below =
      let there : first + i < length s.manifest.parts = omega (arith, below, are.within) in
      let r = are.each i below in
      ap (λ (p : Part). p.edges) (one_part (expect_in s (first + i)) _ (part_of s.manifest (first + i) (slice_index_or read i [])) (part_of s.manifest (first + i) (slice_index_or parts (first + i) [])) (expected (first + i)) r.fits (listed.fits (first + i) there) (r.spells t) (listed.spells (first + i) there))

-- a list whose items stand at the front of another
front_of : (xs ys : List (List Born)) → length xs ≤ length ys → ((i : ℕ) → i < length xs → slice_index_or xs i [] ≡ slice_index_or ys i []) → (rest : List (List Born)) × (ys ≡ xs ++ rest)
front_of [] ys short each = (ys, refl)
front_of (x ∷ xs) [] short each = absurd (omega (arith, short))
front_of (x ∷ xs) (y ∷ ys) short each =
    let later = front_of xs ys (omega (arith, short)) (λ i below. each (suc i) (omega (arith, below))) in
    let head : x ≡ y = each 0 (omega arith) in
    (later.0, rw head (ap (λ (l : List (List Born)). y ∷ l) later.1))

module _ (s : OpenStore) (o : IsOpenStore s) (tells : Bool) (t : IsTrue tells) (c : Contents) (parts : List (List Born)) (listed : AreListedIn s c parts) where
  front : (read : List (List Born)) → AreRead s tells c 0 read → (rest : List (List Born)) × (parts ≡ read ++ rest)
  front read are =
      front_of read parts (omega (arith, are.within, listed.size)) (λ i below. let e : 0 + i ≡ i = omega arith in subst (λ (n : ℕ). slice_index_or read i [] ≡ slice_index_or parts n []) e (each_listed s o tells c 0 read parts t are listed i below))

  pub read_all : (read : List (List Born)) → AreRead s tells c 0 read → length read ≡ length s.manifest.parts → read ≡ parts
  read_all read are all =
      ext_get_or [] read parts (all ∙ sym listed.size) (λ i below. let e : 0 + i ≡ i = omega arith in subst (λ (n : ℕ). slice_index_or read i [] ≡ slice_index_or parts n []) e (each_listed s o tells c 0 read parts t are listed i below))

  -- the text of all that is listed, or a prefix of it
  pub listed_all : {T : Type 0} (text : List Born → List ℕ) (a b : Option (List ℕ)) (result : Result T AnswerFault) (read : List (List Born)) → ((xs ys : List Born) → text (xs ++ ys) ≡ text xs ++ text ys) → ArePartsPrinted s tells c 0 (length s.manifest.parts) text a b result read → Takes a b result (text (all_edges parts))
  listed_all text a b (Ok x) read joins p = subst (λ (l : List (List Born)). Appends a b (text (all_edges l))) (read_all read p.are_read p.all) p.taken
  listed_all text a b (Err f) read joins p =
      let rest = front read p.are_read in
      let whole : text (all_edges parts) ≡ text (all_edges read) ++ text (all_edges rest.0) = ap (λ (l : List (List Born)). text (all_edges l)) rest.1 ∙ ap text (all_edges-append read rest.0) ∙ joins (all_edges read) (all_edges rest.0) in
      subst (λ (l : List ℕ). AppendsPrefix a b l) (sym whole) (AppendsPrefix-more a b (text (all_edges read)) (text (all_edges rest.0)) p.taken)

  single : (i : ℕ) (p : List Born) → AreRead s tells c i (p ∷ []) → all_edges (p ∷ []) ≡ slice_index_or parts i []
  single i p are = let e : i + 0 ≡ i = omega arith in append-nil p ∙ subst (λ (n : ℕ). p ≡ slice_index_or parts n []) e (each_listed s o tells c i (p ∷ []) parts t are listed 0 (omega arith))

  -- one partition alone was read
  pub read_single : (i : ℕ) (read : List (List Born)) → AreRead s tells c i read → length read ≡ 1 → all_edges read ≡ slice_index_or parts i []
  read_single i [] are one = absurd (omega (arith, one))
  read_single i (p ∷ []) are one = single i p are
  read_single i (p ∷ q ∷ r) are one = absurd (omega (arith, one))

  -- where only partition i has what is printed
  pub listed_one : {T : Type 0} (text : List Born → List ℕ) (i : ℕ) (a b : Option (List ℕ)) (result : Result T AnswerFault) (read : List (List Born)) → text [] ≡ [] → text (all_edges parts) ≡ text (slice_index_or parts i []) → ArePartsPrinted s tells c i 1 text a b result read → Takes a b result (text (all_edges parts))
  listed_one text i a b (Ok x) read none here p = subst (λ (l : List ℕ). Appends a b l) (ap text (read_single i read p.are_read p.all) ∙ sym here) p.taken
  listed_one text i a b (Err f) [] none here p = AppendsPrefix-more a b [] (text (all_edges parts)) (subst (λ (l : List ℕ). AppendsPrefix a b l) none p.taken)
  listed_one text i a b (Err f) (q ∷ []) none here p = subst (λ (l : List ℕ). AppendsPrefix a b l) (ap text (single i q p.are_read) ∙ sym here) p.taken
  listed_one text i a b (Err f) (q ∷ r ∷ more) none here p = absurd (omega (arith, p.few))

-- ---- the partitions that are asked for
vertices_from : (top from : ℕ) (parts : List PartEntry) → Cover top from parts → slice_index_or (from ∷ map (λ p. p.hi) parts) (length (map (λ (p : PartEntry). p.hi) parts)) 0 ≡ top
vertices_from top from [] cover = cover
vertices_from top from (p ∷ ps) cover = vertices_from top p.hi ps cover.1

same_low : (ends : List ℕ) (k : ℕ) → slice_index_or (0 ∷ ends) k 0 ≡ low_of ends k
same_low ends zero = refl
same_low ends (suc k) = refl

module _ (s : OpenStore) (o : IsOpenStore s) (ends : List ℕ) (same : ends ≡ s.ends) where
  pub asked_below : (u : ℕ) → u < s.manifest.vertices → u < vertices_of ends
  asked_below u below =
      let whole : vertices_of (ends_of s.manifest) ≡ s.manifest.vertices = sym (same_low (ends_of s.manifest) (length (ends_of s.manifest))) ∙ vertices_from s.manifest.vertices 0 s.manifest.parts o.fits.cover in
      subst (λ (l : List ℕ). u < vertices_of l) (sym (same ∙ o.ends_are)) (omega (arith, below, whole))

  pub asked_place : (i u : ℕ) → LiesIn ends i u → i ≡ place (ends_of s.manifest) u
  asked_place i u lies =
      sym (place_of_lies (ends_of s.manifest) i u (cut_of_cover s.manifest.vertices s.manifest.parts o.fits.cover) (subst (λ (l : List ℕ). LiesIn l i u) (same ∙ o.ends_are) lies))

  pub ends_many : length ends ≡ length s.manifest.parts
  ends_many = ap (λ (l : List ℕ). length l) (same ∙ o.ends_are) ∙ length-map s.manifest.parts (λ (p : PartEntry). p.hi)

-- what holds of partitions from one number to before another holds of so many from the first on
pub at_asked : (P : ℕ → ℕ → Type 0) (first end f w : ℕ) → first ≡ f → end ≡ f + w → P first (end - first) → P f w
at_asked P first end f w is end_is h =
    let e : end - first ≡ w = omega (arith, is, end_is) in
    subst (λ (n : ℕ). P n w) is (subst (λ (n : ℕ). P first n) e h)

module _ (s : OpenStore) (o : IsOpenStore s) (tells : Bool) (t : IsTrue tells) (c : Contents) (parts : List (List Born)) (listed : AreListedIn s c parts) (label : LabelId) (to : Option ℕ) where
  here : (u : ℕ) → answers_in label (Some u) to (all_edges parts) ≡ answers_in label (Some u) to (slice_index_or parts (place (ends_of s.manifest) u) [])
  here u = answers_from (ends_of s.manifest) parts s.manifest.vertices label u to (cut_from_cover s.manifest.vertices 0 s.manifest.parts o.fits.cover) (listed_partitions c s.manifest (normal_form s.rules).fresh parts listed)

  joins : (xs ys : List Born) → answers_text label None to (xs ++ ys) ≡ answers_text label None to xs ++ answers_text label None to ys
  joins xs ys = ap (λ (l : List Born). flat_map answer_line l) (filter-append (is_answer label None to) xs ys) ∙ flat_map-append answer_line (answers_in label None to xs) (answers_in label None to ys)

  pub answers_listed : (from : Option ℕ) (a b : Option (List ℕ)) (result : Result ℕ AnswerFault) (read : List (List Born)) → ArePartsPrinted s tells c (first_asked s from) (wanted s from) (answers_text label from to) a b result read → Takes a b result (answers_text label from to (all_edges parts))
  answers_listed None a b result read p = listed_all s o tells t c parts listed (answers_text label None to) a b result read joins p
  answers_listed (Some u) a b result read p = listed_one s o tells t c parts listed (answers_text label (Some u) to) (place (ends_of s.manifest) u) a b result read refl (ap (λ (l : List Born). flat_map answer_line l) (here u)) p

  pub answers_counted : (from : Option ℕ) (a b : Option (List ℕ)) (result : Result ℕ AnswerFault) (read : List (List Born)) → ArePartsPrinted s tells c (first_asked s from) (wanted s from) (answers_text label from to) a b result read → IfOk result (λ n. n ≡ length (answers_in label from to (all_edges read))) → IfOk result (λ n. n ≡ length (answers_in label from to (all_edges parts)))
  answers_counted from a b (Err f) read p is = tt
  answers_counted None a b (Ok n) read p is = is ∙ ap (λ (l : List (List Born)). length (answers_in label None to (all_edges l))) (read_all s o tells t c parts listed read p.are_read p.all)
  answers_counted (Some u) a b (Ok n) read p is =
      is
      ∙ ap (λ (l : List Born). length (answers_in label (Some u) to l)) (read_single s o tells t c parts listed (place (ends_of s.manifest) u) read p.are_read p.all)
      ∙ ap (λ (l : List Born). length l) (sym (here u))
