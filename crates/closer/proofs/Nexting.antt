-- What a step makes of a manifest, seen partition by partition.
use Rattle.std.proofs.Common.{◌≡◌, ◌≢◌, ℕ, ◌*◌, ◌<◌, ◌≤◌, Bool, true, false, List, ◌++◌, length, sym, ap, ◌∙◌, subst, arith, Option, Some, None}
use Rattle.std.specs.Prelude.{map, All, AllPairs, Contains, IsTrue, slice_index_or}
use Rattle.std.proofs.lemmas.List.Elements.{All-contains, Contains-append_left, Contains-append_right}
use Rattle.graph_words.specs.declared.types.Born.{Born}
use Rattle.normal_law.specs.Closure.{Normal}
use Rattle.normal_law.specs.NormalForm.{normal_form}
use Rattle.closing_machine.specs.Rounds.{IsOrdered, Rounds}
use Rattle.closing_machine.specs.Machine.{high, low}
use Rattle.closing_machine.proofs.Ordered.{same_ordered}
use Rattle.closing_machine.proofs.Rounding.{rounds_grow}
use Rattle.disk_model.specs.Disk.{Contents}
use Rattle.partition_file.specs.Spelling.{IsPart, Part, SpellsPart}
use Rattle.dest_map.specs.Table.{counts_of}
use Rattle.manifest_codec.specs.declared.types.PartEntry.{PartEntry}
use Rattle.manifest_codec.specs.declared.types.Manifest.{Manifest}
use Rattle.manifest_codec.specs.Spelling.{FitsManifest, IsMap}
use Rattle.store_law.specs.Listed.{ends_of, part_file, part_of}
use Rattle.row_table.specs.declared.span.Span.{Span}
use Rattle.row_table.specs.Loaded.{span_of}
use Rattle.open_store.specs.PartRead.{IsTold, count_into}
use Rattle.open_store.specs.Store.{OpenStore}
use Rattle.open_store.proofs.Tallies.{ends_count}
use Rattle.closer.specs.NextManifest.{ArePairIn, AreRun, AreSpelled, IsMarked, IsWell, MayPutPart, MayPutPair}
use Rattle.closer.proofs.Bounds.{cut}
use Rattle.closer.proofs.Running.{cut_apart, in_first, in_second, old_one}
use Rattle.closer.proofs.Turning.{KeptIn}

-- a partition with the bounds of a partition of the manifest is one of its intervals
pub part_same : (m : Manifest) (a : ℕ) (p p' : Part) → p ≡ part_of m a p.edges → span_of p' ≡ span_of p → p' ≡ part_of m a p'.edges
part_same m a p p' is span =
    let lo : p'.lo ≡ low (ends_of m) a = ap (λ (s : Span). s.lo) span ∙ ap (λ (x : Part). x.lo) is in
    let hi : p'.hi ≡ high (ends_of m) a = ap (λ (s : Span). s.hi) span ∙ ap (λ (x : Part). x.hi) is in
    λ i. record { lo = lo i; hi = hi i; edges = p'.edges }

pub in_part : (m : Manifest) (a : ℕ) (p : Part) → p ≡ part_of m a p.edges → IsPart p → IsPart (part_of m a p.edges)
in_part m a p is part = subst IsPart is part

-- the sources of a partition of the manifest
sources : (m : Manifest) (a : ℕ) (edges : List Born) → IsPart (part_of m a edges) → (b : Born) → Contains edges b → (low (ends_of m) a ≤ b.edge.src.0) × (b.edge.src.0 < high (ends_of m) a)
sources m a edges part b has = All-contains (λ (x : Born). (low (ends_of m) a ≤ x.edge.src.0) × (x.edge.src.0 < high (ends_of m) a)) edges b part.within has

abbrev all_older : ℕ → List Born → Type 0
all_older round edges = All (λ b. b.birth < round) edges

older : (round : ℕ) (edges : List Born) → all_older round edges → (b : Born) → Contains edges b → b.birth < round
older round edges all b has = All-contains (λ (x : Born). x.birth < round) edges b all has

span_in : Option Span → Span → Span
span_in None s = s
span_in (Some x) s = x

is_some : Option Span → Bool
is_some None = false
is_some (Some x) = true

pub some_same : (x y : Span) → Some x ≡ Some y → x ≡ y
unfolding span_in
some_same x y e = ap (λ (o : Option Span). span_in o x) e

pub some_none : (x : Span) → Some x ≡ None → ⊥
unfolding is_some
some_none x e = let f : true ≡ false = ap is_some e in absurd (cc)

-- ---- what stays where no edge is new

module _ (n : Normal) (start : List Born) (since round k last : ℕ) (rows : List Born) (r : Rounds n start since round k rows last) where
  -- of one partition
  pub same_one : IsOrdered start → IsOrdered rows → all_older round rows → rows ≡ start
  same_one before after old = same_ordered rows start after before (λ b m. old_one n start since round k last rows r b (older round rows old b m) m) (λ b m. rounds_grow n start since round r b m)

module _ (n : Normal) (m : Manifest) (fits : FitsManifest m) (a z : ℕ) (apart : a < z) (within : z < length m.parts) (p q p' q' : List Born) (since round k last : ℕ) (r : Rounds n (p ++ q) since round k (p' ++ q') last) (p-part : IsPart (part_of m a p)) (q-part : IsPart (part_of m z q)) (p'-part : IsPart (part_of m a p')) (q'-part : IsPart (part_of m z q')) where
  behind : high (ends_of m) a ≤ low (ends_of m) z
  behind = cut_apart 0 (ends_of m) m.vertices a z (cut m fits) apart (omega (arith, within, ends_count m))

  -- of two, the first
  pub same_low : all_older round p' → p' ≡ p
  same_low old =
      same_ordered p' p p'-part.ascending p-part.ascending
      (λ b has. in_first (low (ends_of m) a) (high (ends_of m) a) (low (ends_of m) z) (high (ends_of m) z) q b p behind (sources m z q q-part) (sources m a p' p'-part b has).1 (old_one n (p ++ q) since round k last (p' ++ q') r b (older round p' old b has) (Contains-append_left p' q' b has)))
      (λ b has. in_first (low (ends_of m) a) (high (ends_of m) a) (low (ends_of m) z) (high (ends_of m) z) q' b p' behind (sources m z q' q'-part) (sources m a p p-part b has).1 (rounds_grow n (p ++ q) since round r b (Contains-append_left p q b has)))

  -- and the second
  pub same_high : all_older round q' → q' ≡ q
  same_high old =
      same_ordered q' q q'-part.ascending q-part.ascending
      (λ b has. in_second (low (ends_of m) a) (high (ends_of m) a) (low (ends_of m) z) (high (ends_of m) z) p b q behind (sources m a p p-part) (sources m z q' q'-part b has).0 (old_one n (p ++ q) since round k last (p' ++ q') r b (older round q' old b has) (Contains-append_right p' q' b has)))
      (λ b has. in_second (low (ends_of m) a) (high (ends_of m) a) (low (ends_of m) z) (high (ends_of m) z) p' b q' behind (sources m a p' p'-part) (sources m z q q-part b has).0 (rounds_grow n (p ++ q) since round r b (Contains-append_right p q b has)))

-- ---- the manifest at the start of the puts

module _ (m : Manifest) (fits : FitsManifest m) (i j k : ℕ) (start : Manifest) (s : IsMarked m i j k start) where
  pub ends_start : ends_of start ≡ ends_of m
  ends_start = ap (λ (l : List PartEntry). map (λ p. p.hi) l) s.parts

  pub size_start : length start.parts ≡ length m.parts
  size_start = ap (λ (l : List PartEntry). length l) s.parts

  pub file_start : (a : ℕ) → part_file start a ≡ part_file m a
  file_start a = ap (λ (l : List PartEntry). slice_index_or (map (λ p. p.file) l) a 0) s.parts

  pub kept_start : (a : ℕ) → KeptIn m start a
  kept_start a = record { counts = λ b. ap (λ (t : ℕ × List ℕ). counts_of t a b) s.map_is; newest = ap (λ (l : List ℕ). slice_index_or l a 0) s.newest }

  pub well_start : IsWell start
  well_start =
      record {
        few = omega (arith, fits.few, size_start);
        files = subst (λ (l : List PartEntry). All (λ p. (4 ≤ p.file) × (p.file ≤ 1023)) l) (sym s.parts) fits.files;
        once = subst (λ (l : List PartEntry). AllPairs (λ p q. p.file ≢ q.file) l) (sym s.parts) fits.files_once;
        map = subst (λ (l : List PartEntry). IsMap (length l) start.map) (sym s.parts) (subst (λ (t : ℕ × List ℕ). IsMap (length m.parts) t) (sym s.map_is) fits.map);
        marks = record {
          size = s.size ∙ fits.marks.size ∙ sym size_start;
          rows = s.rows ∙ ap (λ (x : ℕ). x * x) (s.size ∙ fits.marks.size ∙ sym size_start);
          births = ap (λ (l : List ℕ). length l) s.newest ∙ fits.marks.births ∙ sym size_start;
        };
      }

  told_start : (a : ℕ) (edges : List Born) → IsTold m a edges → IsTold start a edges
  told_start a edges told =
      record {
        counts = λ b lb. (kept_start a).counts b ∙ told.counts b (omega (arith, lb, size_start)) ∙ ap (λ (l : List ℕ). count_into l edges b) (sym ends_start);
        newest = (kept_start a).newest ∙ told.newest;
      }

module _ (st : OpenStore) (fits : FitsManifest st.manifest) (i j k : ℕ) (start : Manifest) (s : IsMarked st.manifest i j k start) (tells : Bool) (c : Contents) where
  pub may_put : (a : ℕ) (p p' : Part) → a < length st.manifest.parts → p ≡ part_of st.manifest a p.edges → IsTold st.manifest a p.edges → (IsTrue tells → SpellsPart (c (part_file st.manifest a)) p) → p' ≡ part_of st.manifest a p'.edges → (all_older st.manifest.round p'.edges → p'.edges ≡ p.edges) → MayPutPart st tells c a p' start
  may_put a p p' lt p-is told spelled p'-is same =
      record {
        there = omega (arith, lt, size_start st.manifest fits i j k start s);
        part_is = p'-is;
        ends = ends_start st.manifest fits i j k start s;
        well = well_start st.manifest fits i j k start s;
        older = let h = fits.newest a lt in omega (arith, h, (kept_start st.manifest fits i j k start s a).newest);
        told = λ old. subst (λ (l : List Born). IsTold start a l) (sym (same old)) (told_start st.manifest fits i j k start s a p.edges told);
        same = λ tell old. subst (λ (f : ℕ). SpellsPart (c f) p') (sym (file_start st.manifest fits i j k start s a)) (subst (λ (x : Part). SpellsPart (c (part_file st.manifest a)) x) (p-is ∙ ap (λ (l : List Born). part_of st.manifest a l) (sym (same old)) ∙ sym p'-is) (spelled tell));
      }

  pub may_put_pair : (since low high : ℕ) (p : Part) (q : Option Part) (p' : Part) (q' : Option Part) → ArePairIn st low high p q → (IsTrue tells → AreSpelled st c low high p q) → AreRun (normal_form st.rules) since st.manifest.round p q p' q' k → MayPutPair st tells c low high p' q' start
  may_put_pair since low high p None p' None pair spelled run =
      let x = pair.1 in
      let p'-is = part_same st.manifest low p p' x.part_is run.low_is in
      let r = run.run (length p'.edges) (omega arith) in
      may_put low p p' x.there x.part_is x.told spelled p'-is (same_one (normal_form st.rules) p.edges since st.manifest.round k r.last p'.edges r.rounds x.fits.part.ascending run.low_part.ascending)
  may_put_pair since low high p (Some q) p' (Some q') pair spelled run =
      let x = pair.1 in
      let y = pair.2 in
      let p'-is = part_same st.manifest low p p' x.part_is run.low_is in
      let q'-is = part_same st.manifest high q q' y.part_is (some_same (span_of q') (span_of q) run.high_is) in
      let r = run.run (length (p'.edges ++ q'.edges)) (omega arith) in
      let p'-part = in_part st.manifest low p' p'-is run.low_part in
      let q'-part = in_part st.manifest high q' q'-is run.high_part in (
        pair.0,
        may_put low p p' x.there x.part_is x.told (λ tell. (spelled tell).0) p'-is
            (same_low (normal_form st.rules) st.manifest fits low high pair.0 y.there p.edges q.edges p'.edges q'.edges since st.manifest.round k r.last r.rounds x.fits.part y.fits.part p'-part q'-part),
        may_put high q q' y.there y.part_is y.told (λ tell. (spelled tell).1) q'-is
            (same_high (normal_form st.rules) st.manifest fits low high pair.0 y.there p.edges q.edges p'.edges q'.edges since st.manifest.round k r.last r.rounds x.fits.part y.fits.part p'-part q'-part),
      )
  may_put_pair since low high p None p' (Some q') pair spelled run = absurd (some_none (span_of q') run.high_is)
  may_put_pair since low high p (Some q) p' None pair spelled run = absurd (some_none (span_of q) (sym run.high_is))
