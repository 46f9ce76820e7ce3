-- A partition is put, and the manifest that is made tells of it.
use Rattle.std.proofs.Common.{◌≡◌, ◌≢◌, ℕ, zero, suc, [], ◌∷◌, ◌+◌, ◌*◌, ◌<◌, ◌≤◌, ◌==◌, ◌&&◌, Bool, true, false, cond, List, length, get_or, refl, sym, ap, ◌∙◌, subst, arith, Option, Some, None}
use Rattle.std.specs.Prelude.{map, All, AllPairs, Contains, IfOk, IsTrue, Result, Ok, Err, slice_index_or, slice_set}
use Rattle.std.proofs.lemmas.Bool.Decides.{nat_tests}
use Rattle.std.proofs.Math.Seq.{map-set_same}
use Rattle.std.proofs.lemmas.List.{get_or-map, get_or-set_other, get_or-set_same, length-map, map-set}
use Rattle.std.proofs.lemmas.List.Elements.{All-contains}
use Rattle.graph_words.specs.declared.types.Born.{Born}
use Rattle.closing_machine.specs.State.{greatest_birth}
use Rattle.closing_machine.proofs.Members.{either}
use Rattle.disk_model.specs.Disk.{Contents, Sets}
use Rattle.disk_model.specs.OneFile.{only_set}
use Rattle.partition_file.specs.Spelling.{newest_format, Part, SpellsPart, spelling}
use Rattle.dest_map.specs.Table.{entry}
use Rattle.dest_map.proofs.TableLemmas.{entry_set}
use Rattle.pair_sched.specs.Marks.{newest_of}
use Rattle.manifest_codec.specs.declared.types.PartEntry.{PartEntry}
use Rattle.manifest_codec.specs.declared.types.Manifest.{Manifest}
use Rattle.store_law.specs.Listed.{ends_of, part_file}
use Rattle.store_law.specs.Steps.{IsFree}
use Rattle.store_fault.specs.declared.fault.StoreFault.{StoreFault}
use Rattle.open_store.specs.PartRead.{count_into}
use Rattle.open_store.specs.Stream.{IsTally}
use Rattle.open_store.specs.Store.{OpenStore}
use Rattle.open_store.proofs.Tallies.{ends_count}
use Rattle.closer.specs.NextManifest.{ArePut, IsWell, MayPutPart, MayPutPair, Puts, Refiles, Replaces, TakesOn}
use Rattle.closer.proofs.Flat.{is_it}
use Rattle.closer.proofs.Images.{spares_only, spares_refl}
use Rattle.closer.proofs.SameTexts.{same_here}

-- ---- the files

module _ (a file : ℕ) (before after : List PartEntry) (r : Refiles a file before after) (there : a < length before) where
  files_of : List PartEntry → List ℕ
  files_of l = map (λ p. p.file) l

  pub same_length : length after ≡ length before
  same_length = sym (length-map after (λ (p : PartEntry). p.hi)) ∙ ap (λ (l : List ℕ). length l) r.his ∙ length-map before (λ (p : PartEntry). p.hi)

  pub file_here : slice_index_or (map (λ (p : PartEntry). p.file) after) a 0 ≡ file
  file_here = ap (λ (l : List ℕ). get_or l a 0) r.files ∙ get_or-set_same (map (λ (p : PartEntry). p.file) before) a file 0 (omega (arith, there, length-map before (λ (p : PartEntry). p.file)))

  pub file_else : (x : ℕ) → x ≢ a → slice_index_or (map (λ (p : PartEntry). p.file) after) x 0 ≡ slice_index_or (map (λ (p : PartEntry). p.file) before) x 0
  file_else x ne = ap (λ (l : List ℕ). get_or l x 0) r.files ∙ get_or-set_other (map (λ (p : PartEntry). p.file) before) a x file 0 ne

  -- the file of an entry
  after_here : (i : ℕ) (d : PartEntry) → i < length after → i ≡ a → (get_or after i d).file ≡ file
  after_here i d lt e = sym (get_or-map (λ (p : PartEntry). p.file) after i d 0 lt) ∙ ap (λ (x : ℕ). get_or (map (λ (p : PartEntry). p.file) after) x 0) e ∙ file_here

  after_else : (i : ℕ) (d : PartEntry) → i < length after → i ≢ a → (get_or after i d).file ≡ (get_or before i d).file
  after_else i d lt ne = sym (get_or-map (λ (p : PartEntry). p.file) after i d 0 lt) ∙ file_else i ne ∙ get_or-map (λ (p : PartEntry). p.file) before i d 0 (omega (arith, lt, same_length))

  pub files_after : 4 ≤ file → file < 1024 → All (λ p. (4 ≤ p.file) × (p.file ≤ 1023)) before → All (λ p. (4 ≤ p.file) × (p.file ≤ 1023)) after
  files_after least most all i d lt =
      either (λ e. let h = after_here i d lt e in (omega (arith, h, least), omega (arith, h, most))) (λ ne. let h = after_else i d lt ne in let o = all i d (omega (arith, lt, same_length)) in (omega (arith, h, o.0), omega (arith, h, o.1))) (is_it i a)

  pub once_after : All (λ p. p.file ≢ file) before → AllPairs (λ p q. p.file ≢ q.file) before → AllPairs (λ p q. p.file ≢ q.file) after
  once_after untaken once i j d lt low same =
      let li : i < length after = omega (arith, lt, low) in
      either
      (λ e.
      let nj : j ≢ a = λ f. omega (arith, e, f, lt) in
      untaken j d (omega (arith, low, same_length)) (sym (after_else j d low nj) ∙ sym same ∙ after_here i d li e))
      (λ ni.
      either (λ f. untaken i d (omega (arith, li, same_length)) (sym (after_else i d li ni) ∙ same ∙ after_here j d low f)) (λ nj. once i j d lt (omega (arith, low, same_length)) (sym (after_else i d li ni) ∙ same ∙ after_else j d low nj)) (is_it j a))
      (is_it i a)

-- none of the entries has a file that is not among theirs
pub files_untaken : (parts : List PartEntry) (files : List ℕ) (file : ℕ) → files ≡ map (λ p. p.file) parts → All (λ f. f ≢ file) files → All (λ p. p.file ≢ file) parts
files_untaken parts files file are all k d lt same =
    subst (λ (l : List ℕ). All (λ f. f ≢ file) l) are all k 0 (omega (arith, lt, length-map parts (λ (p : PartEntry). p.file))) (get_or-map (λ (p : PartEntry). p.file) parts k d 0 lt ∙ same)

pub refiles_set : (before entries after : List PartEntry) (i file : ℕ) (e d : PartEntry) → entries ≡ before → i < length before → e.hi ≡ (get_or before i d).hi → e.file ≡ file → after ≡ slice_set entries i e → Refiles i file before after
refiles_set before entries after i file e d same lt hi is set_is =
    let made : after ≡ slice_set before i e = set_is ∙ ap (λ (l : List PartEntry). slice_set l i e) same in
    record {
      his = ap (λ (l : List PartEntry). map (λ (p : PartEntry). p.hi) l) made ∙ map-set_same (λ (p : PartEntry). p.hi) before i e d hi;
      files = ap (λ (l : List PartEntry). map (λ (p : PartEntry). p.file) l) made ∙ map-set (λ (p : PartEntry). p.file) before i e ∙ ap (λ (f : ℕ). slice_set (map (λ (p : PartEntry). p.file) before) i f) is;
    }

-- a row is filled place by place
pub row_more : (size i j x : ℕ) (xs row : List ℕ) (old : ℕ → ℕ → ℕ) → length xs ≡ size * size → i < size → j < size → x ≡ slice_index_or row j 0 → ((b : ℕ) → b < j → entry size xs i b ≡ slice_index_or row b 0) → (b : ℕ) → b < j + 1 → entry size (slice_set xs (i * size + j) x) i b ≡ slice_index_or row b 0
row_more size i j x xs row old long li lj is here b lt =
    either
    (λ e. entry_set size i j x xs long li lj i b ∙ rw e (yes (i == i) (j == j) (grind (arith, nat_tests)) (grind (arith, nat_tests))) ∙ is ∙ ap (λ (y : ℕ). slice_index_or row y 0) (sym e))
    (λ ne. entry_set size i j x xs long li lj i b ∙ no_second (i == i) (b == j) (grind (arith, nat_tests)) ∙ here b (omega (arith, lt, ne)))
    (is_it b j)
  where
    yes : (t u : Bool) → t ≡ true → u ≡ true → cond (t && u) x (entry size xs i j) ≡ x
    yes t u e f = rw (e, f) refl

    no_second : (t u : Bool) → u ≡ false → cond (t && u) x (entry size xs i b) ≡ entry size xs i b
    no_second true u e = rw e refl
    no_second false u e = refl

pub row_others : (size i j x : ℕ) (xs : List ℕ) (old : ℕ → ℕ → ℕ) → length xs ≡ size * size → i < size → j < size → ((y b : ℕ) → y ≢ i → entry size xs y b ≡ old y b) → (y b : ℕ) → y ≢ i → entry size (slice_set xs (i * size + j) x) y b ≡ old y b
row_others size i j x xs old long li lj others y b ne =
    entry_set size i j x xs long li lj y b ∙ no_first (y == i) (b == j) (grind (arith, nat_tests)) ∙ others y b ne
  where
    no_first : (t u : Bool) → t ≡ false → cond (t && u) x (entry size xs y b) ≡ entry size xs y b
    no_first t u e = rw e refl

-- ---- the manifest that is made

pub takes_new : (round a file newest : ℕ) (ends : List ℕ) (edges : List Born) (row : List ℕ) (next after : Manifest) (b : Born) → a < length next.parts → IsWell next → Replaces next a file row newest after → 4 ≤ file → file < 1024 → All (λ p. p.file ≢ file) next.parts → ends ≡ ends_of next → IsTally ends edges row newest → Contains edges b → round ≤ b.birth → TakesOn round a edges next after
takes_new round a file newest ends edges row next after b there well r least most untaken are tally has new =
    let len = same_length a file next.parts after.parts r.refiles there in
    record {
      generation = r.generation;
      round_is = r.round_is;
      same = r.same;
      ends = r.refiles.his;
      well = record {
        few = omega (arith, len, well.few);
        files = files_after a file next.parts after.parts r.refiles there least most well.files;
        once = once_after a file next.parts after.parts r.refiles there untaken well.once;
        map = record { size = r.map_size ∙ well.map.size ∙ sym len; rows = r.map_rows ∙ ap (λ (x : ℕ). x * x) (well.map.size ∙ sym len) };
        marks = record {
          size = r.marks_size ∙ well.marks.size ∙ sym len;
          rows = ap (λ (l : List ℕ). length l) r.joined ∙ well.marks.rows ∙ ap (λ (x : ℕ). x * x) (sym len);
          births = r.births ∙ well.marks.births ∙ sym len;
        };
      };
      joined = λ x y. λ i. entry (r.marks_size i) (r.joined i) x y;
      counts = λ c lc. r.counts c (omega (arith, lc, well.map.size)) ∙ tally.counts c (omega (arith, lc, ends_count next, ap (λ (l : List ℕ). length l) are)) ∙ ap (λ (l : List ℕ). count_into l edges c) are;
      newest = r.newest_is a ∙ here (a == a) (grind (arith, nat_tests)) ∙ tally.newest_is;
      other_counts = r.other_counts;
      other_newest = λ x ne. r.newest_is x ∙ there_else (x == a) x (grind (arith, nat_tests));
      other_files = λ x ne. file_else a file next.parts after.parts r.refiles there x ne;
      kept = λ old. absurd (let h = All-contains (λ (c : Born). c.birth < round) edges b old has in omega (arith, h, new));
    }
  where
    here : (t : Bool) → t ≡ true → cond t newest (newest_of next.marks a) ≡ newest
    here t e = rw e refl

    there_else : (t : Bool) (x : ℕ) → t ≡ false → cond t newest (newest_of next.marks x) ≡ newest_of next.marks x
    there_else t x e = rw e refl

-- where no edge is new
pub takes_none : (s : OpenStore) (tells : Bool) (c : Contents) (a : ℕ) (p : Part) (next : Manifest) → MayPutPart s tells c a p next → All (λ b. b.birth < s.manifest.round) p.edges → TakesOn s.manifest.round a p.edges next next
takes_none s tells c a p next may old =
    let told = may.told old in
    record {
      generation = refl;
      round_is = refl;
      same = same_here next;
      ends = refl;
      well = may.well;
      joined = λ x y. refl;
      counts = told.counts;
      newest = told.newest;
      other_counts = λ x b ne. refl;
      other_newest = λ x ne. refl;
      other_files = λ x ne. refl;
      kept = λ older. refl;
    }

-- ---- the disk

pub puts_new : (m : Manifest) (a file newest : ℕ) (row : List ℕ) (p : Part) (next after : Manifest) (old new : Contents) → a < length next.parts → Replaces next a file row newest after → IsFree m file → All (λ q. q.file ≢ file) next.parts → Sets file (spelling newest_format p) old new → Puts m a p next after old new
puts_new m a file newest row p next after old new there r free untaken sets =
    record {
      spares = spares_only m file old new free (only_set file (spelling newest_format p) old new sets);
      spelled = subst (λ (f : ℕ). SpellsPart (new f) p) (sym (file_here a file next.parts after.parts r.refiles there)) (newest_format, sets.here);
      others = λ x lt ne. sets.others (part_file next x) (λ same. untaken x no_entry lt (sym (get_or-map (λ (q : PartEntry). q.file) next.parts x no_entry 0 lt) ∙ same));
    }
  where
    no_entry : PartEntry
    no_entry = record { hi = 0; file = 0 }

pub puts_none : (s : OpenStore) (tells : Bool) (a : ℕ) (p : Part) (next : Manifest) (c : Contents) → MayPutPart s tells c a p next → IsTrue tells → All (λ b. b.birth < s.manifest.round) p.edges → Puts s.manifest a p next next c c
puts_none s tells a p next c may tell old = record { spares = spares_refl s.manifest c; spelled = may.same tell old; others = λ x lt ne. refl }

-- no birth is greater than the greatest
below_greatest : (bs : List Born) (i : ℕ) (d : Born) → i < length bs → (get_or bs i d).birth ≤ greatest_birth bs
below_greatest [] i d lt = absurd (omega arith)
below_greatest (b ∷ bs) zero d lt = omega arith
below_greatest (b ∷ bs) (suc i) d lt = let h = below_greatest bs i d (omega arith) in omega arith

pub rises : (round old newest : ℕ) (ends : List ℕ) (edges : List Born) (row : List ℕ) (b : Born) → old < round → IsTally ends edges row newest → Contains edges b → round ≤ b.birth → old ≤ newest
rises round old newest ends edges row b low tally has new =
    let h = All-contains (λ (c : Born). c.birth ≤ greatest_birth edges) edges b (λ i d lt. below_greatest edges i d lt) has in
    let e = tally.newest_is in
    omega (arith, low, h, e, new)

-- ---- the second of two

pub may_put_then : (s : OpenStore) (tells : Bool) (c d : Contents) (a z : ℕ) (p q : Part) (next after : Manifest) → a ≢ z → MayPutPart s tells c z q next → TakesOn s.manifest.round a p.edges next after → (IsTrue tells → Puts s.manifest a p next after c d) → MayPutPart s tells d z q after
may_put_then s tells c d a z p q next after apart may t put =
    let ne : z ≢ a = λ e. apart (sym e) in
    let len : length after.parts ≡ length next.parts = sym (ends_count after) ∙ ap (λ (l : List ℕ). length l) t.ends ∙ ends_count next in
    record {
      there = omega (arith, may.there, len);
      part_is = may.part_is;
      ends = t.ends ∙ may.ends;
      well = t.well;
      older = let h = may.older in let e = t.other_newest z ne in omega (arith, h, e);
      told = λ old.
          let told = may.told old in
          record { counts = λ b lb. t.other_counts z b ne ∙ told.counts b (omega (arith, lb, len)) ∙ ap (λ (l : List ℕ). count_into l q.edges b) (sym t.ends); newest = t.other_newest z ne ∙ told.newest };
      same = λ tell old. subst (λ (f : List ℕ). SpellsPart f q) (sym (ap d (t.other_files z ne) ∙ (put tell).others z may.there ne)) (may.same tell old);
    }

pub first_may : (s : OpenStore) (tells : Bool) (c : Contents) (low high : ℕ) (p' : Part) (q' : Option Part) (next : Manifest) → MayPutPair s tells c low high p' q' next → MayPutPart s tells c low p' next
first_may s tells c low high p' None next may = may
first_may s tells c low high p' (Some q) next may = may.1

pub put_two : (m : Manifest) (tells : Bool) (low high : ℕ) (p' q : Part) (h : Option Part) (before mid : Manifest) (old between new : Contents) (r : Result Manifest StoreFault) → h ≡ Some q → TakesOn m.round low p'.edges before mid → (IsTrue tells → Puts m low p' before mid old between) → IfOk r (TakesOn m.round high q.edges mid) → (IsTrue tells → IfOk r (λ after. Puts m high q mid after between new))
    → IfOk r (λ after. ArePut m tells low high p' h before old after new)
put_two m tells low high p' q h before mid old between new (Ok after) is t put u put' =
    subst (λ (x : Option Part). ArePut m tells low high p' x before old after new) (sym is) (record { mid = mid; between = between; low_takes = t; low_puts = put; high_takes = u; high_puts = put' })
put_two m tells low high p' q h before mid old between new (Err e) is t put u put' = record {}
