-- What a store is made of, and which files may change.
use Rattle.std.proofs.Common.{◌≡◌, ◌≢◌, inl, inr, ℕ, ◌<◌, ◌≤◌, List, [], length, take, sym, ◌∙◌, ap, subst, arith}
use Rattle.std.specs.Prelude.{slice_index_or, Ok}
use Rattle.std.proofs.lemmas.List.{get_or-map}
use Rattle.graph_words.specs.declared.types.Born.{Born}
use Rattle.closing_machine.proofs.Running.{opening_holds}
use Rattle.disk_model.specs.Disk.{Contents}
use Rattle.partition_file.specs.Spelling.{SpellsPart}
use Rattle.manifest_codec.specs.declared.types.PartEntry.{PartEntry}
use Rattle.manifest_codec.specs.declared.types.Manifest.{Manifest}
use Rattle.manifest_codec.specs.Spelling.{FitsManifest}
use Rattle.manifest_switch.specs.declared.slot.Slot.{Slot}
use Rattle.manifest_switch.specs.declared.slot.Slot.TheVariants.{Zero}
use Rattle.manifest_switch.specs.declared.slot.Found.TheVariants.{At}
use Rattle.manifest_switch.specs.Slots.{IsBlank, open_body, chosen, current_of}
use Rattle.manifest_switch.specs.Steps.{IsMade, Keeps, Stays, Switches}
use Rattle.manifest_switch.proofs.LawLemmas.{blank_iff}
use Rattle.manifest_switch.proofs.SlotLemmas.{keeps_stays}
use Rattle.store_law.specs.Texts.{Texts, graph, normal, edges_text}
use Rattle.store_law.specs.Listed.{AreListed, part_file, part_of}
use Rattle.store_law.specs.Left.{IsCopy, IsLeft, IsOfTexts, IsStore, IsStoreOf}
use Rattle.store_law.specs.Imported.{IsFreshStore, IsImported}
use Rattle.disk_model.specs.OneFile.{OnlyFile}
use Rattle.store_law.specs.Steps.{IsFree, KeepsCopies, KeepsFiles}
use Rattle.store_law.proofs.Named.{task_of_texts}

pub fresh_holds : (t : Texts) (limit : ℕ) (c : Contents) (m : Manifest) (parts : List (List Born)) → IsFreshStore t limit c m parts → IsStoreOf t c m parts
fresh_holds t limit c m parts i =
    let few = i.texts.fits.labels.short in
    record {
      texts = i.texts;
      listed = i.listed;
      holds = opening_holds (normal t) (graph t) _ (task_of_texts t (omega (arith, few, ap length i.texts.labels))) i.opening;
      tells = i.tells;
    }

pub imported_store : (t : Texts) (limit : ℕ) (c : Contents) (m : Manifest) (parts : List (List Born)) → IsImported t limit c m parts → IsStore t c m parts
imported_store t limit c m parts i = record { slot = Zero; current = i.current; rest = fresh_holds t limit c m parts i.fresh }

-- ---- the files that a store reads

pub no_entry : PartEntry
no_entry = record { hi = 0; file = 0 }

-- the file of a partition is its entry's
pub entry_file : (m : Manifest) (i : ℕ) → i < length m.parts → part_file m i ≡ (slice_index_or m.parts i no_entry).file
entry_file m i lt = get_or-map (λ (p : PartEntry). p.file) m.parts i no_entry 0 lt

pub file_above : (m : Manifest) (i : ℕ) → i < length m.parts → FitsManifest m → 4 ≤ part_file m i
file_above m i lt fits = let from = (fits.files i no_entry lt).0 in omega (arith, from, entry_file m i lt)

pub file_apart : (m : Manifest) (f i : ℕ) → i < length m.parts → IsFree m f → part_file m i ≢ f
file_apart m f i lt free same = free.unnamed i no_entry lt (sym (entry_file m i lt) ∙ same)

-- ---- files that are as they were

-- the copies are all that the texts are compared with
pub texts_kept : (t : Texts) (d c : Contents) (m : Manifest) → KeepsCopies m d c → IsOfTexts t d m → IsOfTexts t c m
texts_kept t d c m keeps s =
    record {
      good = s.good;
      fits = s.fits;
      grammar_copy = record { bytes = keeps.grammar ∙ s.grammar_copy.bytes; all = s.grammar_copy.all };
      edges_copy = record { bytes = keeps.edges ∙ s.edges_copy.bytes; all = s.edges_copy.all };
      labels = s.labels;
      vertices = s.vertices;
    }

-- and the partitions all that edges are read from
pub listed_kept : (d c : Contents) (m : Manifest) (fresh : ℕ) (parts : List (List Born)) → KeepsFiles m d c → AreListed d m fresh parts → AreListed c m fresh parts
listed_kept d c m fresh parts keeps s =
    record {
      size = s.size;
      spells = λ i lt. subst (λ (l : List ℕ). SpellsPart l (part_of m i (slice_index_or parts i []))) (sym (keeps.parts i lt)) (s.spells i lt);
      fits = s.fits;
    }

pub files_kept : (t : Texts) (d c : Contents) (m : Manifest) (parts : List (List Born)) → KeepsFiles m d c → IsStoreOf t d m parts → IsStoreOf t c m parts
files_kept t d c m parts keeps s =
    record { texts = texts_kept t d c m keeps.copies s.texts; listed = listed_kept d c m (normal t).fresh parts keeps s.listed; holds = s.holds; tells = s.tells }

pub store_kept : (t : Texts) (d c : Contents) (m : Manifest) (parts : List (List Born)) → current_of c ≡ current_of d → KeepsFiles m d c → IsStore t d m parts → IsStore t c m parts
store_kept t d c m parts same keeps s = record { slot = s.slot; current = same ∙ s.current; rest = files_kept t d c m parts keeps s.rest }

-- whole files that are as they were
pub keeps_copies : (m : Manifest) (d c : Contents) → c 2 ≡ d 2 → c 3 ≡ d 3 → KeepsCopies m d c
keeps_copies m d c grammar edges = record { grammar = ap (take m.grammar_len) grammar; edges = ap (take m.edges_len) edges }

-- files that are as in contents that are as others
pub kept_since : (m : Manifest) (b d c : Contents) → ((f : ℕ) → d f ≡ b f) → KeepsFiles m d c → KeepsFiles m b c
kept_since m b d c same keeps =
    record {
      copies = record { grammar = keeps.copies.grammar ∙ ap (take m.grammar_len) (same 2); edges = keeps.copies.edges ∙ ap (take m.edges_len) (same 3) };
      parts = λ i lt. keeps.parts i lt ∙ same (part_file m i);
    }

module _ (t : Texts) (d c : Contents) (m : Manifest) (parts : List (List Born)) where
  abbrev IsBeside : Type 0
  IsBeside = (f : ℕ) → f ≢ 0 → f ≢ 1 → c f ≡ d f

  keeps_beside : IsBeside → FitsManifest m → KeepsFiles m d c
  keeps_beside others fits =
      record {
        copies = keeps_copies m d c (others 2 (omega arith) (omega arith)) (others 3 (omega arith) (omega arith));
        parts = λ i lt. let high = file_above m i lt fits in others (part_file m i) (omega (arith, high)) (omega (arith, high));
      }

  pub beside_slots : IsBeside → IsStoreOf t d m parts → IsStoreOf t c m parts
  beside_slots others s = files_kept t d c m parts (keeps_beside others s.texts.fits) s

  -- a fresh store, whatever the slots hold
  pub fresh_beside : (limit : ℕ) → IsFreshStore t limit d m parts → IsBeside → IsFreshStore t limit c m parts
  fresh_beside limit s others =
      record {
        first = s.first;
        texts = texts_kept t d c m (keeps_beside others s.texts.fits).copies s.texts;
        degrees = s.degrees;
        counted = s.counted;
        intervals = s.intervals;
        listed = listed_kept d c m (normal t).fresh parts (keeps_beside others s.texts.fits) s.listed;
        opening = s.opening;
        tells = s.tells;
      }

  -- one whose manifest went to slot 0
  pub fresh_switched : (limit : ℕ) → IsFreshStore t limit d m parts → current_of c ≡ Ok (At Zero m) → IsBeside → IsImported t limit c m parts
  fresh_switched limit s is others = record { current = is; fresh = fresh_beside limit s others }

  pub free_file : (f : ℕ) → IsFree m f → OnlyFile f d c → IsStoreOf t d m parts → IsStoreOf t c m parts
  free_file f free only s =
      files_kept t d c m parts
      (record {
        copies = keeps_copies m d c (only.others 2 (omega (arith, free.above))) (only.others 3 (omega (arith, free.above)));
        parts = λ i lt. only.others (part_file m i) (file_apart m f i lt free);
      })
      s

-- ---- a switch

still_blank : (d c : Contents) → current_of c ≡ current_of d → IsBlank d → IsBlank c
still_blank d c same blank = (blank_iff c).0 (same ∙ (blank_iff d).1 blank)

pub stays_store : (t : Texts) (d c : Contents) (m : Manifest) (parts : List (List Born)) → Stays d c → IsStore t d m parts → IsStore t c m parts
stays_store t d c m parts stays s = record { slot = s.slot; current = stays.same ∙ s.current; rest = beside_slots t d c m parts stays.others s.rest }

pub stays_left : (t : Texts) (d c : Contents) → Stays d c → IsLeft t d → IsLeft t c
stays_left t d c stays (inl blank) = inl (still_blank d c stays.same blank)
stays_left t d c stays (inr left) = inr (left.0, left.1, stays_store t d c left.0 left.1 stays left.2)

pub keeps_left : (t : Texts) (s : Slot) (d c : Contents) → Keeps s d c → IsLeft t d → IsLeft t c
keeps_left t s d c keeps left = stays_left t d c (keeps_stays s d c keeps) left

pub made_store : (t : Texts) (seen c : Contents) (m : Manifest) (parts : List (List Born)) → IsStoreOf t seen m parts → IsMade seen m c → IsStore t c m parts
made_store t seen c m parts s made = record { slot = made.slot; current = made.current; rest = beside_slots t seen c m parts made.others s }

pub switch_left : (t : Texts) (d seen c : Contents) (m : Manifest) (parts : List (List Born)) → IsLeft t d → IsStoreOf t seen m parts → Switches seen m d c → IsLeft t c
switch_left t d seen c m parts left s (inl stays) = stays_left t d c stays left
switch_left t d seen c m parts left s (inr made) = inr (m, parts, made_store t seen c m parts s made)

-- ---- a file that no manifest names

pub same_current : (d c : Contents) (f : ℕ) → 2 ≤ f → OnlyFile f d c → current_of c ≡ current_of d
same_current d c f high only = λ i. chosen (open_body (only.others 0 (omega (arith, high)) i)) (open_body (only.others 1 (omega (arith, high)) i))

pub free_blank : (d c : Contents) (f : ℕ) → 2 ≤ f → OnlyFile f d c → IsBlank d → IsBlank c
free_blank d c f high only blank = still_blank d c (same_current d c f high only) blank

pub free_store : (t : Texts) (d c : Contents) (m : Manifest) (parts : List (List Born)) (f : ℕ) → IsFree m f → OnlyFile f d c → IsStore t d m parts → IsStore t c m parts
free_store t d c m parts f free only s =
    record { slot = s.slot; current = same_current d c f (omega (arith, free.above)) only ∙ s.current; rest = free_file t d c m parts f free only s.rest }

pub free_left : (t : Texts) (d c : Contents) (f : ℕ) → 2 ≤ f → ((s : Slot) (m : Manifest) → current_of d ≡ Ok (At s m) → IsFree m f) → OnlyFile f d c → IsLeft t d → IsLeft t c
free_left t d c f high free only (inl blank) = inl (free_blank d c f high only blank)
free_left t d c f high free only (inr left) = inr (left.0, left.1, free_store t d c left.0 left.1 f (free left.2.slot left.0 left.2.current) only left.2)
