-- The switch to the first manifest.
use Rattle.std.proofs.Common.{◌≡◌, ℕ, ◌≤◌, List, length, take, Option, inl, inr, sym, ap, ◌∙◌, subst, arith}
use Rattle.std.proofs.lemmas.List.{take_all}
use Rattle.grammar_norm.specs.GrammarText.{ReadsGrammar}
use Rattle.disk_model.specs.Disk.{Contents}
use Rattle.disk_model.specs.Crash.{From, LeavesOnly}
use Rattle.disk_model.specs.Run.{at_end, then_run}
use Rattle.manifest_codec.specs.declared.types.Manifest.{Manifest}
use Rattle.manifest_switch.specs.declared.slot.Slot.{Slot}
use Rattle.manifest_switch.specs.declared.slot.Slot.TheVariants.{Zero}
use Rattle.manifest_switch.specs.Slots.{HasOnly, IsBlank, chosen, current_of, is_open, open_body}
use Rattle.manifest_switch.specs.Steps.{IsAmid, IsMade, IsSwitched, Switches}
use Rattle.manifest_switch.proofs.LawLemmas.{alone_law}
use Rattle.open_store.specs.Copy.{IsCopyRead}
use Rattle.open_store.specs.Store.{IsHeldAlone, OpenStore}
use Rattle.store_law.proofs.Keeping.{fresh_beside, fresh_switched}
use Rattle.store.specs.declared.prepared.Prepared.{Prepared}
use Rattle.store.specs.Import.{HasFreshStore, Imports, IsImportOf, IsNewStore, texts_of}
use Rattle.store.specs.NewStore.{IsBeside, IsPrepared}

pub still_blank : (d c : Contents) → IsBeside d c → IsBlank d → IsBlank c
still_blank d c beside blank = record { first = ap is_open beside.first ∙ blank.first; second = ap is_open beside.second ∙ blank.second }

same_current : (d c : Contents) → IsBeside d c → current_of c ≡ current_of d
same_current d c beside = λ i. chosen (open_body (beside.first i)) (open_body (beside.second i))

module _ (grammar : List ℕ) (told : Option (List ℕ)) (limit : ℕ) (tells : Type 0) (seen : Contents) (p : Prepared) (is : IsPrepared grammar told limit tells seen p) where
  -- the whole new store
  made_fresh : (c : Contents) → tells → IsMade seen p.manifest c → HasFreshStore grammar told limit c
  made_fresh c tell made =
      record {
        text = is.text;
        is_file = is.is_file;
        slot = made.slot;
        manifest = p.manifest;
        current = made.current;
        parts = is.parts;
        fresh = fresh_beside (texts_of grammar is.text) seen c p.manifest is.parts limit (is.fresh tell) made.others;
      }

  pub import_step : (d m c : Contents) → tells → IsBeside d m → Switches seen p.manifest m c → Imports grammar told limit d c
  import_step d m c tell beside (inl stays) = inl (stays.same ∙ same_current d m beside)
  import_step d m c tell beside (inr made) = inr (made_fresh c tell made)

  import_in : (c : Contents) → tells → IsSwitched Zero p.manifest seen c → IsImportOf grammar told limit c p.manifest
  import_in c tell switched =
      record {
        text = is.text;
        is_file = is.is_file;
        parts = is.parts;
        imported = fresh_switched (texts_of grammar is.text) seen c p.manifest is.parts limit (is.fresh tell) (alone_law Zero p.manifest c switched.only) switched.others;
      }

  pub import_of : (s : OpenStore) (slot : Slot) (c : Contents) → s ≡ record { slot = slot; manifest = p.manifest; rules = p.normal; ends = p.intervals } → slot ≡ Zero → tells → IsSwitched slot p.manifest seen c → IsImportOf grammar told limit c s.manifest
  import_of s slot c made zero tell switched =
      subst (λ (m : Manifest). IsImportOf grammar told limit c m) (sym (ap (λ (o : OpenStore). o.manifest) made)) (import_in c tell (subst (λ (z : Slot). IsSwitched z p.manifest seen c) zero switched))

  pub new_store : (s : OpenStore) (slot : Slot) → s ≡ record { slot = slot; manifest = p.manifest; rules = p.normal; ends = p.intervals } → slot ≡ Zero → IsNewStore grammar told s
  new_store s slot made zero =
      subst (λ (o : OpenStore). IsNewStore grammar told o) (sym made)
      (record {
        slot_is = zero;
        keeps = record { fits = is.fits; grammar = is.reads.limits; ends_are = is.ends };
        names = is.names;
        reads = is.reads;
        text = is.text;
        is_file = is.is_file;
        good = is.good;
        labels = is.labels;
        vertices = is.vertices;
        grammar_len = is.grammar_len;
        edges_len = is.edges_len;
      })

  copy_read : (file : List ℕ) → file ≡ grammar → IsCopyRead p.manifest file p.normal
  copy_read file same =
      record {
        long = omega (arith, is.grammar_len, ap (λ (l : List ℕ). length l) same);
        names = is.names;
        reads = subst (λ (t : List ℕ). ReadsGrammar t p.normal is.names) (sym (ap (λ (l : List ℕ). take p.manifest.grammar_len l) same ∙ take_all p.manifest.grammar_len grammar (omega (arith, is.grammar_len)))) is.reads;
        begins = is.begins;
      }

  pub held_alone : (s : OpenStore) (slot : Slot) (new c : Contents) → s ≡ record { slot = slot; manifest = p.manifest; rules = p.normal; ends = p.intervals } → tells → HasOnly slot p.manifest c → c 2 ≡ new 2 → IsSwitched slot p.manifest seen new → IsHeldAlone s c
  held_alone s slot new c made tell only same switched =
      subst (λ (o : OpenStore). IsHeldAlone o c) (sym made) (record { only = only; grammar = copy_read (c 2) (same ∙ switched.others 2 (omega arith) (omega arith) ∙ is.grammar_copy tell) })

module _ {D : Type 0} (seen : D → Contents) (moment : D → ℕ) (left_since : D → ℕ → Contents → Type 0) (images : D → Contents → Type 0) (counts_now : (x : D) (t : ℕ) (c : Contents) → t ≤ moment x → images x c → left_since x t c)
    (only_now : (x : D) (c : Contents) → left_since x (moment x) c → images x c) where
  -- what a crash leaves before the switch
  pub blank_then : (old mid : D) → LeavesOnly moment left_since old mid (From (images old) IsBeside) → ((c : Contents) → images old c → IsBlank c) → (c : Contents) → images mid c → IsBlank c
  blank_then old mid run blank c image =
      let from = at_end moment left_since images counts_now only_now old mid (From (images old) IsBeside) run c image in
      still_blank from.0 c from.2 (blank from.0 from.1)

  -- and during it
  pub imports_then : (old mid new : D) (grammar : List ℕ) (told : Option (List ℕ)) (limit : ℕ) (tells : Type 0) (p : Prepared) → ((x : D) (c : Contents) → images x c → tells) → IsPrepared grammar told limit tells (seen mid) p → LeavesOnly moment left_since old mid (From (images old) IsBeside)
      → LeavesOnly moment left_since mid new (IsAmid (images mid) (seen mid) p.manifest) → LeavesOnly moment left_since old new (From (images old) (Imports grammar told limit))
  imports_then old mid new grammar told limit tells p tell is run more =
      then_run moment left_since images counts_now only_now old mid new IsBeside (Switches (seen mid) p.manifest) (Imports grammar told limit) run more (λ d c beside. inl (same_current d c beside))
      (λ d m c image mid-image beside switches. import_step grammar told limit tells (seen mid) p is d m c (tell mid m mid-image) beside switches)

  -- and where it comes to no switch
  pub imports_before : (old mid : D) (grammar : List ℕ) (told : Option (List ℕ)) (limit : ℕ) → LeavesOnly moment left_since old mid (From (images old) IsBeside) → LeavesOnly moment left_since old mid (From (images old) (Imports grammar told limit))
  imports_before old mid grammar told limit run =
      record {
        later = run.later;
        each = λ c left. weaken c (run.each c left);
        before = λ t c le left. elim (run.before t c le left) [ inl past ↦ inl past | inr now ↦ inr (weaken c now) ];
      }
    where
      weaken : (c : Contents) → From (images old) IsBeside c → From (images old) (Imports grammar told limit) c
      weaken c from = (from.0, from.1, inl (same_current from.0 c from.2))
