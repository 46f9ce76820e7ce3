-- What a step answers, and what steps do.
use Rattle.std.proofs.Common.{◌≡◌, ℕ, ◌+◌, ◌<◌, ◌≤◌, Bool, List, length, take, refl, sym, ap, ◌∙◌, subst, arith, inl, inr}
use Rattle.std.specs.Prelude.{All, IsTrue, Result, Ok, Err}
use Rattle.std.proofs.lemmas.List.{take_all}
use Rattle.faults.specs.Counts.{Rose}
use Rattle.faults.specs.Reasons.{HasReason, disk_causes}
use Rattle.store_fault.specs.Faults.{why_of}
use Rattle.graph_words.specs.declared.types.Rule.{Rule}
use Rattle.normal_law.specs.NormalForm.{normal_form}
use Rattle.closing_machine.specs.State.{IsPick}
use Rattle.disk_model.specs.Disk.{Contents}
use Rattle.disk_model.specs.Crash.{LeavesJust}
use Rattle.faults.specs.declared.form_kind.FormKind.{FormKind}
use Rattle.dest_map.specs.Table.{counts_of}
use Rattle.pair_sched.specs.Marks.{joined_of, newest_of}
use Rattle.pair_sched.specs.Pick.{IsClean}
use Rattle.manifest_codec.specs.declared.types.Manifest.{Manifest}
use Rattle.manifest_codec.specs.Spelling.{FitsManifest}
use Rattle.manifest_switch.specs.Slots.{other}
use Rattle.manifest_switch.specs.Steps.{IsSwitched}
use Rattle.store_law.specs.Left.{HasNoWork}
use Rattle.store_law.specs.Listed.{ends_of}
use Rattle.store_fault.specs.declared.fault.StoreFault.{StoreFault}
use Rattle.store_fault.specs.declared.fault.StoreFault.TheVariants.{BadStore, DiskFault, InputFault, NoMemory, OtherInput, ReadFault}
use Rattle.open_store.specs.Store.{IsHeldAlone, IsOpenStore, OpenStore}
use Rattle.closer.specs.Continuation.{Continues, HasWork}
use Rattle.closer.specs.Answers.{BlamesPicked, IsClosedStore, IsStepped}
use Rattle.closer.specs.NextManifest.{BlamesPair, IsNextManifest, IsOrderedPair}
use Rattle.closer.proofs.Ending.{outcome}
use Rattle.closer.proofs.Images.{continues_beside}
use Rattle.closer.proofs.LawLemmas.{continues_further}
use Rattle.closer.proofs.Passes.{ends_as_machine}
use Rattle.closer.proofs.StepLemmas.{among_turned}

-- the cause of a later part is one of the whole
pub cause_more : {T : Type 0} (before mid now : ℕ) (bad worse : ℕ → ℕ → FormKind → Type 0) (r : Result T StoreFault) → before ≤ mid → ((f p : ℕ) (k : FormKind) → bad f p k → worse f p k) → HasReason why_of (disk_causes (Rose mid now) bad) r → HasReason why_of (disk_causes (Rose before now) worse) r
cause_more before mid now bad worse (Ok x) le more h = h
cause_more before mid now bad worse (Err DiskFault) le more h = omega (arith, le, h)
cause_more before mid now bad worse (Err (BadStore f p k)) le more h = more f p k h
cause_more before mid now bad worse (Err NoMemory) le more h = h
cause_more before mid now bad worse (Err ReadFault) le more h = h
cause_more before mid now bad worse (Err (InputFault f l k)) le more h = h
cause_more before mid now bad worse (Err (OtherInput f p)) le more h = h

pub high_within : (i j low high n : ℕ) → IsOrderedPair i j low high → i < n → j < n → high < n
high_within i j low high n (le, inl same) li lj = omega (arith, same.1, lj)
high_within i j low high n (le, inr same) li lj = omega (arith, same.1, li)

pub blamed_turned : (s : OpenStore) (tells : Bool) (c : Contents) (i j low high f p : ℕ) (k : FormKind) → IsOrderedPair i j low high → BlamesPair s tells c low high f p k → BlamesPair s tells c i j f p k
blamed_turned s tells c i j low high f p k ordered b = record { partition = b.partition; among = among_turned i j low high b.partition ordered ∙ b.among; file_is = b.file_is; refused = b.refused }

-- the pick of a manifest that is handed out
pub picked : (r m : Manifest) (i j : ℕ) → r ≡ m → FitsManifest m → IsPick (counts_of r.map) (joined_of r.marks) (newest_of r.marks) r.map.0 i j → IsPick (counts_of m.map) (joined_of m.marks) (newest_of m.marks) (length m.parts) i j
picked r m i j same fits is =
    subst (λ (n : ℕ). IsPick (counts_of m.map) (joined_of m.marks) (newest_of m.marks) n i j) fits.map.size (subst (λ (x : Manifest). IsPick (counts_of x.map) (joined_of x.marks) (newest_of x.marks) x.map.0 i j) same is)

pub clean : (r m : Manifest) → r ≡ m → FitsManifest m → IsClean (counts_of r.map) (joined_of r.marks) (newest_of r.marks) r.map.0 → HasNoWork m
clean r m same fits is =
    subst (λ (n : ℕ). IsClean (counts_of m.map) (joined_of m.marks) (newest_of m.marks) n) fits.map.size (subst (λ (x : Manifest). IsClean (counts_of x.map) (joined_of x.marks) (newest_of x.marks) x.map.0) same is)

pub same_size : (r m : Manifest) → r ≡ m → FitsManifest m → r.map.0 ≡ r.marks.0
same_size r m same fits = ap (λ (x : Manifest). x.map.0) same ∙ fits.map.size ∙ sym fits.marks.size ∙ sym (ap (λ (x : Manifest). x.marks.0) same)

pub blamed_pick : (s : OpenStore) (tells : Bool) (c : Contents) (i j f p : ℕ) (k : FormKind) → IsPick (counts_of s.manifest.map) (joined_of s.manifest.marks) (newest_of s.manifest.marks) (length s.manifest.parts) i j → BlamesPair s tells c i j f p k → BlamesPicked s tells c f p k
blamed_pick s tells c i j f p k pick b = record { i = i; j = j; pick = pick; partition = b.partition; among = b.among; file_is = b.file_is; refused = b.refused }

pub labels_begin : (m next : Manifest) → next.labels ≡ m.labels → take (length m.labels) next.labels ≡ m.labels
labels_begin m next same = ap (λ (l : List (List ℕ)). take (length m.labels) l) same ∙ take_all (length m.labels) m.labels (omega arith)

module _ (s : OpenStore) (is : IsOpenStore s) (tells : Bool) (old mid : Contents) (i j : ℕ) (next : Manifest) (x : IsNextManifest s tells old mid i j next) (left : IsTrue tells → All (λ r. r.left.0 < length s.manifest.labels) s.rules) (pick : IsPick (counts_of s.manifest.map) (joined_of s.manifest.marks) (newest_of s.manifest.marks) (length s.manifest.parts) i j) where
  pub goes_on : IsTrue tells → Continues (normal_form s.rules) 1 old s.manifest mid next
  goes_on tell = (outcome s tells old mid i j next is x).goes_on tell (left tell) pick

  pub stepped : (t : OpenStore) (new : Contents) (images : Contents → Type 0) → t ≡ record { slot = other s.slot; manifest = next; rules = s.rules; ends = ends_of next } → (IsTrue tells → IsSwitched t.slot next mid new) → ((c : Contents) → images c → IsHeldAlone t c) → LeavesJust new images → IsStepped tells old s new images t
  stepped t new images same switched held synced =
      subst (λ (o : OpenStore). IsStepped tells old s new images o) (sym same)
      (record {
        work = record { i = i; j = j; first_below = pick.first_below; second_below = pick.second_below; dirty = pick.dirty };
        continues = λ tell. continues_beside (normal_form s.rules) 1 old mid new s.manifest next (goes_on tell) (switched tell).others;
        rules_are = refl;
        slot_is = refl;
        less = (outcome s tells old mid i j next is x).less pick.first_below pick.second_below pick.dirty;
        held = subst (λ (o : OpenStore). (c : Contents) → images c → IsHeldAlone o c) same held;
        synced = synced;
      })

-- the last step finds no work
pub closed_here : {D : Type 0} (seen : D → Contents) (images : D → Contents → Type 0) (tells : Bool) (s current last : OpenStore) (old now new : D) → last ≡ current → HasNoWork current.manifest → new ≡ now → current.rules ≡ s.rules → (IsTrue tells → (k : ℕ) × Continues (normal_form s.rules) k (seen old) s.manifest (seen now) current.manifest)
    → ((c : Contents) → images now c → IsHeldAlone current c) → (LeavesJust (seen old) (images old) → LeavesJust (seen now) (images now)) → IsClosedStore tells (seen old) (images old) s (seen new) (images new) last
closed_here {D} seen images tells s current last old now new same done still rules on held synced =
    subst (λ (x : D). IsClosedStore tells (seen old) (images old) s (seen x) (images x) last) (sym still)
    (subst (λ (o : OpenStore). IsClosedStore tells (seen old) (images old) s (seen now) (images now) o) (sym same) (record {
      done = done;
      continues = on;
      ends = λ tell. let o = on tell in ends_as_machine (normal_form s.rules) o.0 (seen old) (seen now) s.manifest current.manifest o.1 done;
      rules_are = rules;
      held = held;
      synced = synced;
    }))

-- steps behind others, with one more
pub one_more : (s t u : OpenStore) (tells : Bool) (c d e : Contents) (images : Contents → Type 0) → t.rules ≡ s.rules → (IsTrue tells → (k : ℕ) × Continues (normal_form s.rules) k c s.manifest d t.manifest) → IsStepped tells d t e images u → IsTrue tells → (k : ℕ) × Continues (normal_form s.rules) k c s.manifest e u.manifest
one_more s t u tells c d e images same on step tell =
    let o = on tell in
    (o.0 + 1, continues_further (normal_form s.rules) o.0 1 c d e s.manifest t.manifest u.manifest o.1 (subst (λ (r : List Rule). Continues (normal_form r) 1 d t.manifest e u.manifest) same (step.continues tell)))

-- a store that has no work left makes no step
pub no_step_there : (s t u : OpenStore) (tells : Bool) (d e : Contents) (images : Contents → Type 0) → HasNoWork s.manifest → t ≡ s → IsStepped tells d t e images u → ⊥
no_step_there s t u tells d e images done same step =
    let w = subst (λ (o : OpenStore). HasWork o.manifest) same step.work in
    done w.i w.j w.first_below w.second_below w.dirty
