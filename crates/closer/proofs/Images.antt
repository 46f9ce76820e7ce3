-- What a crash leaves during a step, and during steps.
use Rattle.std.proofs.Common.{◌≡◌, ◌≢◌, ℕ, ◌+◌, ◌<◌, ◌≤◌, List, length, get_or, refl, sym, ap, ◌∙◌, subst, arith, inl, inr}
use Rattle.std.specs.Prelude.{All}
use Rattle.std.proofs.lemmas.List.{get_or-map, length-take}
use Rattle.graph_words.specs.declared.types.Rule.{Rule}
use Rattle.normal_law.specs.Closure.{Normal}
use Rattle.normal_law.specs.NormalForm.{normal_form}
use Rattle.closing_machine.proofs.Members.{either}
use Rattle.disk_model.specs.Disk.{Contents}
use Rattle.disk_model.specs.Crash.{Elapses, From, LeavesJust, LeavesOnly, NoMore}
use Rattle.disk_model.specs.Run.{and_then, at_end, no_step, then_no_more, then_run}
use Rattle.disk_model.specs.OneFile.{OnlyFile}
use Rattle.manifest_codec.specs.declared.types.Manifest.{Manifest}
use Rattle.manifest_codec.specs.declared.types.PartEntry.{PartEntry}
use Rattle.manifest_codec.specs.Spelling.{FitsManifest}
use Rattle.manifest_switch.specs.declared.slot.Slot.{Slot}
use Rattle.manifest_switch.specs.declared.slot.Slot.TheVariants.{One, Zero}
use Rattle.manifest_switch.specs.Slots.{chosen, current_of, file_of, is_open, open_body, other}
use Rattle.manifest_switch.specs.Steps.{IsAmid, Stays, Switches}
use Rattle.manifest_switch.proofs.LawLemmas.{alone_law}
use Rattle.store_law.specs.Listed.{part_file}
use Rattle.store_law.specs.Steps.{IsFree}
use Rattle.store_law.proofs.Keeping.{file_above, file_apart, keeps_copies, kept_since}
use Rattle.open_store.specs.Copy.{IsCopyRead}
use Rattle.open_store.specs.Store.{IsHeldAlone, OpenStore}
use Rattle.closer.specs.Continuation.{Continues, ImageGoesOn, Retains}
use Rattle.closer.specs.Answers.{Moves}
use Rattle.closer.specs.NextManifest.{Spares}
use Rattle.closer.proofs.LawLemmas.{continues_elsewhere, continues_further}

-- ---- steps that spare a manifest

pub spares_refl : (m : Manifest) (c : Contents) → Spares m c c
spares_refl m c = record { below = λ f lt. refl; parts = λ i lt. refl }

pub spares_trans : (m : Manifest) (d e c : Contents) → Spares m d e → Spares m e c → Spares m d c
spares_trans m d e c a b = record { below = λ f lt. b.below f lt ∙ a.below f lt; parts = λ i lt. b.parts i lt ∙ a.parts i lt }

pub spares_only : (m : Manifest) (file : ℕ) (d c : Contents) → IsFree m file → OnlyFile file d c → Spares m d c
spares_only m file d c free only =
    record { below = λ f lt. only.others f (λ same. let a = free.above in omega (arith, a, lt, same)); parts = λ i lt. only.others (part_file m i) (file_apart m file i lt free) }

same_current : (d c : Contents) → c 0 ≡ d 0 → c 1 ≡ d 1 → current_of c ≡ current_of d
same_current d c zero_same one_same = λ i. chosen (open_body (zero_same i)) (open_body (one_same i))

pub spared_retains : (m : Manifest) (d c : Contents) → Spares m d c → Retains m d c
spared_retains m d c s =
    record {
      same = same_current d c (s.below 0 (omega arith)) (s.below 1 (omega arith));
      files = record { copies = keeps_copies m d c (s.below 2 (omega arith)) (s.below 3 (omega arith)); parts = s.parts };
    }

slot_below : (s : Slot) → file_of s < 4
slot_below Zero = omega arith
slot_below One = omega arith

pub held_spared : (s : OpenStore) (d c : Contents) → Spares s.manifest d c → IsHeldAlone s d → IsHeldAlone s c
held_spared s d c sp held =
    record {
      only = record {
        here = ap open_body (sp.below (file_of s.slot) (slot_below s.slot)) ∙ held.only.here;
        none_else = ap is_open (sp.below (file_of (other s.slot)) (slot_below (other s.slot))) ∙ held.only.none_else;
      };
      grammar = subst (λ (l : List ℕ). IsCopyRead s.manifest l s.rules) (sym (sp.below 2 (omega arith))) held.grammar;
    }

-- the rules of a store that is held have the labels of its manifest on their left sides
pub lefts_held : (s : OpenStore) (c : Contents) → IsHeldAlone s c → All (λ r. r.left.0 < length s.manifest.labels) s.rules
lefts_held s c held =
    let g = held.grammar in
    let t = length-take (length g.names) s.manifest.labels in
    let e = ap (λ (l : List (List ℕ)). length l) g.begins in
    λ i d lt.
    let h = g.reads.numbered i d lt in
    omega (arith, h, t, e)

retains_stays : (m : Manifest) (d e c : Contents) → FitsManifest m → Spares m d e → Stays e c → Retains m d c
retains_stays m d e c fits s t =
    record {
      same = t.same ∙ same_current d e (s.below 0 (omega arith)) (s.below 1 (omega arith));
      files = record {
        copies = keeps_copies m d c (t.others 2 (omega arith) (omega arith) ∙ s.below 2 (omega arith)) (t.others 3 (omega arith) (omega arith) ∙ s.below 3 (omega arith));
        parts = λ i lt. let a = file_above m i lt fits in t.others (part_file m i) (λ e. omega (arith, a, e)) (λ e. omega (arith, a, e)) ∙ s.parts i lt;
      };
    }

-- where all files but the slots are as before
pub continues_beside : (n : Normal) (k : ℕ) (c d e : Contents) (m next : Manifest) → Continues n k c m d next → ((f : ℕ) → f ≢ 0 → f ≢ 1 → e f ≡ d f) → Continues n k c m e next
continues_beside n k c d e m next on others =
    continues_elsewhere n k c d e m next on
    (record {
      copies = keeps_copies next d e (others 2 (omega arith) (omega arith)) (others 3 (omega arith) (omega arith));
      parts = λ i lt. let a = file_above next i lt on.fits in others (part_file next i) (λ x. omega (arith, a, x)) (λ x. omega (arith, a, x));
    })

module _ {D : Type 0} (seen : D → Contents) (moment : D → ℕ) (left_since : D → ℕ → Contents → Type 0) (images : D → Contents → Type 0) (counts_now : (x : D) (t : ℕ) (c : Contents) → t ≤ moment x → images x c → left_since x t c) (only_now : (x : D) (c : Contents) → left_since x (moment x) c → images x c) where
  -- ---- before the switch

  pub nothing : (m : Manifest) (old : D) → LeavesOnly moment left_since old old (From (images old) (Spares m))
  nothing m old = no_step moment left_since images counts_now only_now old (Spares m) (spares_refl m)

  pub looked : (m : Manifest) (old new : D) → Elapses (moment old) (moment new) (left_since old) (left_since new) (images new) → NoMore (images old) (images new) → LeavesOnly moment left_since old new (From (images old) (Spares m))
  looked m old new time no_more = then_no_more moment left_since images counts_now only_now old old new (From (images old) (Spares m)) (nothing m old) time no_more

  pub further : (m : Manifest) (old mid new : D) → LeavesOnly moment left_since old mid (From (images old) (Spares m)) → LeavesOnly moment left_since mid new (From (images mid) (Spares m)) → LeavesOnly moment left_since old new (From (images old) (Spares m))
  further m old mid new run more = then_run moment left_since images counts_now only_now old mid new (Spares m) (Spares m) (Spares m) run more (λ d c step. step) (λ d e c image mid-image first next. spares_trans m d e c first next)

  pub one_file : (m : Manifest) (old new : D) (file : ℕ) → IsFree m file → LeavesOnly moment left_since old new (From (images old) (OnlyFile file)) → LeavesOnly moment left_since old new (From (images old) (Spares m))
  one_file m old new file free run =
      record {
        later = run.later;
        each = λ c left. turn c (run.each c left);
        before = λ t c le left. either (λ past. inl past) (λ now. inr (turn c now)) (run.before t c le left);
      }
    where
      turn : (c : Contents) → From (images old) (OnlyFile file) c → From (images old) (Spares m) c
      turn c from = (from.0, from.1, spares_only m file from.0 c free from.2)

  pub held_then : (s : OpenStore) (old mid : D) → LeavesOnly moment left_since old mid (From (images old) (Spares s.manifest)) → ((c : Contents) → images old c → IsHeldAlone s c) → (c : Contents) → images mid c → IsHeldAlone s c
  held_then s old mid run held c image =
      let from = at_end moment left_since images counts_now only_now old mid (From (images old) (Spares s.manifest)) run c image in
      held_spared s from.0 c from.2 (held from.0 from.1)

  -- ---- a step

  pub step_before : (s : OpenStore) (old mid : D) → LeavesOnly moment left_since old mid (From (images old) (Spares s.manifest)) → LeavesOnly moment left_since old mid (From (images old) (Moves s (seen old)))
  step_before s old mid run =
      record {
        later = run.later;
        each = λ c left. turn c (run.each c left);
        before = λ t c le left. either (λ past. inl past) (λ now. inr (turn c now)) (run.before t c le left);
      }
    where
      turn : (c : Contents) → From (images old) (Spares s.manifest) c → From (images old) (Moves s (seen old)) c
      turn c from = (from.0, from.1, inl (spared_retains s.manifest from.0 c from.2))

  pub step_then : (s : OpenStore) (old mid new : D) (next : Manifest) → FitsManifest s.manifest → LeavesOnly moment left_since old mid (From (images old) (Spares s.manifest)) → LeavesOnly moment left_since mid new (IsAmid (images mid) (seen mid) next) → ((c : Contents) → images mid c → Continues (normal_form s.rules) 1 (seen old) s.manifest (seen mid) next)
      → LeavesOnly moment left_since old new (From (images old) (Moves s (seen old)))
  step_then s old mid new next fits run more on =
      then_run moment left_since images counts_now only_now old mid new (Spares s.manifest) (Switches (seen mid) next) (Moves s (seen old)) run more (λ d c spares. inl (spared_retains s.manifest d c spares)) (λ d e c image mid-image spares switches. turn d e c mid-image spares switches)
    where
      turn : (d e c : Contents) → images mid e → Spares s.manifest d e → Switches (seen mid) next e c → Moves s (seen old) d c
      turn d e c image spares (inl stays) = inl (retains_stays s.manifest d e c fits spares stays)
      turn d e c image spares (inr made) =
          inr
          (record {
            slot = made.slot;
            next = next;
            steps = 1;
            current = made.current;
            continues = continues_beside (normal_form s.rules) 1 (seen old) (seen mid) c s.manifest next (on e image) made.others;
          })

  -- ---- steps behind others

  -- what keeps the store of now is allowed
  abbrev pub IsBehind : OpenStore → D → OpenStore → D → Type 0
  IsBehind s old t now = (c : Contents) → From (images now) (Retains t.manifest) c → From (images old) (Moves s (seen old)) c

  pub first_behind : (s : OpenStore) (old : D) → IsBehind s old s old
  first_behind s old c from = (from.0, from.1, inl from.2)

  -- and what goes on from it is, too
  further_on : (s t : OpenStore) (old now : D) (k : ℕ) (c : Contents) → t.rules ≡ s.rules → Continues (normal_form s.rules) k (seen old) s.manifest (seen now) t.manifest → ImageGoesOn (normal_form t.rules) (seen now) t.manifest c → ImageGoesOn (normal_form s.rules) (seen old) s.manifest c
  further_on s t old now k c same on g =
      record {
        slot = g.slot;
        next = g.next;
        steps = k + g.steps;
        current = g.current;
        continues = continues_further (normal_form s.rules) k g.steps (seen old) (seen now) c s.manifest t.manifest g.next on (subst (λ (r : List Rule). Continues (normal_form r) g.steps (seen now) t.manifest c g.next) same g.continues);
      }

  pub steps_then : (s t : OpenStore) (old now new : D) → t.rules ≡ s.rules → LeavesOnly moment left_since old now (From (images old) (Moves s (seen old))) → IsBehind s old t now → LeavesOnly moment left_since now new (From (images now) (Moves t (seen now))) → ((c : Contents) → images now c → (k : ℕ) × Continues (normal_form s.rules) k (seen old) s.manifest (seen now) t.manifest)
      → LeavesOnly moment left_since old new (From (images old) (Moves s (seen old)))
  steps_then s t old now new same run behind more on =
      and_then moment left_since old now new (From (images old) (Moves s (seen old))) (From (images now) (Moves t (seen now))) run more (λ c from. turn c from.0 from.1 from.2)
    where
      turn : (c e : Contents) → images now e → Moves t (seen now) e c → From (images old) (Moves s (seen old)) c
      turn c e image (inl kept) = behind c (e, image, kept)
      turn c e image (inr g) =
          let o = on e image in
          let d = at_end moment left_since images counts_now only_now old now (From (images old) (Moves s (seen old))) run e image in
          (d.0, d.1, inr (further_on s t old now o.0 c same o.1 g))

  -- the store after a step is the only one that a crash leaves
  pub next_behind : (s t : OpenStore) (old now : D) → LeavesOnly moment left_since old now (From (images old) (Moves s (seen old))) → LeavesJust (seen now) (images now) → ((c : Contents) → images now c → IsHeldAlone t c) → ((c : Contents) → images now c → (k : ℕ) × Continues (normal_form s.rules) k (seen old) s.manifest (seen now) t.manifest) → IsBehind s old t now
  next_behind s t old now run just held on c from =
      let o = on from.0 from.1 in
      let d = at_end moment left_since images counts_now only_now old now (From (images old) (Moves s (seen old))) run from.0 from.1 in (
        d.0,
        d.1,
        inr
            (record {
              slot = t.slot;
              next = t.manifest;
              steps = o.0;
              current = from.2.same ∙ alone_law t.slot t.manifest from.0 (held from.0 from.1).only;
              continues =
                  continues_elsewhere (normal_form s.rules) o.0 (seen old) (seen now) c s.manifest t.manifest o.1 (kept_since t.manifest (seen now) from.0 c (just from.0 from.1) from.2.files);
            }),
      )
