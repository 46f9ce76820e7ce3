-- What was found in the slots, and the slot beside.
use Rattle.std.proofs.Common.{◌≡◌, ◌≢◌, ℕ, ◌≤◌, List, refl, sym, ap, subst, ◌∙◌, arith}
use Rattle.std.specs.Prelude.{Result, Ok, Err, IsErrAnd, IsTrue, Bool}
use Rattle.faults.specs.Counts.{Rose}
use Rattle.faults.specs.Reasons.{HasReason, blames_any, disk_causes}
use Rattle.disk_model.specs.Disk.{Contents}
use Rattle.disk_model.specs.Crash.{Elapses, From, LeavesOnly, NoMore}
use Rattle.disk_model.specs.Run.{no_step, then_no_more, then_run}
use Rattle.faults.specs.declared.form_kind.FormKind.{FormKind}
use Rattle.manifest_switch.specs.declared.slot.Slot.{Slot}
use Rattle.manifest_switch.specs.declared.slot.Slot.TheVariants.{Zero, One}
use Rattle.manifest_switch.specs.declared.slot.Found.{Found}
use Rattle.manifest_switch.specs.declared.slot.Found.TheVariants.{Blank}
use Rattle.manifest_switch.specs.declared.slot.OpenFault.{OpenFault}
use Rattle.manifest_switch.specs.declared.slot.OpenFault.TheVariants as slots
use Rattle.manifest_switch.specs.Answers.{AnswersCurrent, why_not_open}
use Rattle.manifest_switch.specs.Slots.{IsBlank, current_of, file_of, other}
use Rattle.manifest_switch.specs.Steps.{Keeps, Stays}
use Rattle.manifest_switch.proofs.LawLemmas.{blank_iff}
use Rattle.manifest_switch.proofs.SwitchLemmas.{current_alike}
use Rattle.store_fault.specs.declared.fault.StoreFault.{StoreFault}
use Rattle.store_fault.specs.Faults.{of_open, why_of}
use Rattle.open_store.specs.Opened.{IsBadStore}
use Rattle.faults.proofs.Handed.{on_err}

found_cause : (U : Type 0) (before now : ℕ) (c : Contents) (tells : Bool) (e : OpenFault) → HasReason {T = Found} why_not_open (disk_causes (Rose before now) blames_any) (Err e) → (IsTrue tells → AnswersCurrent (current_of c) (Err e)) → HasReason {T = U} why_of (disk_causes (Rose before now) (λ f p k. IsTrue tells → IsBadStore c f p k)) (Err (of_open e))
found_cause U before now c tells slots.DiskFault rose answers = rose
found_cause U before now c tells (slots.BadStore f p k) rose answers = λ t. IsBadStore.slots_break (answers t)
found_cause U before now c tells slots.NoMemory rose answers = record {}

-- what looking at the slots hands on
pub found_handed : {U : Type 0} (before now : ℕ) (c : Contents) (tells : Bool) (r : Result Found OpenFault) (s : Result U StoreFault) (e : OpenFault) → r ≡ Err e → IsErrAnd s (λ x. x ≡ of_open e) → HasReason why_not_open (disk_causes (Rose before now) blames_any) r → (IsTrue tells → AnswersCurrent (current_of c) r) → HasReason why_of (disk_causes (Rose before now) (λ f p k. IsTrue tells → IsBadStore c f p k)) s
found_handed {U} before now c tells r s e was is cause answers =
    on_err s (of_open e) (HasReason why_of (disk_causes (Rose before now) (λ f p k. IsTrue tells → IsBadStore c f p k))) is
    (found_cause U before now c tells e (subst (HasReason why_not_open (disk_causes (Rose before now) blames_any)) was cause) (λ t. subst (AnswersCurrent (current_of c)) was (answers t)))

-- contents that are as those of a blank store
pub blank_alike : (d c : Contents) → ((f : ℕ) → c f ≡ d f) → current_of d ≡ Ok Blank → IsBlank c
blank_alike d c same blank = (blank_iff c).0 (current_alike d c same ∙ blank)

pub stays_refl : (c : Contents) → Stays c c
stays_refl c = record { same = refl; others = λ f a b. refl }

other_than : (s : Slot) (f : ℕ) → f ≢ 0 → f ≢ 1 → f ≢ file_of s
other_than Zero f a b = a
other_than One f a b = b

-- a step of one slot behind one of both
pub stays_keeps : (s : Slot) (d m c : Contents) → Stays d m → Keeps s m c → Stays d c
stays_keeps s d m c stays keeps =
    record { same = keeps.same ∙ stays.same; others = λ f a b. keeps.others f (other_than s f a b) ∙ stays.others f a b }

module _ {D : Type 0} (seen : D → Contents) (moment : D → ℕ) (left_since : D → ℕ → Contents → Type 0) (images : D → Contents → Type 0) (counts_now : (x : D) (t : ℕ) (c : Contents) → t ≤ moment x → images x c → left_since x t c)
    (only_now : (x : D) (c : Contents) → left_since x (moment x) c → images x c) where
  -- a call that only looks leaves each image as it is
  pub looked : (old new : D) → Elapses (moment old) (moment new) (left_since old) (left_since new) (images new) → NoMore (images old) (images new) → LeavesOnly moment left_since old new (From (images old) Stays)
  looked old new time no_more = then_no_more moment left_since images counts_now only_now old old new (From (images old) Stays) (no_step moment left_since images counts_now only_now old Stays stays_refl) time no_more

  -- and the closing of a slot behind it leaves what is current
  pub then_closed : (old mid new : D) (s : Slot) → Elapses (moment old) (moment mid) (left_since old) (left_since mid) (images mid) → NoMore (images old) (images mid) → LeavesOnly moment left_since mid new (From (images mid) (Keeps s)) → LeavesOnly moment left_since old new (From (images old) Stays)
  then_closed old mid new s time no_more closed =
      then_run moment left_since images counts_now only_now old mid new Stays (Keeps s) Stays (looked old mid time no_more) closed (λ d c stays. stays) (λ d m c image mid-image stays keeps. stays_keeps s d m c stays keeps)

  -- steps that leave what is current, behind a sync
  pub then_stayed : (old mid new : D) → Elapses (moment old) (moment mid) (left_since old) (left_since mid) (images mid) → NoMore (images old) (images mid) → LeavesOnly moment left_since mid new (From (images mid) Stays) → LeavesOnly moment left_since old new (From (images old) Stays)
  then_stayed old mid new time no_more run =
      then_run moment left_since images counts_now only_now old mid new Stays Stays Stays
      (then_no_more moment left_since images counts_now only_now old old mid (From (images old) Stays) (no_step moment left_since images counts_now only_now old Stays stays_refl) time no_more) run (λ d c stays. stays)
      (λ d m c image mid-image first next. record { same = next.same ∙ first.same; others = λ f a b. next.others f a b ∙ first.others f a b })
