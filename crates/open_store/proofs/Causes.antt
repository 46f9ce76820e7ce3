-- Faults that a call hands on.
use Rattle.std.proofs.Common.{◌≡◌, ℕ, ◌≤◌, arith, subst}
use Rattle.std.specs.Prelude.{Result, Err, IsErrAnd}
use Rattle.faults.specs.Counts.{Rose}
use Rattle.faults.specs.Reasons.{HasReason, disk_causes}
use Rattle.faults.specs.declared.form_kind.FormKind.{FormKind}
use Rattle.faults.proofs.Handed.{disk_more, holds_more, on_err}
use Rattle.store_fault.specs.Faults.{why_of}
use Rattle.store_fault.specs.declared.fault.StoreFault.{StoreFault}

-- what `?` hands on
pub handed : {T U : Type 0} (before mid now : ℕ) (bad worse : ℕ → ℕ → FormKind → Type 0) (r : Result T StoreFault) (s : Result U StoreFault) (e : StoreFault)
    → r ≡ Err e → IsErrAnd s (λ x. x ≡ e) → before ≤ mid → ((f p : ℕ) (k : FormKind) → bad f p k → worse f p k)
    → HasReason why_of (disk_causes (Rose mid now) bad) r → HasReason why_of (disk_causes (Rose before now) worse) s
handed {T} {U} before mid now bad worse r s e was is le more cause =
    on_err s e (HasReason why_of (disk_causes (Rose before now) worse)) is
    (holds_more _ _ (disk_more (Rose mid now) (Rose before now) bad worse (λ rose. omega (arith, le, rose)) more) (why_of e)
    (subst (HasReason why_of (disk_causes (Rose mid now) bad)) was cause))

-- and where the disk isn't blamed
pub handed_other : {T U : Type 0} (before now : ℕ) (bad worse : ℕ → ℕ → FormKind → Type 0) (r : Result T StoreFault) (s : Result U StoreFault) (e : StoreFault)
    → r ≡ Err e → IsErrAnd s (λ x. x ≡ e) → ((f p : ℕ) (k : FormKind) → bad f p k → worse f p k)
    → HasReason why_of (disk_causes ⊥ bad) r → HasReason why_of (disk_causes (Rose before now) worse) s
handed_other {T} {U} before now bad worse r s e was is more cause =
    on_err s e (HasReason why_of (disk_causes (Rose before now) worse)) is
    (holds_more _ _ (disk_more ⊥ (Rose before now) bad worse (λ none. absurd none) more) (why_of e)
    (subst (HasReason why_of (disk_causes ⊥ bad)) was cause))
