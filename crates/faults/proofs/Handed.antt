-- A fault that a call hands on has the reason that it had.
use Rattle.std.proofs.Common.{◌≡◌, ℕ, sym, subst}
use Rattle.std.specs.Prelude.{Result, Ok, Err, IsErrAnd}
use Rattle.faults.specs.declared.form_kind.FormKind.{FormKind}
use Rattle.faults.specs.Reasons.{BlamesText, Causes, HasReason, Holds, Implies, Why, disk_causes, broken, differs, disk_failed, faulty, no_memory, no_store}
use Rattle.faults.specs.Reasons.{no_words, not_known, read_failed, work_left, write_failed}

-- a reason that is there by one table is there by another that it implies
pub holds_more : (c d : Causes) → Implies c d → (why : Why) → Holds c why → Holds d why
holds_more c d more read_failed h = more.reads h
holds_more c d more disk_failed h = more.disk h
holds_more c d more write_failed h = more.writes h
holds_more c d more (faulty file line kind) h = more.text file line kind h
holds_more c d more (differs file place) h = more.other file place h
holds_more c d more (broken file place kind) h = more.bad file place kind h
holds_more c d more no_memory h = h
holds_more c d more no_words h = more.words h
holds_more c d more no_store h = more.none h
holds_more c d more (work_left i j) h = more.left i j h
holds_more c d more not_known h = more.unknown h

-- the fault of a part as that of the whole: what `?` hands on
pub handed : {T U E F : Type 0} (why : E → Why) (said : F → Why) (c d : Causes) → Implies c d → (r : Result T E) (s : Result U F) (e : E)
    → r ≡ Err e → HasReason why c r → IsErrAnd s (λ f. said f ≡ why e) → HasReason said d s
handed why said c d more r (Ok x) e was cause is = tt
handed why said c d more r (Err f) e was cause is =
    subst (λ (w : Why). Holds d w) (sym is) (holds_more c d more (why e) (subst (HasReason why c) was cause))

-- a cause of a part of a call of the disk is one of the whole
pub disk_more : (rose risen : Type 0) (bad worse : ℕ → ℕ → FormKind → Type 0) → (rose → risen)
    → ((file place : ℕ) (kind : FormKind) → bad file place kind → worse file place kind) → Implies (disk_causes rose bad) (disk_causes risen worse)
disk_more rose risen bad worse later more =
    record {
      reads = λ h. h;
      disk = later;
      writes = λ h. h;
      text = λ file line kind h. h;
      other = λ file place h. h;
      bad = more;
      words = λ h. h;
      none = λ h. h;
      left = λ i j h. h;
      unknown = λ h. h;
    }

-- a copy that is blamed for P is blamed for what follows from it
pub text_more : (P Q : Type 0) (copy : ℕ) → (P → Q) → (file place : ℕ) (kind : FormKind) → BlamesText P copy file place kind → BlamesText Q copy file place kind
text_more P Q copy more file place kind b = record { file_is = b.file_is; place_is = b.place_is; kind_is = b.kind_is; why = more b.why }

-- what holds of a fault holds of a result that is this fault
pub on_err : {U E : Type 0} (r : Result U E) (e : E) (P : Result U E → Type 0) → IsErrAnd r (λ x. x ≡ e) → P (Err e) → P r
on_err (Ok x) e P is p = absurd is
on_err {E} (Err x) e P is p = subst (λ (y : E). P (Err y)) (sym is) p
