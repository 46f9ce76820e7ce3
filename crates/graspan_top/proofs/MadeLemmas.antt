-- No file of a store that was made of two texts is blamed.
use Rattle.std.proofs.Common.{◌≡◌, ℕ, List, true, length, refl, subst, ◌∙◌, inr}
use Rattle.std.specs.Prelude.{IsTrue, Result, Ok, Err, IfOk, Option}
use Rattle.graph_words.specs.declared.types.Born.{Born}
use Rattle.faults.specs.declared.form_kind.FormKind.{FormKind}
use Rattle.normal_law.specs.NormalForm.{normal_form}
use Rattle.disk_model.specs.Disk.{Contents}
use Rattle.store_law.specs.Texts.{Texts, normal, rules}
use Rattle.store_law.specs.Left.{IsStoreOf}
use Rattle.store_law.proofs.Keeping.{imported_store}
use Rattle.open_store.specs.PartRead.{IsRefused}
use Rattle.open_store.specs.Store.{IsHeld, OpenStore}
use Rattle.store_fault.specs.declared.fault.StoreFault.{StoreFault}
use Rattle.store.specs.Import.{IsImportOf, texts_of}
use Rattle.closer.specs.Answers.{BlamesOnTheWay}
use Rattle.closer.specs.Continuation.{Continues}
use Rattle.closer.proofs.Blameless.{never_refused}
use Rattle.closer.proofs.Blaming.{one_of}
use Rattle.closer.proofs.LawLemmas.{rules_held, store_after}
use Rattle.graspan_top.specs.Given.{Given}
use Rattle.graspan_top.specs.Run.{BeginsWith}

pub made_not_blamed : (t : Texts) (s : OpenStore) (seen : Contents) (parts : List (List Born)) → IsStoreOf t seen s.manifest parts → IsHeld s seen → (file place : ℕ) (kind : FormKind) → BlamesOnTheWay s true seen file place kind → ⊥
made_not_blamed t s seen parts st held file place kind b =
    let same : s.rules ≡ rules t = rules_held t s seen st.texts held.grammar in
    let on = b.reached refl in
    let steps : Continues (normal t) on.0 seen s.manifest b.seen b.store.manifest = subst (λ r. Continues (normal_form r) on.0 seen s.manifest b.seen b.store.manifest) same on.1 in
    let after = store_after t seen b.seen on.0 s.manifest b.store.manifest parts st steps in
    let x = b.blames in
    never_refused t b.store b.seen after.0 after.1 (b.rules_are ∙ same) x.partition place kind (one_of x.i x.j x.partition (length b.store.manifest.parts) x.among x.pick.first_below x.pick.second_below)
    (subst (λ (f : ℕ). IsRefused b.store x.partition (b.seen f) place kind) x.file_is (x.refused refl))

-- a store that was made
pub begun_new : (x : Given) (text : List ℕ) (told : Option (List ℕ)) (limit : ℕ) (seen : Contents) (r : Result OpenStore StoreFault) → (IsTrue x.tells → IfOk r (λ s. IsImportOf text told limit seen s.manifest)) → IfOk r (λ s. IsTrue x.tells → BeginsWith x seen s)
begun_new x text told limit seen (Ok s) imported = λ tells. let i = imported tells in inr (texts_of text i.text, i.parts, (imported_store (texts_of text i.text) limit seen s.manifest i.parts i.imported).rest)
begun_new x text told limit seen (Err e) imported = tt
