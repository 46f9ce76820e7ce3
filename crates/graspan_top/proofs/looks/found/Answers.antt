use Rattle.std.proofs.Common.{◌≡◌, Ok, inl, inr, refl, subst}
use Rattle.std.specs.Prelude.{IsTrue}
use Rattle.faults.specs.Counts.{Rose}
use Rattle.disk_model.specs.Disk.{Contents}
use Rattle.manifest_switch.specs.declared.slot.Found.TheVariants.{Blank}
use Rattle.manifest_switch.specs.Slots.{current_of}
use Rattle.open_store.specs.Opened.{IsOpened}
use Rattle.graspan_top.specs.Faults.{of_store}
use Rattle.graspan_top.specs.Looks.{found_stages}
use Rattle.graspan_top.proofs.ExplainLemmas.{if_err}
use Rattle.graspan_top.proofs.StageLemmas.{store_refuses}
use Rattle.graspan_top.proofs.looks.found.Goals as goal

pub returns-in_err-open-clause-refused : goal.returns-in_err-open-clause-refused
returns-in_err-open-clause-refused g c =
    let D = g.D.Disk in
    let f = c.in_err-open.field-0.0 in
    if_err c.from_residual.result (of_store f) _ c.from_residual.ensures.1
    (store_refuses (found_stages D.tells (D.seen c.args.disk.now) (Rose (D.faults c.args.disk.now) (D.faults c.open.new.disk))) f (inl c.in_err-open.ensures.cause))

pub returns-in-Blank-clause-refused : goal.returns-in-Blank-clause-refused
returns-in-Blank-clause-refused g c =
    let D = g.D.Disk in
    let looks = c.open.ensures.looks refl in
    let blank = λ (tells : IsTrue D.tells). subst (λ (k : Contents). current_of k ≡ Ok Blank) looks.same_seen (subst (IsOpened (D.seen c.open.new.disk)) c.in-Blank.is (c.in_ok-open.ensures.opened tells)) in
    inr (λ tells. inl (blank tells), inl blank)
