use Rattle.std.proofs.Common.{◌≡◌, ℕ, ◌≤◌, refl, sym, ap, subst, ◌∙◌, arith}
use Rattle.std.specs.Prelude.{Result, Ok, Err}
use Rattle.disk_model.specs.Disk.{Contents}
use Rattle.manifest_switch.specs.declared.slot.Found.{Found}
use Rattle.manifest_switch.specs.declared.slot.Found.TheVariants.{At, Blank}
use Rattle.manifest_switch.specs.declared.slot.OpenFault.{OpenFault}
use Rattle.manifest_switch.specs.Answers.{AnswersCurrent}
use Rattle.manifest_switch.specs.Slots.{current_of, other}
use Rattle.open_store.specs.Copy.{IsBadCopy, IsCopyRead}
use Rattle.open_store.specs.Opened.{IsBadStore}
use Rattle.open_store.proofs.Causes.{handed}
use Rattle.open_store.proofs.Slots.{found_handed}
use Rattle.open_store.proofs.opened.look.Goals as goal

pub returns-in_err-current-clause-cause : goal.returns-in_err-current-clause-cause
returns-in_err-current-clause-cause g c =
    let D = g.D.Disk in
    found_handed (D.faults c.args.disk.now) (D.faults c.current.new.disk) (D.seen c.args.disk.now) D.tells c.current.result c.from_residual.result c.in_err-current.field-0.0 c.in_err-current.was c.from_residual.ensures.1 c.current.ensures.cause c.current.ensures.found

pub returns-in_err-store_of-in-At-clause-cause : goal.returns-in_err-store_of-in-At-clause-cause
returns-in_err-store_of-in-At-clause-cause g c =
    let D = g.D.Disk in
    handed (D.faults c.args.disk.now) (D.faults c.current.new.disk) (D.faults c.store_of.new.disk) _ _ c.store_of.result c.from_residual-in_err-store_of-in-At.result c.in_err-store_of-in-At.field-0.0 c.in_err-store_of-in-At.was c.from_residual-in_err-store_of-in-At.ensures.1 c.current.ensures.looks.later
    (λ f p k bad tells.
    IsBadStore.copy_breaks c.in-At.slot c.in-At.manifest (c.in_ok-current.ensures.found tells ∙ ap (λ (x : Found). Ok x) c.in-At.is)
    (subst (λ (x : Contents). IsBadCopy c.in-At.slot c.in-At.manifest (x 2) f p k) c.in_ok-current.ensures.looks.same_seen (bad tells)))
    c.store_of.ensures.cause
