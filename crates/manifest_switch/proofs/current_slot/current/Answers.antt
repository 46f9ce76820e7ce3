use Rattle.std.proofs.Common.{sym, subst}
use Rattle.std.specs.Prelude.{Result, Ok, Err, option_map}
use Rattle.disk_model.specs.Disk.{Contents}
use Rattle.manifest_switch.specs.declared.slot.Slot.TheVariants.{One}
use Rattle.manifest_switch.specs.declared.slot.Found.{Found}
use Rattle.manifest_switch.specs.declared.slot.OpenFault.{OpenFault}
use Rattle.manifest_switch.specs.Slots.{open_body, current_of}
use Rattle.faults.specs.Counts.{Rose}
use Rattle.faults.specs.Reasons.{HasReason, blames_any, disk_causes}
use Rattle.manifest_switch.specs.Answers.{AnswersSlot, AnswersCurrent, why_not_open}
use Rattle.manifest_switch.proofs.CurrentLemmas.{first_bad, second_bad, no_disk_fault, handed_on}
use Rattle.manifest_switch.proofs.current_slot.current.Goals as goal

pub returns-in_err-first-clause-found : goal.returns-in_err-first-clause-found
returns-in_err-first-clause-found g c = λ tells.
    let seen = g.D.Disk.seen c.args.disk.now in
    let e = c.in_err-first.field-0.0 in
    let said : AnswersCurrent (current_of seen) (Err e) = first_bad e (open_body (seen 0)) (open_body (seen 1)) (c.in_err-first.ensures.slot tells) in
    subst (λ (r : Result Found OpenFault). AnswersCurrent (current_of seen) r) (handed_on c.from_residual.result e c.from_residual.ensures.1) said

pub returns-in_err-second-clause-found : goal.returns-in_err-second-clause-found
returns-in_err-second-clause-found g c = λ tells.
    let seen = g.D.Disk.seen c.args.disk.now in
    let e = c.in_err-second.field-0.0 in
    let here = subst (λ (y : Contents). AnswersSlot One (open_body (y 1)) (Err e)) c.in_ok-first.ensures.looks.same_seen (c.in_err-second.ensures.slot tells) in
    let said : AnswersCurrent (current_of seen) (Err e) = second_bad e c.in_ok-first.first (open_body (seen 0)) (open_body (seen 1)) (c.in_ok-first.ensures.slot tells) here in
    subst (λ (r : Result Found OpenFault). AnswersCurrent (current_of seen) r) (handed_on c.from_residual-in_err-second.result e c.from_residual-in_err-second.ensures.1) said

pub returns-clause-cause : goal.returns-clause-cause
returns-clause-cause g c =
    let old = g.D.Disk.faults c.args.disk.now in
    let new = g.D.Disk.faults c.slot_of-2.new.disk in
    subst (λ (r : Result Found OpenFault). HasReason why_not_open (disk_causes (Rose old new) blames_any) r) (sym c.chosen.ensures.chosen) (no_disk_fault old new (option_map Ok c.in_ok-first.first) (option_map Ok c.in_ok-second.second))
