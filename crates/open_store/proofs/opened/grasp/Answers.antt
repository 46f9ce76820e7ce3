use Rattle.std.proofs.Common.{◌≡◌, ◌≢◌, ℕ, ◌≤◌, List, refl, sym, ap, subst, ◌∙◌, arith}
use Rattle.std.specs.Prelude.{Result, Ok, Err}
use Rattle.disk_model.specs.Disk.{Contents}
use Rattle.disk_model.specs.Run.{then_no_more}
use Rattle.manifest_switch.specs.declared.slot.Found.{Found}
use Rattle.manifest_switch.specs.declared.slot.Found.TheVariants.{At, Blank}
use Rattle.manifest_switch.specs.declared.slot.OpenFault.{OpenFault}
use Rattle.manifest_switch.specs.Answers.{AnswersCurrent}
use Rattle.manifest_switch.specs.Slots.{current_of, file_of, other}
use Rattle.open_store.specs.Copy.{IsBadCopy, IsCopyRead}
use Rattle.open_store.specs.Opened.{IsBadStore}
use Rattle.manifest_switch.specs.Steps.{Stays}
use Rattle.manifest_switch.proofs.SwitchLemmas.{current_alike}
use Rattle.open_store.proofs.Causes.{handed}
use Rattle.manifest_switch.specs.declared.slot.Slot.{Slot}
use Rattle.manifest_switch.specs.declared.slot.Slot.TheVariants.{Zero, One}
use Rattle.open_store.proofs.Slots.{blank_alike, found_handed, looked, stays_keeps, stays_refl, then_closed}
use Rattle.open_store.proofs.opened.grasp.Goals as goal

not_two : (s : Slot) → 2 ≢ file_of s
not_two Zero = omega arith
not_two One = omega arith

pub returns-in_err-current-clause-cause : goal.returns-in_err-current-clause-cause
returns-in_err-current-clause-cause g c =
    let D = g.D.Disk in
    found_handed (D.faults c.args.disk.now) (D.faults c.current.new.disk) (D.seen c.args.disk.now) D.tells c.current.result c.from_residual.result c.in_err-current.field-0.0 c.in_err-current.was c.from_residual.ensures.1 c.current.ensures.cause c.current.ensures.found

pub close_other-requires-clause-current : goal.close_other-requires-clause-current
close_other-requires-clause-current g c = λ image now.
    let D = g.D.Disk in
    let tells = g.met.D.Disk.told c.current.new.disk image now in
    let alike : (f : ℕ) → image f ≡ D.seen c.args.disk.now f = λ f. c.requires image (c.in_ok-current.ensures.looks.no_more image now) f in
    (c.in-At.manifest, current_alike (D.seen c.args.disk.now) image alike ∙ c.in_ok-current.ensures.found tells ∙ ap (λ (x : Found). Ok x) c.in-At.is)

pub returns-in_ok-store_of-in-At-clause-stays : goal.returns-in_ok-store_of-in-At-clause-stays
returns-in_ok-store_of-in-At-clause-stays g c = λ tells.
    let D = g.D.Disk in
    let found = D.seen c.current.new.disk in
    let closed = D.seen c.close_other.new.disk in
    subst (λ (x : Contents). Stays (D.seen c.args.disk.now) x) (sym c.in_ok-store_of-in-At.ensures.looks.same_seen)
    (subst (λ (x : Contents). Stays x closed) c.in_ok-current.ensures.looks.same_seen
    (stays_keeps (other c.in-At.slot) found found closed (stays_refl found) (c.in_ok-close_other-in-At.ensures.seen tells)))

pub returns-in_err-close_other-in-At-clause-any_moment : goal.returns-in_err-close_other-in-At-clause-any_moment
returns-in_err-close_other-in-At-clause-any_moment g c =
    let D = g.D.Disk in
    let L = g.met.D.Disk in
    then_closed D.seen D.moment D.left_since D.may_leave L.counts_now L.only_now c.args.disk.now c.current.new.disk c.close_other.new.disk (other c.in-At.slot) c.current.ensures.looks.time c.current.ensures.looks.no_more c.close_other.ensures.any_moment

pub returns-in_err-store_of-in-At-clause-any_moment : goal.returns-in_err-store_of-in-At-clause-any_moment
returns-in_err-store_of-in-At-clause-any_moment g c =
    let D = g.D.Disk in
    let L = g.met.D.Disk in
    then_no_more D.moment D.left_since D.may_leave L.counts_now L.only_now c.args.disk.now c.close_other.new.disk c.store_of.new.disk _
    (then_closed D.seen D.moment D.left_since D.may_leave L.counts_now L.only_now c.args.disk.now c.current.new.disk c.close_other.new.disk (other c.in-At.slot) c.current.ensures.looks.time c.current.ensures.looks.no_more c.close_other.ensures.any_moment) c.store_of.ensures.looks.time c.store_of.ensures.looks.no_more

pub returns-in_ok-store_of-in-At-clause-any_moment : goal.returns-in_ok-store_of-in-At-clause-any_moment
returns-in_ok-store_of-in-At-clause-any_moment g c =
    let D = g.D.Disk in
    let L = g.met.D.Disk in
    then_no_more D.moment D.left_since D.may_leave L.counts_now L.only_now c.args.disk.now c.close_other.new.disk c.store_of.new.disk _
    (then_closed D.seen D.moment D.left_since D.may_leave L.counts_now L.only_now c.args.disk.now c.current.new.disk c.close_other.new.disk (other c.in-At.slot) c.current.ensures.looks.time c.current.ensures.looks.no_more c.close_other.ensures.any_moment) c.store_of.ensures.looks.time c.store_of.ensures.looks.no_more

pub returns-in_err-store_of-in-At-clause-cause : goal.returns-in_err-store_of-in-At-clause-cause
returns-in_err-store_of-in-At-clause-cause g c =
    let D = g.D.Disk in
    let later : D.faults c.args.disk.now ≤ D.faults c.close_other.new.disk = omega (arith, c.current.ensures.looks.later, c.close_other.ensures.cause.later) in
    handed (D.faults c.args.disk.now) (D.faults c.close_other.new.disk) (D.faults c.store_of.new.disk) _ _ c.store_of.result c.from_residual-in_err-store_of-in-At.result c.in_err-store_of-in-At.field-0.0 c.in_err-store_of-in-At.was c.from_residual-in_err-store_of-in-At.ensures.1 later
    (λ f p k bad tells.
    IsBadStore.copy_breaks c.in-At.slot c.in-At.manifest (c.in_ok-current.ensures.found tells ∙ ap (λ (x : Found). Ok x) c.in-At.is)
    (subst (λ (x : List ℕ). IsBadCopy c.in-At.slot c.in-At.manifest x f p k) ((c.in_ok-close_other-in-At.ensures.seen tells).others 2 (not_two (other c.in-At.slot)) ∙ ap (λ (x : Contents). x 2) c.in_ok-current.ensures.looks.same_seen) (bad tells)))
    c.store_of.ensures.cause

pub returns-in-Blank-clause-alone : goal.returns-in-Blank-clause-alone
returns-in-Blank-clause-alone g c = λ image now.
    let D = g.D.Disk in
    let looks = c.in_ok-current.ensures.looks in
    let tells = g.met.D.Disk.told c.current.new.disk image now in
    blank_alike (D.seen c.args.disk.now) image (λ f. c.requires image (looks.no_more image now) f) (c.in_ok-current.ensures.found tells ∙ ap (λ (x : Found). Ok x) c.in-Blank.is)

pub returns-in_ok-store_of-in-At-clause-alone : goal.returns-in_ok-store_of-in-At-clause-alone
returns-in_ok-store_of-in-At-clause-alone g c = λ image now.
    let D = g.D.Disk in
    let tells = g.met.D.Disk.told c.store_of.new.disk image now in
    let before = c.in_ok-store_of-in-At.ensures.looks.no_more image now in
    let found = ap current_of c.in_ok-current.ensures.looks.same_seen ∙ c.in_ok-current.ensures.found tells ∙ ap (λ (x : Found). Ok x) c.in-At.is in
    let only = c.in_ok-close_other-in-At.ensures.only c.in-At.manifest found image before in
    let store = c.in_ok-store_of-in-At.ensures.store in
    let copy = c.in_ok-store_of-in-At.ensures.copy tells in
    record {
      only = rw (store.0, store.1) only;
      grammar = rw (store.1, c.in_ok-close_other-in-At.ensures.synced image before 2) copy;
    }
