use Rattle.std.proofs.Common.{◌≡◌, ℕ, sym, subst, false}
use Rattle.std.specs.Prelude.{Option}
use Rattle.disk_model.specs.Disk.{Contents, Sets}
use Rattle.disk_model.specs.Crash.{LeavesOnly, From}
use Rattle.disk_model.specs.Run.{no_step, then_no_more, then_run}
use Rattle.manifest_switch.specs.Answers.{AnswersOpen}
use Rattle.manifest_switch.specs.Slots.{file_of, other, is_open, with_closed_gate}
use Rattle.manifest_switch.specs.Steps.{Keeps, MayClose}
use Rattle.manifest_switch.specs.declared.slot.Slot.{Slot}
use Rattle.manifest_switch.proofs.SlotLemmas.{keeps_refl, keeps_trans, current-here}
use Rattle.manifest_switch.proofs.SwitchLemmas.{only_same, shut_beside, may_close_other, closing_keeps}
use Rattle.manifest_switch.proofs.other_gate.close_other.Goals as goal

pub close_gate-requires : goal.close_gate-requires
close_gate-requires g c = λ x now.
    let s = c.args.slot in
    let held = c.requires.current x (c.open_len.ensures.looks.no_more x now) in
    subst (λ (t : Slot). MayClose t x) (sym c.other-beside.ensures) (may_close_other s held.0 x held.1)

pub returns-in_err-close_gate-in-Some-clause-any_moment : goal.returns-in_err-close_gate-in-Some-clause-any_moment
returns-in_err-close_gate-in-Some-clause-any_moment g c =
    let D = g.D.Disk in
    let L = g.met.D.Disk in
    let t = c.other-beside.result in
    let old = c.args.disk.now in
    let mid = c.open_len.new.disk in
    let new = c.close_gate.new.disk in
    let start = no_step D.moment D.left_since D.may_leave L.counts_now L.only_now old (Keeps t) (keeps_refl t) in
    let read = then_no_more D.moment D.left_since D.may_leave L.counts_now L.only_now old old mid (From (D.may_leave old) (Keeps t)) start c.open_len.ensures.looks.time c.open_len.ensures.looks.no_more in
    let run = then_run D.moment D.left_since D.may_leave L.counts_now L.only_now old mid new (Keeps t) (Keeps t) (Keeps t) read c.close_gate.ensures.any_moment
    (λ d x k. k) (λ d y x i j k l. keeps_trans t d y x k l) in
    subst (λ (u : Slot). LeavesOnly D.moment D.left_since old new (From (D.may_leave old) (Keeps u))) c.other-beside.ensures run

pub returns-in-None-clause-only : goal.returns-in-None-clause-only
returns-in-None-clause-only g c = λ m is x now.
    let D = g.D.Disk in
    let s = c.args.slot in
    let old = c.args.disk.now in
    let before = c.open_len.ensures.looks.no_more x now in
    let tells = g.met.D.Disk.told old x before in
    let said = subst (λ (t : Slot). AnswersOpen (D.seen old (file_of t)) c.in_ok-open_len.field-0) c.other-beside.ensures (c.in_ok-open_len.ensures.open tells) in
    let shut : is_open (D.seen old (file_of (other s))) ≡ false = subst (λ (o : Option ℕ). AnswersOpen (D.seen old (file_of (other s))) o) c.in-None.is said in
    only_same s m (D.seen old) x (c.requires.alike x before) (record { here = current-here s (D.seen old) m is; none_else = shut })

pub returns-in_ok-close_gate-in-Some-clause-any_moment : goal.returns-in_ok-close_gate-in-Some-clause-any_moment
returns-in_ok-close_gate-in-Some-clause-any_moment g c =
    let D = g.D.Disk in
    let L = g.met.D.Disk in
    let t = c.other-beside.result in
    let old = c.args.disk.now in
    let mid = c.open_len.new.disk in
    let new = c.close_gate.new.disk in
    let start = no_step D.moment D.left_since D.may_leave L.counts_now L.only_now old (Keeps t) (keeps_refl t) in
    let read = then_no_more D.moment D.left_since D.may_leave L.counts_now L.only_now old old mid (From (D.may_leave old) (Keeps t)) start c.open_len.ensures.looks.time c.open_len.ensures.looks.no_more in
    let run = then_run D.moment D.left_since D.may_leave L.counts_now L.only_now old mid new (Keeps t) (Keeps t) (Keeps t) read c.close_gate.ensures.any_moment
    (λ d x k. k) (λ d y x i j k l. keeps_trans t d y x k l) in
    subst (λ (u : Slot). LeavesOnly D.moment D.left_since old new (From (D.may_leave old) (Keeps u))) c.other-beside.ensures run

pub returns-in_ok-close_gate-in-Some-clause-only : goal.returns-in_ok-close_gate-in-Some-clause-only
returns-in_ok-close_gate-in-Some-clause-only g c = λ m is x now.
    let D = g.D.Disk in
    let s = c.args.slot in
    let old = c.args.disk.now in
    let new = c.close_gate.new.disk in
    let tells = g.met.D.Disk.told new x now in
    let shuts = subst (λ (t : Slot). Sets (file_of t) (with_closed_gate (D.seen c.open_len.new.disk (file_of t))) (D.seen c.open_len.new.disk) (D.seen new)) c.other-beside.ensures (c.in_ok-close_gate-in-Some.ensures.reads tells) in
    let from = subst (λ (y : Contents). Sets (file_of (other s)) (with_closed_gate (y (file_of (other s)))) y (D.seen new)) c.open_len.ensures.looks.same_seen shuts in
    only_same s m (D.seen new) x (c.in_ok-close_gate-in-Some.ensures.synced x now) (shut_beside s m (D.seen old) (D.seen new) (current-here s (D.seen old) m is) from)

pub returns-in_ok-close_gate-in-Some-clause-seen : goal.returns-in_ok-close_gate-in-Some-clause-seen
returns-in_ok-close_gate-in-Some-clause-seen g c = λ tells.
    let D = g.D.Disk in
    let s = c.args.slot in
    let old = c.args.disk.now in
    let new = c.close_gate.new.disk in
    let held = c.requires.current (D.seen old) (g.met.D.Disk.honest old tells) in
    let shuts = subst (λ (t : Slot). Sets (file_of t) (with_closed_gate (D.seen c.open_len.new.disk (file_of t))) (D.seen c.open_len.new.disk) (D.seen new)) c.other-beside.ensures (c.in_ok-close_gate-in-Some.ensures.reads tells) in
    let from = subst (λ (y : Contents). Sets (file_of (other s)) (with_closed_gate (y (file_of (other s)))) y (D.seen new)) c.open_len.ensures.looks.same_seen shuts in
    closing_keeps (other s) (D.seen old) (D.seen new) (may_close_other s held.0 (D.seen old) held.1) from
