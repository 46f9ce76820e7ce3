use Rattle.std.proofs.Common.{inl, ℕ, List, sym, ◌∙◌, subst}
use Rattle.disk_model.specs.Run.{then_run}
use Rattle.manifest_switch.specs.Slots.{file_of, IsClosedGate}
use Rattle.manifest_switch.specs.Steps.{Keeps, Opens, Switches}
use Rattle.manifest_switch.proofs.CodecLemmas.{says}
use Rattle.manifest_switch.proofs.SlotLemmas.{keeps_trans, keeps_stays}
use Rattle.manifest_switch.proofs.SwitchLemmas.{is_shut, is_ready, is_placed, switched}
use Rattle.manifest_switch.proofs.slot_switch.replace.Goals as goal

pub write_body-requires : goal.write_body-requires
write_body-requires g c = λ x now.
    let D = g.D.Disk in
    let s = c.args.slot in
    let mid = c.close_gate.new.disk in
    let tells = g.met.D.Disk.told mid x now in
    let is_body = says c.deref.result.now c.args.next.now c.spelling_is_read.ensures c.requires.fits (c.deref.ensures.value ∙ c.in_ok-body.ensures) in
    subst (λ (l : List ℕ). IsClosedGate l) (sym (c.in_ok-close_gate.ensures.synced x now (file_of s)))
    (is_shut s c.args.next.now c.deref.result.now is_body (D.seen c.args.disk.now) (D.seen mid) (D.seen mid) (D.seen mid) (c.in_ok-close_gate.ensures.reads tells))

pub returns-in_err-write_body-clause-any_moment : goal.returns-in_err-write_body-clause-any_moment
returns-in_err-write_body-clause-any_moment g c =
    let D = g.D.Disk in
    let L = g.met.D.Disk in
    let s = c.args.slot in
    let m = c.args.next.now in
    then_run D.moment D.left_since D.may_leave L.counts_now L.only_now c.args.disk.now c.close_gate.new.disk c.write_body.new.disk (Keeps s) (Keeps s) (Switches (D.seen c.args.disk.now) m) c.close_gate.ensures.any_moment c.write_body.ensures.any_moment
    (λ d x k. inl (keeps_stays s d x k)) (λ d y x i j k l. inl (keeps_stays s d x (keeps_trans s d y x k l)))

pub open_gate-requires : goal.open_gate-requires
open_gate-requires g c = λ x now.
    let D = g.D.Disk in
    let L = g.met.D.Disk in
    let old = c.args.disk.now in
    let new = c.write_body.new.disk in
    let tells = L.told new x now in
    let is_body = says c.deref.result.now c.args.next.now c.spelling_is_read.ensures c.requires.fits (c.deref.ensures.value ∙ c.in_ok-body.ensures) in
    is_ready c.args.slot c.args.next.now c.deref.result.now is_body (D.seen old) (D.seen c.close_gate.new.disk) (D.seen new) (D.seen new) x (c.in_ok-write_body.ensures.synced x now)
    (c.requires.follows (D.seen old) (L.honest old tells)) (c.in_ok-close_gate.ensures.reads tells) (c.in_ok-write_body.ensures.reads tells)

pub returns-in_err-open_gate-clause-any_moment : goal.returns-in_err-open_gate-clause-any_moment
returns-in_err-open_gate-clause-any_moment g c =
    let D = g.D.Disk in
    let L = g.met.D.Disk in
    let s = c.args.slot in
    let m = c.args.next.now in
    let old = c.args.disk.now in
    let mid = c.close_gate.new.disk in
    let new = c.write_body.new.disk in
    let is_body = says c.deref.result.now m c.spelling_is_read.ensures c.requires.fits (c.deref.ensures.value ∙ c.in_ok-body.ensures) in
    let so_far = then_run D.moment D.left_since D.may_leave L.counts_now L.only_now old mid new (Keeps s) (Keeps s) (Keeps s) c.close_gate.ensures.any_moment c.write_body.ensures.any_moment
    (λ d x k. k) (λ d y x i j k l. keeps_trans s d y x k l) in
    then_run D.moment D.left_since D.may_leave L.counts_now L.only_now old new c.open_gate.new.disk (Keeps s) (Opens s) (Switches (D.seen c.args.disk.now) m) so_far c.open_gate.ensures.any_moment
    (λ d x k. inl (keeps_stays s d x k)) (λ d y x i j k o.
    let tells = L.told new y j in
    switched s m c.deref.result.now is_body (D.seen old) (D.seen mid) (D.seen new) (D.seen new) d y x (c.in_ok-write_body.ensures.synced y j) (c.in_ok-close_gate.ensures.reads tells) (c.in_ok-write_body.ensures.reads tells) k o)

pub returns-clause-any_moment : goal.returns-clause-any_moment
returns-clause-any_moment g c =
    let D = g.D.Disk in
    let L = g.met.D.Disk in
    let s = c.args.slot in
    let m = c.args.next.now in
    let old = c.args.disk.now in
    let mid = c.close_gate.new.disk in
    let new = c.write_body.new.disk in
    let is_body = says c.deref.result.now m c.spelling_is_read.ensures c.requires.fits (c.deref.ensures.value ∙ c.in_ok-body.ensures) in
    let so_far = then_run D.moment D.left_since D.may_leave L.counts_now L.only_now old mid new (Keeps s) (Keeps s) (Keeps s) c.close_gate.ensures.any_moment c.write_body.ensures.any_moment
    (λ d x k. k) (λ d y x i j k l. keeps_trans s d y x k l) in
    then_run D.moment D.left_since D.may_leave L.counts_now L.only_now old new c.open_gate.new.disk (Keeps s) (Opens s) (Switches (D.seen c.args.disk.now) m) so_far c.open_gate.ensures.any_moment
    (λ d x k. inl (keeps_stays s d x k)) (λ d y x i j k o.
    let tells = L.told new y j in
    switched s m c.deref.result.now is_body (D.seen old) (D.seen mid) (D.seen new) (D.seen new) d y x (c.in_ok-write_body.ensures.synced y j) (c.in_ok-close_gate.ensures.reads tells) (c.in_ok-write_body.ensures.reads tells) k o)

pub returns-clause-reads : goal.returns-clause-reads
returns-clause-reads g c = λ tells.
    let D = g.D.Disk in
    let is_body = says c.deref.result.now c.args.next.now c.spelling_is_read.ensures c.requires.fits (c.deref.ensures.value ∙ c.in_ok-body.ensures) in
    is_placed c.args.slot c.args.next.now c.deref.result.now is_body (D.seen c.args.disk.now) (D.seen c.close_gate.new.disk) (D.seen c.write_body.new.disk) (D.seen c.open_gate.new.disk)
    (c.in_ok-close_gate.ensures.reads tells) (c.in_ok-write_body.ensures.reads tells) (c.in_ok-open_gate.ensures.reads tells)
