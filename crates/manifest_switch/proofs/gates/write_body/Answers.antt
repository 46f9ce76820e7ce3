use Rattle.std.proofs.Common.{ℕ, length, subst}
use Rattle.disk_model.specs.Disk.{TornIn}
use Rattle.disk_model.specs.Crash.{From}
use Rattle.disk_model.specs.Run.{one_step, then_no_more}
use Rattle.manifest_switch.specs.Steps.{Keeps}
use Rattle.manifest_switch.proofs.SlotLemmas.{keeps_refl, body_step}
use Rattle.manifest_switch.proofs.gates.write_body.Goals as goal

pub returns-in_err-write_at-clause-any_moment : goal.returns-in_err-write_at-clause-any_moment
returns-in_err-write_at-clause-any_moment g c =
    let D = g.D.Disk in
    let L = g.met.D.Disk in
    let s = c.args.slot in
    let n = length c.args.body.now in
    one_step D.moment D.left_since D.may_leave L.counts_now L.only_now c.args.disk.now c.write_at.new.self (Keeps s) (TornIn c.file.result 1 n) (keeps_refl s) c.write_at.ensures.time c.write_at.ensures.crash
    (λ d x image torn. body_step s n d x (c.requires d image) (subst (λ (f : ℕ). TornIn f 1 n d x) c.file.ensures.number torn))

pub returns-clause-any_moment : goal.returns-clause-any_moment
returns-clause-any_moment g c =
    let D = g.D.Disk in
    let L = g.met.D.Disk in
    let s = c.args.slot in
    let n = length c.args.body.now in
    let run = one_step D.moment D.left_since D.may_leave L.counts_now L.only_now c.args.disk.now c.write_at.new.self (Keeps s) (TornIn c.file.result 1 n) (keeps_refl s) c.write_at.ensures.time c.write_at.ensures.crash
    (λ d x image torn. body_step s n d x (c.requires d image) (subst (λ (f : ℕ). TornIn f 1 n d x) c.file.ensures.number torn)) in
    then_no_more D.moment D.left_since D.may_leave L.counts_now L.only_now c.args.disk.now c.write_at.new.self c.sync.new.self (From (D.may_leave c.args.disk.now) (Keeps s)) run c.sync.ensures.time c.sync.ensures.crash
