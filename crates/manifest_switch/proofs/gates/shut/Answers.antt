use Rattle.std.proofs.Common.{◌≡◌, ℕ, sym, ◌∙◌, subst}
use Rattle.std.specs.Prelude.{true}
use Rattle.disk_model.specs.Disk.{Contents, TornIn}
use Rattle.disk_model.specs.Crash.{From}
use Rattle.disk_model.specs.Run.{started, goes_on}
use Rattle.manifest_switch.specs.Slots.{file_of, is_loose}
use Rattle.manifest_switch.specs.Steps.{Keeps}
use Rattle.manifest_switch.proofs.SlotLemmas.{keeps_refl, close_step}
use Rattle.manifest_switch.proofs.gates.shut.Goals as goal

pub returns-clause-any_moment : goal.returns-clause-any_moment
returns-clause-any_moment g c =
    let D = g.D.Disk in
    let old = c.args.disk.now in
    let mid = c.is_loose.new.disk in
    let s = c.args.slot in
    let P = From (D.may_leave old) (Keeps s) in
    let h = c.in_ok-is_loose.ensures in
    let at_start = started D.moment D.left_since old P (λ x left. (x, g.met.D.Disk.only_now old x left, keeps_refl s x)) in
    let read = goes_on D.moment D.left_since old old mid P _ at_start h.looks.time (λ x now. (x, h.looks.no_more x now, keeps_refl s x)) in
    goes_on D.moment D.left_since old mid c.write_at.new.self P _ read c.write_at.ensures.time (λ x now.
    let from = c.write_at.ensures.crash x now in
    let tells = g.met.D.Disk.told mid from.0 from.1 in
    let loose : is_loose (D.seen mid (file_of s)) ≡ true =
    subst (λ (y : Contents). is_loose (y (file_of s)) ≡ true) (sym h.looks.same_seen) (sym (h.loose tells) ∙ c.if-not-branch.false) in
    let torn : TornIn (file_of s) 0 1 from.0 x = subst (λ (f : ℕ). TornIn f 0 1 from.0 x) c.file.ensures.number from.2 in
    let step = close_step s (D.may_leave mid) (D.seen mid) from.0 x (g.met.D.Disk.honest mid tells) from.1 (g.met.D.Disk.mixes mid) (λ y now_y. c.requires y (h.looks.no_more y now_y)) loose torn in
    (step.0, h.looks.no_more step.0 step.1, step.2))
