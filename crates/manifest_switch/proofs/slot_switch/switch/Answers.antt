use Rattle.std.proofs.Common.{◌≡◌, sym, subst, false}
use Rattle.disk_model.specs.Disk.{Sets}
use Rattle.disk_model.specs.Run.{then_run}
use Rattle.manifest_switch.specs.Slots.{file_of, other, is_open, with_closed_gate, HasOnly}
use Rattle.manifest_switch.specs.Steps.{Keeps, MayClose, Succeeds, Switches, IsPlaced, IsSwitched}
use Rattle.manifest_switch.specs.declared.slot.Slot.{Slot}
use Rattle.manifest_switch.specs.declared.slot.Slot.TheVariants.{Zero}
use Rattle.manifest_switch.proofs.SlotLemmas.{other_twice, switches_keeps}
use Rattle.manifest_switch.proofs.SwitchLemmas.{beside_only, may_close, switched_from, switched_first, only_same}
use Rattle.manifest_switch.proofs.slot_switch.switch.Goals as goal

pub replace-requires-in-Some-clause-closed : goal.replace-requires-in-Some-clause-closed
replace-requires-in-Some-clause-closed g c = λ x now.
    let s = c.in-Some.old in
    let only = c.requires.only s c.in-Some.is x now in
    subst (λ (t : Slot). is_open (x (file_of t)) ≡ false) (sym c.other.ensures) (beside_only s only.0 c.args.next.now x only.1 only.2).0

pub replace-requires-in-Some-clause-follows : goal.replace-requires-in-Some-clause-follows
replace-requires-in-Some-clause-follows g c = λ x now.
    let s = c.in-Some.old in
    let m = c.args.next.now in
    let only = c.requires.only s c.in-Some.is x now in
    subst (λ (t : Slot). Succeeds t m x) (sym c.other.ensures) (beside_only s only.0 m x only.1 only.2).1

pub close_gate-requires : goal.close_gate-requires
close_gate-requires g c = λ x now.
    let D = g.D.Disk in
    let L = g.met.D.Disk in
    let s = c.in-Some.old in
    let m = c.args.next.now in
    let old = c.args.disk.now in
    let mid = c.replace-in-Some.new.disk in
    let tells = L.told mid x now in
    let only = c.requires.only s c.in-Some.is (D.seen old) (L.honest old tells) in
    let placed = subst (λ (t : Slot). IsPlaced t m (D.seen old) (D.seen mid)) c.other.ensures (c.in_ok-replace-in-Some.ensures.reads tells) in
    subst (λ (t : Slot). MayClose t x) (other_twice s) (may_close (other s) m (D.seen old) (D.seen mid) placed x (c.in_ok-replace-in-Some.ensures.synced x now) (beside_only s only.0 m (D.seen old) only.1 only.2).1)

pub returns-in_err-close_gate-in-Some-clause-any_moment : goal.returns-in_err-close_gate-in-Some-clause-any_moment
returns-in_err-close_gate-in-Some-clause-any_moment g c =
    let D = g.D.Disk in
    let L = g.met.D.Disk in
    let s = c.in-Some.old in
    let m = c.args.next.now in
    then_run D.moment D.left_since D.may_leave L.counts_now L.only_now c.args.disk.now c.replace-in-Some.new.disk c.close_gate.new.disk (Switches (D.seen c.args.disk.now) m) (Keeps s) (Switches (D.seen c.args.disk.now) m) c.replace-in-Some.ensures.any_moment c.close_gate.ensures.any_moment
    (λ d x w. w) (λ d y x i j w k. switches_keeps s m (D.seen c.args.disk.now) d y x w k)

pub returns-in_ok-replace-in-None-clause-reads : goal.returns-in_ok-replace-in-None-clause-reads
returns-in_ok-replace-in-None-clause-reads g c = λ tells.
    let D = g.D.Disk in
    let old = c.args.disk.now in
    let blank = c.requires.blank c.in-None.is (D.seen old) (g.met.D.Disk.honest old tells) in
    switched_first Zero c.args.next.now (D.seen old) (D.seen c.replace.new.disk) (c.in_ok-replace-in-None.ensures.reads tells) blank.second

pub returns-in_ok-replace-in-None-clause-done : goal.returns-in_ok-replace-in-None-clause-done
returns-in_ok-replace-in-None-clause-done g c = λ x now.
    let D = g.D.Disk in
    let m = c.args.next.now in
    let old = c.args.disk.now in
    let new = c.replace.new.disk in
    let tells = g.met.D.Disk.told new x now in
    let blank = c.requires.blank c.in-None.is (D.seen old) (g.met.D.Disk.honest old tells) in
    only_same Zero m (D.seen new) x (c.in_ok-replace-in-None.ensures.synced x now) (switched_first Zero m (D.seen old) (D.seen new) (c.in_ok-replace-in-None.ensures.reads tells) blank.second).only

pub returns-in_ok-close_gate-in-Some-clause-any_moment : goal.returns-in_ok-close_gate-in-Some-clause-any_moment
returns-in_ok-close_gate-in-Some-clause-any_moment g c =
    let D = g.D.Disk in
    let L = g.met.D.Disk in
    let s = c.in-Some.old in
    let m = c.args.next.now in
    then_run D.moment D.left_since D.may_leave L.counts_now L.only_now c.args.disk.now c.replace-in-Some.new.disk c.close_gate.new.disk (Switches (D.seen c.args.disk.now) m) (Keeps s) (Switches (D.seen c.args.disk.now) m) c.replace-in-Some.ensures.any_moment c.close_gate.ensures.any_moment
    (λ d x w. w) (λ d y x i j w k. switches_keeps s m (D.seen c.args.disk.now) d y x w k)

pub returns-in_ok-close_gate-in-Some-clause-reads : goal.returns-in_ok-close_gate-in-Some-clause-reads
returns-in_ok-close_gate-in-Some-clause-reads g c = λ tells.
    let D = g.D.Disk in
    let s = c.in-Some.old in
    let m = c.args.next.now in
    let old = c.args.disk.now in
    let mid = c.replace-in-Some.new.disk in
    let new = c.close_gate.new.disk in
    let placed = subst (λ (t : Slot). IsPlaced t m (D.seen old) (D.seen mid)) c.other.ensures (c.in_ok-replace-in-Some.ensures.reads tells) in
    let shuts = subst (λ (t : Slot). Sets (file_of t) (with_closed_gate (D.seen mid (file_of t))) (D.seen mid) (D.seen new)) (sym (other_twice s)) (c.in_ok-close_gate-in-Some.ensures.reads tells) in
    subst (λ (t : Slot). IsSwitched t m (D.seen old) (D.seen new)) (sym c.other-in-Some.ensures) (switched_from (other s) m (D.seen old) (D.seen mid) placed (D.seen new) shuts)

pub returns-in_ok-close_gate-in-Some-clause-done : goal.returns-in_ok-close_gate-in-Some-clause-done
returns-in_ok-close_gate-in-Some-clause-done g c = λ x now.
    let D = g.D.Disk in
    let s = c.in-Some.old in
    let m = c.args.next.now in
    let old = c.args.disk.now in
    let mid = c.replace-in-Some.new.disk in
    let new = c.close_gate.new.disk in
    let tells = g.met.D.Disk.told new x now in
    let placed = subst (λ (t : Slot). IsPlaced t m (D.seen old) (D.seen mid)) c.other.ensures (c.in_ok-replace-in-Some.ensures.reads tells) in
    let shuts = subst (λ (t : Slot). Sets (file_of t) (with_closed_gate (D.seen mid (file_of t))) (D.seen mid) (D.seen new)) (sym (other_twice s)) (c.in_ok-close_gate-in-Some.ensures.reads tells) in
    let switched = switched_from (other s) m (D.seen old) (D.seen mid) placed (D.seen new) shuts in
    subst (λ (t : Slot). HasOnly t m x) (sym c.other-in-Some.ensures) (only_same (other s) m (D.seen new) x (c.in_ok-close_gate-in-Some.ensures.synced x now) switched.only)
