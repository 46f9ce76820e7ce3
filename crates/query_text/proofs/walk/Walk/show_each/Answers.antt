use Rattle.std.proofs.Common.{◌≡◌, ℕ, [], ◌++◌, ◌+◌, ◌-◌, arith}
use Rattle.disk_model.proofs.Looks.{looks_same, looks_then}
use Rattle.query_text.specs.Answered.{IsBlamed}
use Rattle.query_text.proofs.Showing.{cause_handed_on, gathered_fits, gathered_none, handed_on, walk_blames, walk_failed, walk_on}
use Rattle.query_text.proofs.walk.Walk.show_each.Goals as goal

pub loop-i-init : goal.loop-i-init
loop-i-init g c =
    let D = g.D.Disk in
    let told = g.O.Sink.told in
    let none : c.args.self.now.first - c.args.self.now.first ≡ 0 = omega arith in
    record {
      gathered = ([], rw none (gathered_none c.args.self.now.store.now D.tells (D.seen c.args.disk.now) c.args.self.now.show c.args.self.now.first (told c.args.sink.now) c.args.page.now (omega (arith, c.requires.order, c.requires.there))));
      from = omega arith;
      within = c.requires.order;
      looks = looks_same;
      writes = omega arith;
    }

pub returns-in_err-shown-clause-gathered : goal.returns-in_err-shown-clause-gathered
returns-in_err-shown-clause-gathered g c =
    let D = g.D.Disk in
    let told = g.O.Sink.told in
    let f = c.in_err-shown.field-0.0 in
    let r = c.from_residual.result in
    let inv = c.loop-i.invariant in
    let next = c.in_err-shown.ensures.gathered in (
      inv.gathered.0 ++ next.0,
      walk_failed c.args.self.now.store.now D.tells c.args.self.now.show (D.seen c.args.disk.now) (D.seen c.loop-i.disk) c.args.self.now.first c.loop-i.i c.args.self.now.end c.loop-i.shown f (told c.args.sink.now) (told c.loop-i.sink) (told c.show_part.new.sink) c.args.page.now c.loop-i.page c.show_part.new.page inv.gathered.0 next.0 r inv.looks.same_seen inv.from c.loop-i-test.true (handed_on ℕ r f c.from_residual.ensures.1) inv.gathered.1 next.1,
    )

pub returns-in_err-shown-clause-cause : goal.returns-in_err-shown-clause-cause
returns-in_err-shown-clause-cause g c =
    let D = g.D.Disk in
    let faults = g.O.Sink.faults in
    let f = c.in_err-shown.field-0.0 in
    let r = c.from_residual.result in
    let inv = c.loop-i.invariant in
    let s = c.args.self.now.store.now in
    cause_handed_on (faults c.args.sink.now) (faults c.loop-i.sink) (faults c.show_part.new.sink) (D.faults c.args.disk.now) (D.faults c.loop-i.disk) (D.faults c.show_part.new.disk) (IsBlamed s D.tells (D.seen c.loop-i.disk) c.loop-i.i 1) (IsBlamed s D.tells (D.seen c.args.disk.now) c.args.self.now.first (c.args.self.now.end - c.args.self.now.first)) ℕ f r (handed_on ℕ r f c.from_residual.ensures.1) inv.writes inv.looks.later
    (λ file place kind b. walk_blames s D.tells c.args.self.now.show (D.seen c.args.disk.now) (D.seen c.loop-i.disk) c.args.self.now.first c.loop-i.i c.args.self.now.end file place kind inv.gathered.0 inv.looks.same_seen inv.from c.loop-i-test.true inv.gathered.1.are_read inv.gathered.1.all b)
    c.in_err-shown.ensures.cause

pub overflow_add-shown : goal.overflow_add-shown
overflow_add-shown g c =
    let D = g.D.Disk in
    let told = g.O.Sink.told in
    let inv = c.loop-i.invariant in
    let next = c.in_ok-shown.ensures.gathered in
    let s = c.args.self.now.store.now in
    let all = walk_on s D.tells c.args.self.now.show (D.seen c.args.disk.now) (D.seen c.loop-i.disk) c.args.self.now.first c.loop-i.i c.loop-i.shown c.in_ok-shown.field-0 (told c.args.sink.now) (told c.loop-i.sink) (told c.show_part.new.sink) c.args.page.now c.loop-i.page c.show_part.new.page inv.gathered.0 next.0 inv.looks.same_seen inv.from inv.gathered.1 next.1 in
    omega (arith, gathered_fits s D.tells (D.seen c.args.disk.now) c.args.self.now.show c.requires.open c.args.self.now.first (c.loop-i.i + 1 - c.args.self.now.first) (c.loop-i.shown + c.in_ok-shown.field-0) (told c.args.sink.now) (told c.show_part.new.sink) c.args.page.now c.show_part.new.page (inv.gathered.0 ++ next.0) all)

pub loop-i-preserved : goal.loop-i-preserved
loop-i-preserved g c =
    let D = g.D.Disk in
    let told = g.O.Sink.told in
    let inv = c.loop-i.invariant in
    let e = c.in_ok-shown.ensures in
    let next = e.gathered in
    let s = c.args.self.now.store.now in
    record {
      gathered = (inv.gathered.0 ++ next.0, walk_on s D.tells c.args.self.now.show (D.seen c.args.disk.now) (D.seen c.loop-i.disk) c.args.self.now.first c.loop-i.i c.loop-i.shown c.in_ok-shown.field-0 (told c.args.sink.now) (told c.loop-i.sink) (told c.show_part.new.sink) c.args.page.now c.loop-i.page c.show_part.new.page inv.gathered.0 next.0 inv.looks.same_seen inv.from inv.gathered.1 next.1);
      from = omega (arith, inv.from);
      within = omega (arith, c.loop-i-test.true);
      looks = looks_then inv.looks e.looks;
      writes = omega (arith, inv.writes, e.writes);
    }
