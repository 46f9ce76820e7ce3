use Rattle.std.proofs.Common.{◌∙◌, sym, arith, refl}
use Rattle.std.specs.Prelude.{IsTrue}
use Rattle.store.proofs.Building.{built_none}
use Rattle.store.proofs.Images.{further, nothing}
use Rattle.store.proofs.parts.put_parts.Goals as goal

pub loop-i-init : goal.loop-i-init
loop-i-init g c =
    let D = g.D.Disk in
    let L = g.met.D.Disk in
    record {
      built = built_none c.args.source.now c.args.intervals.now (IsTrue D.tells) (D.seen c.args.disk.now) (record { parts = c.new.result; map = c.in_ok-zero.field-0 }) c.new.ensures (c.in_ok-zero.ensures.counts c.args.intervals.now (sym c.len.ensures.len)) c.in_ok-zero.ensures.zero;
      within = omega arith;
      texts = λ tell. record { grammar = refl; edges = refl };
      any_moment = nothing D.seen D.moment D.left_since D.may_leave L.counts_now L.only_now c.args.disk.now;
      later = omega arith;
    }

pub returns-in_err-put_next-clause-any_moment : goal.returns-in_err-put_next-clause-any_moment
returns-in_err-put_next-clause-any_moment g c =
    let D = g.D.Disk in
    let L = g.met.D.Disk in
    further D.seen D.moment D.left_since D.may_leave L.counts_now L.only_now c.args.disk.now c.loop-i.disk c.put_next.new.disk c.loop-i.invariant.any_moment c.put_next.ensures.any_moment

pub loop-i-preserved : goal.loop-i-preserved
loop-i-preserved g c =
    let D = g.D.Disk in
    let L = g.met.D.Disk in
    let inv = c.loop-i.invariant in
    let e = c.in_ok-put_next.ensures in
    record {
      built = e.built;
      within = omega (arith, c.loop-i-test.true, c.len-i-end.ensures.len);
      texts = λ tell. record { grammar = (e.texts tell).grammar ∙ (inv.texts tell).grammar; edges = (e.texts tell).edges ∙ (inv.texts tell).edges };
      any_moment = further D.seen D.moment D.left_since D.may_leave L.counts_now L.only_now c.args.disk.now c.loop-i.disk c.put_next.new.disk inv.any_moment c.put_next.ensures.any_moment;
      later = omega (arith, inv.later, c.put_next.ensures.later);
    }
