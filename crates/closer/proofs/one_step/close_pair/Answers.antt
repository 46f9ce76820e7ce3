use Rattle.std.proofs.Common.{◌≤◌, arith, sym, subst}
use Rattle.disk_model.specs.Disk.{Contents}
use Rattle.manifest_codec.specs.declared.types.Manifest.{Manifest}
use Rattle.disk_model.specs.Run.{if_ok}
use Rattle.open_store.proofs.Causes.{handed}
use Rattle.closer.specs.NextManifest.{ArePut, IsLeastMarkIn, IsNextManifest, MayPutPair}
use Rattle.closer.proofs.Closings.{blamed_turned, cause_more, high_within}
use Rattle.closer.proofs.Images.{further, looked}
use Rattle.closer.proofs.Nexting.{may_put_pair}
use Rattle.closer.proofs.one_step.close_pair.Goals as goal

pub load_pair-requires : goal.load_pair-requires
load_pair-requires g c =
    let o = c.in_order-low.ensures in
    record { low = o.0; high = high_within c.args.i c.args.j c.in_order-low.result.0 c.in_order-low.result.1 _ o c.requires.i c.requires.j }

pub run_loaded-requires : goal.run_loaded-requires
run_loaded-requires g c = (c.in_order-low.result.0, c.in_order-low.result.1, c.in_ok-first.ensures.loaded)

pub put_pair-requires : goal.put_pair-requires
put_pair-requires g c =
    let D = g.D.Disk in
    let s = c.args.store.now in
    let low = c.in_order-low.result.0 in
    let high = c.in_order-low.result.1 in
    let ran = c.in_ok-ran.ran in
    record {
      may = subst (λ (x : Contents). MayPutPair s D.tells x low high ran.low ran.high c.in_ok-next.next) (sym c.load_pair.ensures.looks.same_seen)
          (may_put_pair s c.marked.ensures.store.fits c.args.i c.args.j ran.rounds c.in_ok-next.next c.in_ok-next.ensures.marked D.tells (D.seen c.args.disk.now) c.least_mark-since.result low high c.in_ok-first.first c.in_ok-first.second ran.low ran.high c.in_ok-first.ensures.loaded c.in_ok-first.ensures.spelled c.in_ok-ran.ensures);
    }

pub returns-clause-next : goal.returns-clause-next
returns-clause-next g c =
    let D = g.D.Disk in
    let s = c.args.store.now in
    let low = c.in_order-low.result.0 in
    let high = c.in_order-low.result.1 in
    let ran = c.in_ok-ran.ran in
    if_ok _ (IsNextManifest s D.tells (D.seen c.args.disk.now) (D.seen c.put_pair.new.disk) c.args.i c.args.j) c.put_pair.result
    (λ next put. record {
      low = low;
      high = high;
      in_order = c.in_order-low.ensures;
      p = c.in_ok-first.first;
      q = c.in_ok-first.second;
      p' = ran.low;
      q' = ran.high;
      k = ran.rounds;
      start = c.in_ok-next.next;
      since = c.least_mark-since.result;
      least = subst (λ (m : Manifest). IsLeastMarkIn m c.args.i c.args.j c.least_mark-since.result) c.manifest.ensures.manifest c.least_mark-since.ensures;
      loaded = c.in_ok-first.ensures.loaded;
      spelled = c.in_ok-first.ensures.spelled;
      run = c.in_ok-ran.ensures;
      marked = c.in_ok-next.ensures.marked;
      put = subst (λ (x : Contents). ArePut s.manifest D.tells low high ran.low ran.high c.in_ok-next.next x next (D.seen c.put_pair.new.disk)) c.load_pair.ensures.looks.same_seen put;
    })
    c.put_pair.ensures.put

pub returns-clause-any_moment : goal.returns-clause-any_moment
returns-clause-any_moment g c =
    let D = g.D.Disk in
    let L = g.met.D.Disk in
    let m = c.args.store.now.manifest in
    further D.seen D.moment D.left_since D.may_leave L.counts_now L.only_now m c.args.disk.now c.load_pair.new.disk c.put_pair.new.disk (looked D.seen D.moment D.left_since D.may_leave L.counts_now L.only_now m c.args.disk.now c.load_pair.new.disk c.load_pair.ensures.looks.time c.load_pair.ensures.looks.no_more) c.put_pair.ensures.any_moment

pub returns-clause-cause : goal.returns-clause-cause
returns-clause-cause g c =
    let D = g.D.Disk in
    cause_more (D.faults c.args.disk.now) (D.faults c.load_pair.new.disk) (D.faults c.put_pair.new.disk) _ _ c.put_pair.result c.load_pair.ensures.looks.later (λ f p k none. absurd none) c.put_pair.ensures.cause

pub returns-in_err-ran-clause-any_moment : goal.returns-in_err-ran-clause-any_moment
returns-in_err-ran-clause-any_moment g c =
    let D = g.D.Disk in
    let L = g.met.D.Disk in
    looked D.seen D.moment D.left_since D.may_leave L.counts_now L.only_now c.args.store.now.manifest c.args.disk.now c.load_pair.new.disk c.load_pair.ensures.looks.time c.load_pair.ensures.looks.no_more

pub returns-in_err-next-clause-any_moment : goal.returns-in_err-next-clause-any_moment
returns-in_err-next-clause-any_moment g c =
    let D = g.D.Disk in
    let L = g.met.D.Disk in
    looked D.seen D.moment D.left_since D.may_leave L.counts_now L.only_now c.args.store.now.manifest c.args.disk.now c.load_pair.new.disk c.load_pair.ensures.looks.time c.load_pair.ensures.looks.no_more

pub returns-in_err-first-clause-any_moment : goal.returns-in_err-first-clause-any_moment
returns-in_err-first-clause-any_moment g c =
    let D = g.D.Disk in
    let L = g.met.D.Disk in
    looked D.seen D.moment D.left_since D.may_leave L.counts_now L.only_now c.args.store.now.manifest c.args.disk.now c.load_pair.new.disk c.load_pair.ensures.looks.time c.load_pair.ensures.looks.no_more

pub returns-in_err-first-clause-cause : goal.returns-in_err-first-clause-cause
returns-in_err-first-clause-cause g c =
    let D = g.D.Disk in
    let le : D.faults c.args.disk.now ≤ D.faults c.args.disk.now = omega arith in
    handed (D.faults c.args.disk.now) (D.faults c.args.disk.now) (D.faults c.load_pair.new.disk) _ _ c.load_pair.result c.from_residual.result c.in_err-first.field-0.0 c.in_err-first.was c.from_residual.ensures.1 le
    (λ f p k b. blamed_turned c.args.store.now D.tells (D.seen c.args.disk.now) c.args.i c.args.j c.in_order-low.result.0 c.in_order-low.result.1 f p k c.in_order-low.ensures b) c.load_pair.ensures.cause
