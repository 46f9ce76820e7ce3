use Rattle.std.proofs.Common.{◌≡◌, ℕ, List, refl, sym, ap, subst, ◌∙◌, arith}
use Rattle.disk_model.specs.Disk.{Contents}
use Rattle.store_law.proofs.Moments.{keeps_here, keeps_switching}
use Rattle.open_store.specs.Store.{OpenStore}
use Rattle.open_store.specs.Copy.{IsCopyRead}
use Rattle.open_store.proofs.Copies.{next_copy}
use Rattle.open_store.proofs.store.Store.commit.Goals as goal

pub returns-clause-held : goal.returns-clause-held
returns-clause-held g c = λ image now.
    let D = g.D.Disk in
    let L = g.met.D.Disk in
    let tells = L.told c.switch.new.disk image now in
    let switched = c.in_ok-slot.ensures.reads tells in
    let same : image 2 ≡ D.seen c.args.disk.now 2 = c.in_ok-slot.ensures.synced image now 2 ∙ switched.others 2 (omega arith) (omega arith) in
    let old = c.requires.held (D.seen c.args.disk.now) (L.honest c.args.disk.now tells) in
    record {
      only = c.in_ok-slot.ensures.done image now;
      grammar = next_copy c.args.self.manifest c.args.next (D.seen c.args.disk.now 2) (image 2) _ same c.requires.grammar c.requires.labels
          (subst (IsCopyRead c.args.self.manifest (D.seen c.args.disk.now 2)) (sym (ap (λ (x : OpenStore). x.rules) c.self.view_is)) old.grammar);
    }

pub returns-in_err-intervals-clause-stores : goal.returns-in_err-intervals-clause-stores
returns-in_err-intervals-clause-stores g c = λ t parts store.
    let L = g.met.D.Disk in
    keeps_here g.D.Disk L.counts_now L.only_now L.honest c.args.disk.now t _

pub returns-in_err-slot-clause-stores : goal.returns-in_err-slot-clause-stores
returns-in_err-slot-clause-stores g c = λ t parts store.
    let L = g.met.D.Disk in
    keeps_switching g.D.Disk L.counts_now L.only_now L.honest c.args.disk.now c.switch.new.disk t c.args.next parts store c.switch.ensures.any_moment

pub returns-clause-stores : goal.returns-clause-stores
returns-clause-stores g c = λ t parts store.
    let L = g.met.D.Disk in
    keeps_switching g.D.Disk L.counts_now L.only_now L.honest c.args.disk.now c.switch.new.disk t c.args.next parts store c.switch.ensures.any_moment
