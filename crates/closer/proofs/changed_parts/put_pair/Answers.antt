use Rattle.std.proofs.Common.{arith, subst, Option}
use Rattle.partition_file.specs.Spelling.{Part}
use Rattle.closer.specs.NextManifest.{MayPutPair}
use Rattle.closer.proofs.Images.{further}
use Rattle.closer.proofs.PutLemmas.{may_put_then, put_two}
use Rattle.closer.proofs.changed_parts.put_pair.Goals as goal

pub put_changed-requires-in-Some : goal.put_changed-requires-in-Some
put_changed-requires-in-Some g c =
    let D = g.D.Disk in
    let s = c.args.store.now in
    let ran = c.args.ran.now in
    let may = subst (λ (h : Option Part). MayPutPair s D.tells (D.seen c.args.disk.now) c.args.pair.0 c.args.pair.1 ran.low h c.args.next) c.in-Some.is c.requires.may in
    let apart = may.0 in
    record {
      may = may_put_then s D.tells (D.seen c.args.disk.now) (D.seen c.put_changed.new.disk) c.args.pair.0 c.args.pair.1 ran.low c.in-Some.part c.args.next c.in_ok-next.next (λ same. omega (arith, apart, same)) may.2 c.in_ok-next.ensures.takes c.in_ok-next.ensures.puts;
    }

pub returns-in-Some-clause-put : goal.returns-in-Some-clause-put
returns-in-Some-clause-put g c =
    let D = g.D.Disk in
    let ran = c.args.ran.now in
    put_two c.args.store.now.manifest D.tells c.args.pair.0 c.args.pair.1 ran.low c.in-Some.part ran.high c.args.next c.in_ok-next.next (D.seen c.args.disk.now) (D.seen c.put_changed.new.disk) (D.seen c.put_changed-in-Some.new.disk) c.put_changed-in-Some.result c.in-Some.is c.in_ok-next.ensures.takes c.in_ok-next.ensures.puts c.put_changed-in-Some.ensures.takes c.put_changed-in-Some.ensures.puts

pub returns-in-Some-clause-any_moment : goal.returns-in-Some-clause-any_moment
returns-in-Some-clause-any_moment g c =
    let D = g.D.Disk in
    let L = g.met.D.Disk in
    further D.seen D.moment D.left_since D.may_leave L.counts_now L.only_now c.args.store.now.manifest c.args.disk.now c.put_changed.new.disk c.put_changed-in-Some.new.disk c.put_changed.ensures.any_moment c.put_changed-in-Some.ensures.any_moment
