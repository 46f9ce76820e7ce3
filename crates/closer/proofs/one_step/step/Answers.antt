use Rattle.std.proofs.Common.{◌≤◌, arith, refl}
use Rattle.closer.proofs.Closings.{blamed_pick, clean, goes_on, labels_begin, picked, same_size, stepped}
use Rattle.open_store.proofs.Causes.{handed}
use Rattle.closer.proofs.Ending.{outcome}
use Rattle.closer.proofs.Keeping.{keeps_moving}
use Rattle.closer.proofs.Images.{held_then, lefts_held, nothing, step_before, step_then}
use Rattle.closer.proofs.one_step.step.Goals as goal

pub pick-requires : goal.pick-requires
pick-requires g c = same_size c.manifest-manifest.result.now c.args.store.manifest c.manifest-manifest.ensures.manifest c.manifest-manifest.ensures.store.fits

pub close_pair-requires : goal.close_pair-requires
close_pair-requires g c =
    let pick = picked c.manifest-manifest.result.now c.args.store.manifest c.in-Some.i c.in-Some.j c.manifest-manifest.ensures.manifest c.manifest-manifest.ensures.store.fits c.in-Some.ensures.some in
    record { i = pick.first_below; j = pick.second_below; some = pick.dirty.0 }

pub commit-requires-clause-fits : goal.commit-requires-clause-fits
commit-requires-clause-fits g c =
    let D = g.D.Disk in
    (outcome c.args.store D.tells (D.seen c.args.disk.now) (D.seen c.close_pair.new.disk) c.in-Some.i c.in-Some.j c.in_ok-next.next c.manifest-manifest.ensures.store c.in_ok-next.ensures.next).fits

pub commit-requires-clause-held : goal.commit-requires-clause-held
commit-requires-clause-held g c =
    let D = g.D.Disk in
    let L = g.met.D.Disk in
    held_then D.seen D.moment D.left_since D.may_leave L.counts_now L.only_now c.args.store c.args.disk.now c.close_pair.new.disk c.close_pair.ensures.any_moment c.requires.held

pub commit-requires-clause-generation : goal.commit-requires-clause-generation
commit-requires-clause-generation g c =
    let D = g.D.Disk in
    (outcome c.args.store D.tells (D.seen c.args.disk.now) (D.seen c.close_pair.new.disk) c.in-Some.i c.in-Some.j c.in_ok-next.next c.manifest-manifest.ensures.store c.in_ok-next.ensures.next).turns.generation

pub commit-requires-clause-grammar : goal.commit-requires-clause-grammar
commit-requires-clause-grammar g c =
    let D = g.D.Disk in
    (outcome c.args.store D.tells (D.seen c.args.disk.now) (D.seen c.close_pair.new.disk) c.in-Some.i c.in-Some.j c.in_ok-next.next c.manifest-manifest.ensures.store c.in_ok-next.ensures.next).turns.same.grammar_len

pub commit-requires-clause-labels : goal.commit-requires-clause-labels
commit-requires-clause-labels g c =
    let D = g.D.Disk in
    labels_begin c.args.store.manifest c.in_ok-next.next (outcome c.args.store D.tells (D.seen c.args.disk.now) (D.seen c.close_pair.new.disk) c.in-Some.i c.in-Some.j c.in_ok-next.next c.manifest-manifest.ensures.store c.in_ok-next.ensures.next).turns.same.labels

pub returns-clause-again : goal.returns-clause-again
returns-clause-again g c =
    let D = g.D.Disk in
    let L = g.met.D.Disk in
    let s = c.args.store in
    let old = D.seen c.args.disk.now in
    let pick = picked c.manifest-manifest.result.now s.manifest c.in-Some.i c.in-Some.j c.manifest-manifest.ensures.manifest c.manifest-manifest.ensures.store.fits c.in-Some.ensures.some in
    let e = c.in_ok-after.ensures in
    stepped s c.manifest-manifest.ensures.store D.tells old (D.seen c.close_pair.new.disk) c.in-Some.i c.in-Some.j c.in_ok-next.next c.in_ok-next.ensures.next (λ tell. lefts_held s old (c.requires.held old (L.honest c.args.disk.now tell))) pick c.in_ok-after.after (D.seen c.commit.new.disk) (D.may_leave c.commit.new.disk) e.store (λ tell. e.reads tell) e.held e.synced

pub returns-clause-any_moment : goal.returns-clause-any_moment
returns-clause-any_moment g c =
    let D = g.D.Disk in
    let L = g.met.D.Disk in
    let s = c.args.store in
    let old = D.seen c.args.disk.now in
    let pick = picked c.manifest-manifest.result.now s.manifest c.in-Some.i c.in-Some.j c.manifest-manifest.ensures.manifest c.manifest-manifest.ensures.store.fits c.in-Some.ensures.some in
    step_then D.seen D.moment D.left_since D.may_leave L.counts_now L.only_now s c.args.disk.now c.close_pair.new.disk c.commit.new.disk c.in_ok-next.next c.manifest-manifest.ensures.store.fits c.close_pair.ensures.any_moment c.commit.ensures.any_moment
    (λ image there.
    goes_on s c.manifest-manifest.ensures.store D.tells old (D.seen c.close_pair.new.disk) c.in-Some.i c.in-Some.j c.in_ok-next.next c.in_ok-next.ensures.next (λ tell. lefts_held s old (c.requires.held old (L.honest c.args.disk.now tell))) pick (L.told c.close_pair.new.disk image there))

pub returns-in_err-after-clause-any_moment : goal.returns-in_err-after-clause-any_moment
returns-in_err-after-clause-any_moment g c =
    let D = g.D.Disk in
    let L = g.met.D.Disk in
    let s = c.args.store in
    let old = D.seen c.args.disk.now in
    let pick = picked c.manifest-manifest.result.now s.manifest c.in-Some.i c.in-Some.j c.manifest-manifest.ensures.manifest c.manifest-manifest.ensures.store.fits c.in-Some.ensures.some in
    step_then D.seen D.moment D.left_since D.may_leave L.counts_now L.only_now s c.args.disk.now c.close_pair.new.disk c.commit.new.disk c.in_ok-next.next c.manifest-manifest.ensures.store.fits c.close_pair.ensures.any_moment c.commit.ensures.any_moment
    (λ image there.
    goes_on s c.manifest-manifest.ensures.store D.tells old (D.seen c.close_pair.new.disk) c.in-Some.i c.in-Some.j c.in_ok-next.next c.in_ok-next.ensures.next (λ tell. lefts_held s old (c.requires.held old (L.honest c.args.disk.now tell))) pick (L.told c.close_pair.new.disk image there))

pub returns-in_err-next-clause-any_moment : goal.returns-in_err-next-clause-any_moment
returns-in_err-next-clause-any_moment g c =
    let D = g.D.Disk in
    let L = g.met.D.Disk in
    step_before D.seen D.moment D.left_since D.may_leave L.counts_now L.only_now c.args.store c.args.disk.now c.close_pair.new.disk c.close_pair.ensures.any_moment

pub returns-in_default-clause-any_moment : goal.returns-in_default-clause-any_moment
returns-in_default-clause-any_moment g c =
    let D = g.D.Disk in
    let L = g.met.D.Disk in
    step_before D.seen D.moment D.left_since D.may_leave L.counts_now L.only_now c.args.store c.args.disk.now c.args.disk.now (nothing D.seen D.moment D.left_since D.may_leave L.counts_now L.only_now c.args.store.manifest c.args.disk.now)

pub returns-in_err-next-clause-cause : goal.returns-in_err-next-clause-cause
returns-in_err-next-clause-cause g c =
    let D = g.D.Disk in
    let s = c.args.store in
    let le : D.faults c.args.disk.now ≤ D.faults c.args.disk.now = omega arith in
    let pick = picked c.manifest-manifest.result.now s.manifest c.in-Some.i c.in-Some.j c.manifest-manifest.ensures.manifest c.manifest-manifest.ensures.store.fits c.in-Some.ensures.some in
    handed (D.faults c.args.disk.now) (D.faults c.args.disk.now) (D.faults c.close_pair.new.disk) _ _ c.close_pair.result c.from_residual.result c.in_err-next.field-0.0 c.in_err-next.was c.from_residual.ensures.1 le (λ f p k b. blamed_pick s D.tells (D.seen c.args.disk.now) c.in-Some.i c.in-Some.j f p k pick b) c.close_pair.ensures.cause

pub returns-in_err-after-clause-cause : goal.returns-in_err-after-clause-cause
returns-in_err-after-clause-cause g c =
    let D = g.D.Disk in
    handed (D.faults c.args.disk.now) (D.faults c.close_pair.new.disk) (D.faults c.commit.new.disk) _ _ c.commit.result c.from_residual-in_err-after.result c.in_err-after.field-0.0 c.in_err-after.was c.from_residual-in_err-after.ensures.1 c.close_pair.ensures.later (λ f p k none. absurd none) c.commit.ensures.cause

pub returns-in_default-clause-finished : goal.returns-in_default-clause-finished
returns-in_default-clause-finished g c = (refl, clean c.manifest-manifest.result.now c.args.store.manifest c.manifest-manifest.ensures.manifest c.manifest-manifest.ensures.store.fits c.in_default.ensures.none, refl)

pub returns-clause-stores : goal.returns-clause-stores
returns-clause-stores g c =
    let L = g.met.D.Disk in
    keeps_moving g.D.Disk L.counts_now L.only_now L.honest L.told c.args.store c.args.disk.now c.commit.new.disk c.requires.held (returns-clause-any_moment g c)

pub returns-in_err-after-clause-stores : goal.returns-in_err-after-clause-stores
returns-in_err-after-clause-stores g c =
    let L = g.met.D.Disk in
    keeps_moving g.D.Disk L.counts_now L.only_now L.honest L.told c.args.store c.args.disk.now c.commit.new.disk c.requires.held (returns-in_err-after-clause-any_moment g c)

pub returns-in_err-next-clause-stores : goal.returns-in_err-next-clause-stores
returns-in_err-next-clause-stores g c =
    let L = g.met.D.Disk in
    keeps_moving g.D.Disk L.counts_now L.only_now L.honest L.told c.args.store c.args.disk.now c.close_pair.new.disk c.requires.held (returns-in_err-next-clause-any_moment g c)

pub returns-in_default-clause-stores : goal.returns-in_default-clause-stores
returns-in_default-clause-stores g c =
    let L = g.met.D.Disk in
    keeps_moving g.D.Disk L.counts_now L.only_now L.honest L.told c.args.store c.args.disk.now c.args.disk.now c.requires.held (returns-in_default-clause-any_moment g c)
