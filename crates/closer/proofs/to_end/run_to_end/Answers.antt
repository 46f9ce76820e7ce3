use Rattle.std.proofs.Common.{◌≡◌, ◌∙◌, refl, sym, subst, arith, inl}
use Rattle.normal_law.specs.NormalForm.{normal_form}
use Rattle.store_law.specs.Kept.{KeepsStores}
use Rattle.store_law.specs.Left.{HasNoWork}
use Rattle.open_store.proofs.Causes.{handed}
use Rattle.closer.specs.declared.one_step.Stepped.{Stepped}
use Rattle.closer.specs.Answers.{IfAgain, IfFinished, IsStepped}
use Rattle.closer.proofs.Blaming.{on_the_way}
use Rattle.closer.proofs.Closings.{closed_here, no_step_there, one_more}
use Rattle.closer.proofs.Images.{next_behind, nothing, step_before, steps_then}
use Rattle.closer.proofs.Keeping.{ends_exact, keeps_moving}
use Rattle.closer.proofs.LawLemmas.{continues_here}
use Rattle.closer.proofs.to_end.run_to_end.Goals as goal

pub loop-next-init : goal.loop-next-init
loop-next-init g c =
    let D = g.D.Disk in
    let L = g.met.D.Disk in
    let s = c.args.store in
    record {
      rules = refl;
      on = λ tell. (0, continues_here (normal_form s.rules) (D.seen c.args.disk.now) s.manifest c.manifest-manifest.ensures.store.fits);
      held = c.requires.held;
      synced = λ just. just;
      rest = λ done. (refl, refl);
      any_moment = step_before D.seen D.moment D.left_since D.may_leave L.counts_now L.only_now s c.args.disk.now c.args.disk.now (nothing D.seen D.moment D.left_since D.may_leave L.counts_now L.only_now s.manifest c.args.disk.now);
      behind = λ image from. (from.0, from.1, inl from.2);
      later = omega arith;
    }

pub loop-next-preserved : goal.loop-next-preserved
loop-next-preserved g c =
    let D = g.D.Disk in
    let L = g.met.D.Disk in
    let s = c.args.store in
    let t = c.loop-next.current in
    let u = c.in-Again.next in
    let inv = c.loop-next.invariant in
    let a = subst (λ (x : Stepped). IfAgain x (IsStepped D.tells (D.seen c.loop-next.disk) t (D.seen c.step.new.disk) (D.may_leave c.step.new.disk))) c.in-Again.is c.in_ok-next.ensures.again in
    let on = one_more s t u D.tells (D.seen c.args.disk.now) (D.seen c.loop-next.disk) (D.seen c.step.new.disk) (D.may_leave c.step.new.disk) inv.rules inv.on a in
    let any = steps_then D.seen D.moment D.left_since D.may_leave L.counts_now L.only_now s t c.args.disk.now c.loop-next.disk c.step.new.disk inv.rules inv.any_moment inv.behind c.step.ensures.any_moment (λ image there. inv.on (L.told c.loop-next.disk image there)) in
    record {
      rules = a.rules_are ∙ inv.rules;
      on = on;
      held = a.held;
      synced = λ just. a.synced;
      rest = λ done. absurd (no_step_there s t u D.tells (D.seen c.loop-next.disk) (D.seen c.step.new.disk) (D.may_leave c.step.new.disk) done (inv.rest done).0 a);
      any_moment = any;
      behind = next_behind D.seen D.moment D.left_since D.may_leave L.counts_now L.only_now s u c.args.disk.now c.step.new.disk any a.synced a.held (λ image there. on (L.told c.step.new.disk image there));
      later = omega (arith, inv.later, c.step.ensures.later);
    }

pub loop-next-smaller : goal.loop-next-smaller
loop-next-smaller g c =
    let D = g.D.Disk in
    let a = subst (λ (x : Stepped). IfAgain x (IsStepped D.tells (D.seen c.loop-next.disk) c.loop-next.current (D.seen c.step.new.disk) (D.may_leave c.step.new.disk))) c.in-Again.is c.in_ok-next.ensures.again in
    a.less

pub step-requires : goal.step-requires
step-requires g c = record { held = c.loop-next.invariant.held }

pub returns-in_err-next-clause-any_moment : goal.returns-in_err-next-clause-any_moment
returns-in_err-next-clause-any_moment g c =
    let D = g.D.Disk in
    let L = g.met.D.Disk in
    let inv = c.loop-next.invariant in
    steps_then D.seen D.moment D.left_since D.may_leave L.counts_now L.only_now c.args.store c.loop-next.current c.args.disk.now c.loop-next.disk c.step.new.disk inv.rules inv.any_moment inv.behind c.step.ensures.any_moment (λ image there. inv.on (L.told c.loop-next.disk image there))

pub returns-in_err-next-clause-cause : goal.returns-in_err-next-clause-cause
returns-in_err-next-clause-cause g c =
    let D = g.D.Disk in
    let inv = c.loop-next.invariant in
    handed (D.faults c.args.disk.now) (D.faults c.loop-next.disk) (D.faults c.step.new.disk) _ _ c.step.result c.from_residual.result c.in_err-next.field-0.0 c.in_err-next.was c.from_residual.ensures.1 inv.later
    (λ f p k b. on_the_way c.args.store c.loop-next.current D.tells (D.seen c.args.disk.now) (D.seen c.loop-next.disk) f p k inv.rules inv.on b) c.step.ensures.cause

pub returns-in-Finished-clause-closed : goal.returns-in-Finished-clause-closed
returns-in-Finished-clause-closed g c =
    let D = g.D.Disk in
    let t = c.loop-next.current in
    let inv = c.loop-next.invariant in
    let f = subst (λ (x : Stepped). IfFinished x (λ o. (o ≡ t) × HasNoWork t.manifest × (c.step.new.disk ≡ c.loop-next.disk))) c.in-Finished.is c.in_ok-next.ensures.finished in
    closed_here D.seen D.may_leave D.tells c.args.store t c.in-Finished.last c.args.disk.now c.loop-next.disk c.step.new.disk f.0 f.1 f.2 inv.rules inv.on inv.held inv.synced

pub returns-in_err-next-clause-stores : goal.returns-in_err-next-clause-stores
returns-in_err-next-clause-stores g c =
    let L = g.met.D.Disk in
    keeps_moving g.D.Disk L.counts_now L.only_now L.honest L.told c.args.store c.args.disk.now c.step.new.disk c.requires.held (returns-in_err-next-clause-any_moment g c)

pub returns-in-Finished-clause-stores : goal.returns-in-Finished-clause-stores
returns-in-Finished-clause-stores g c =
    let D = g.D.Disk in
    let L = g.met.D.Disk in
    let f = subst (λ (x : Stepped). IfFinished x (λ o. (o ≡ c.loop-next.current) × HasNoWork c.loop-next.current.manifest × (c.step.new.disk ≡ c.loop-next.disk))) c.in-Finished.is c.in_ok-next.ensures.finished in
    subst (λ x. KeepsStores D c.args.disk.now x) (sym f.2)
    (keeps_moving D L.counts_now L.only_now L.honest L.told c.args.store c.args.disk.now c.loop-next.disk c.requires.held c.loop-next.invariant.any_moment)

pub returns-in-Finished-clause-exact : goal.returns-in-Finished-clause-exact
returns-in-Finished-clause-exact g c = λ t.
    let L = g.met.D.Disk in
    let closed = returns-in-Finished-clause-closed g c in
    ends_exact g.D.Disk L.counts_now L.only_now L.honest L.told c.in-Finished.last c.args.disk.now c.step.new.disk t (returns-in-Finished-clause-stores g c) closed.done closed.held
