use Rattle.std.proofs.Common.{◌≤◌, ◌∙◌, ap, sym, subst, refl, List, ℕ}
use Rattle.std.specs.Prelude.{Contains}
use Rattle.graph_words.specs.declared.types.Born.{Born}
use Rattle.manifest_codec.specs.declared.types.Manifest.{Manifest}
use Rattle.open_store.specs.Stream.{IsTally}
use Rattle.closer.proofs.Images.{one_file}
use Rattle.closer.proofs.PutLemmas.{puts_new, rises, takes_new}
use Rattle.closer.proofs.changed_parts.put_changed.Goals as goal

pub with_part-requires-clause-rises : goal.with_part-requires-clause-rises
with_part-requires-clause-rises g c =
    let s = c.args.store.now in
    let some = c.if-not-has_new.ensures.some refl in
    let round = ap (λ (m : Manifest). m.round) c.manifest.ensures.manifest in
    rises s.manifest.round _ c.in_ok-tally.tally.newest s.ends c.args.part.now.edges c.in_ok-tally.tally.row.items some.0 c.requires.may.older (subst (λ (l : List Born). IsTally s.ends l c.in_ok-tally.tally.row.items c.in_ok-tally.tally.newest) c.edges-2.ensures.edges c.in_ok-tally.ensures) (subst (λ (l : List Born). Contains l some.0) c.edges.ensures.edges some.1)
    (subst (λ (r : ℕ). r ≤ some.0.birth) round some.2)

pub returns-clause-takes : goal.returns-clause-takes
returns-clause-takes g c =
    let s = c.args.store.now in
    let some = c.if-not-has_new.ensures.some refl in
    let round = ap (λ (m : Manifest). m.round) c.manifest.ensures.manifest in
    let file = c.in_ok-file.ensures in
    takes_new s.manifest.round c.args.i c.in_ok-file.file c.in_ok-tally.tally.newest s.ends c.args.part.now.edges c.in_ok-tally.tally.row.items c.args.next c.with_part.result some.0 c.requires.may.there c.requires.may.well c.with_part.ensures file.free.above file.within file.untaken (c.manifest.ensures.store.ends_are ∙ sym c.requires.may.ends)
    (subst (λ (l : List Born). IsTally s.ends l c.in_ok-tally.tally.row.items c.in_ok-tally.tally.newest) c.edges-2.ensures.edges c.in_ok-tally.ensures) (subst (λ (l : List Born). Contains l some.0) c.edges.ensures.edges some.1) (subst (λ (r : ℕ). r ≤ some.0.birth) round some.2)

pub returns-clause-puts : goal.returns-clause-puts
returns-clause-puts g c = λ tell.
    let D = g.D.Disk in
    let file = c.in_ok-file.ensures in
    puts_new c.args.store.now.manifest c.args.i c.in_ok-file.file c.in_ok-tally.tally.newest c.in_ok-tally.tally.row.items c.args.part.now c.args.next c.with_part.result (D.seen c.args.disk.now) (D.seen c.put_part.new.disk) c.requires.may.there c.with_part.ensures file.free file.untaken (c.in_ok-put_part.ensures.written tell)

pub returns-clause-any_moment : goal.returns-clause-any_moment
returns-clause-any_moment g c =
    let D = g.D.Disk in
    let L = g.met.D.Disk in
    one_file D.seen D.moment D.left_since D.may_leave L.counts_now L.only_now c.args.store.now.manifest c.args.disk.now c.put_part.new.disk c.in_ok-file.file c.in_ok-file.ensures.free c.put_part.ensures.any_moment

pub returns-in_err-put_part-clause-any_moment : goal.returns-in_err-put_part-clause-any_moment
returns-in_err-put_part-clause-any_moment g c =
    let D = g.D.Disk in
    let L = g.met.D.Disk in
    one_file D.seen D.moment D.left_since D.may_leave L.counts_now L.only_now c.args.store.now.manifest c.args.disk.now c.put_part.new.disk c.in_ok-file.file c.in_ok-file.ensures.free c.put_part.ensures.any_moment
