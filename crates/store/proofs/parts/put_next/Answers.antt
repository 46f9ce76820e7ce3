use Rattle.std.proofs.Common.{◌+◌, ◌++◌, ◌∷◌, ◌∙◌, [], ℕ, List, arith, ap, subst}
use Rattle.std.specs.Prelude.{IsTrue}
use Rattle.graph_words.specs.declared.types.Born.{Born as ABorn}
use Rattle.dest_map.specs.Counts.{IsCountsOf}
use Rattle.intervals.proofs.BoundsLemmas.{high_within}
use Rattle.partition_file.specs.Spelling.{newest_format, spelling}
use Rattle.store.proofs.Building.{built_more, fits_at, given_at, sets_at}
use Rattle.store.proofs.parts.put_next.Goals as goal

pub given_part-requires-clause-below : goal.given_part-requires-clause-below
given_part-requires-clause-below g c = omega (arith, c.bounds-span.ensures.high, c.requires.may.whole, high_within c.args.intervals.now c.requires.may.cut c.args.i c.requires.i)

pub returns-clause-built : goal.returns-clause-built
returns-clause-built g c =
    let D = g.D.Disk in
    let s = c.args.source.now in
    let ends = c.args.intervals.now in
    let i = c.args.i in
    let p = c.in_ok-part.part in
    let lo = c.bounds-span.result.0 in
    let hi = c.bounds-span.result.1 in
    built_more s ends (IsTrue D.tells) (D.seen c.args.disk.now) (D.seen c.rewrite.new.disk) i c.args.tables.now (record { parts = c.push.new.self; map = c.count_edges.new.map }) p c.requires.built
    (fits_at s ends i lo hi p c.bounds-span.ensures.low c.bounds-span.ensures.high c.in_ok-part.ensures.fits)
    (λ tell. given_at s ends (D.seen c.args.disk.now) i lo hi p.edges c.bounds-span.ensures.low c.bounds-span.ensures.high (c.in_ok-part.ensures.given tell))
    (c.in_ok-push.ensures.ok ∙ ap (λ (h : ℕ). c.args.tables.now.parts ++ record { hi = h; file = 4 + i } ∷ []) c.bounds-span.ensures.high)
    (λ before is. subst (λ (l : List ABorn). IsCountsOf ends (before ++ l) c.count_edges.new.map) c.edges.ensures.edges (c.count_edges.ensures.counts before is)) c.count_edges.ensures.others
    (λ tell. sets_at (4 + i) c.deref.result.now (spelling newest_format p) (D.seen c.given_part.new.disk) (D.seen c.args.disk.now) (D.seen c.rewrite.new.disk) c.in_ok-part.ensures.looks.same_seen (c.deref.ensures.value ∙ c.in_ok-bytes.ensures) (c.in_ok-rewrite.ensures.written tell))
