use Rattle.std.proofs.Common.{◌<◌, [], length}
use Rattle.normal_law.specs.NormalForm.{normal_form}
use Rattle.row_table.proofs.SourceLemmas.{at_first, at_next, sources_end, sources_more, sources_none}
use Rattle.row_table.proofs.centre_joins.join_sources.Goals as goal

pub loop-place-init : goal.loop-place-init
loop-place-init c = (
  at_first (normal_form c.args.centre.now.normal.now) c.args.centre.now.rows.now.edges c.args.centre.now.since c.args.centre.now.vertex c.len-count.ensures.loaded.ordered c.args.place c.requires.first,
  rw c.requires.none (sources_none (normal_form c.args.centre.now.normal.now) c.args.centre.now.rows.now.edges c.args.centre.now.since c.args.centre.now.vertex c.len-count.ensures.loaded.ordered c.args.place c.requires.first []),
)

pub loop-place-preserved : goal.loop-place-preserved
loop-place-preserved c =
    let there : c.loop-place.place < length c.args.centre.now.rows.now.edges = rw c.len-count.ensures.len at c.loop-place-test.true in (
      at_next (normal_form c.args.centre.now.normal.now) c.args.centre.now.rows.now.edges c.args.centre.now.since c.args.centre.now.vertex c.len-count.ensures.loaded.ordered c.loop-place.place c.in_ok-place.place c.loop-place.invariant.0 there c.in_ok-place.ensures.next,
      sources_more (normal_form c.args.centre.now.normal.now) c.args.centre.now.rows.now.edges c.args.centre.now.since c.args.centre.now.vertex c.len-count.ensures.loaded.ordered c.loop-place.place c.in_ok-place.place c.loop-place.invariant.0 there c.in_ok-place.ensures.next [] c.loop-place.out.items _ c.loop-place.invariant.1 c.in_ok-place.ensures.joins,
    )

pub returns : goal.returns
returns c = sources_end (normal_form c.args.centre.now.normal.now) c.args.centre.now.rows.now.edges c.args.centre.now.since c.args.centre.now.vertex c.len-count.ensures.loaded.ordered c.loop-place.place c.loop-place.out.items (rw c.len-count.ensures.len at c.loop-place-test.false) c.loop-place.invariant.1
