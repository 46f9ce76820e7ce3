use Rattle.std.proofs.Common.{◌+◌, ◌<◌, ℕ, [], length, slice_index, subst, arith, inl, inr}
use Rattle.normal_law.specs.NormalForm.{normal_form}
use Rattle.row_table.specs.Chains.{IsNextOfRow}
use Rattle.row_table.proofs.RowLemmas.{some_born}
use Rattle.row_table.proofs.BlockLemmas.{row_labels_of}
use Rattle.row_table.proofs.ThroughLemmas.{between_more, between_none, newer_labels, source_gives}
use Rattle.row_table.proofs.SourceLemmas.{walk_end, walk_more, walk_start}
use Rattle.row_table.proofs.centre_joins.set_source_blocks.Goals as goal

pub loop-place-init : goal.loop-place-init
loop-place-init c = (
  walk_start c.args.centre.now.rows.now.edges c.args.centre.now.vertex c.args.place c.requires.at,
  rw c.clear.ensures.items (between_none (normal_form c.args.centre.now.normal.now) c.args.centre.now.since c.args.centre.now.vertex c.args.centre.now.row.now c.args.centre.now.newer.now c.args.centre.now.rows.now.edges c.args.place []),
)

pub add_in_edge-requires-clause-row : goal.add_in_edge-requires-clause-row
add_in_edge-requires-clause-row c = rw c.requires.row (row_labels_of c.args.centre.now.vertex.0 c.args.centre.now.rows.now.edges c.len-count.ensures.loaded.ordered)

pub add_in_edge-requires-clause-newer : goal.add_in_edge-requires-clause-newer
add_in_edge-requires-clause-newer c =
    rw (c.requires.newer, c.requires.row) (newer_labels c.args.centre.now.since _ (row_labels_of c.args.centre.now.vertex.0 c.args.centre.now.rows.now.edges c.len-count.ensures.loaded.ordered))

pub loop-place-smaller : goal.loop-place-smaller
loop-place-smaller c =
    let there : c.loop-place.place < length c.args.centre.now.rows.now.edges = rw c.len-count.ensures.len at c.loop-place-test.true in
    let next = c.requires.links.each c.loop-place.place some_born (omega arith) there in
    omega (arith, next.on)

pub loop-place-preserved : goal.loop-place-preserved
loop-place-preserved c =
    let edges = c.args.centre.now.rows.now.edges in
    let there : c.loop-place.place < length edges = rw c.len-count.ensures.len at c.loop-place-test.true in
    let next : IsNextOfRow edges c.args.centre.now.vertex.0 (c.loop-place.place + 1) (slice_index c.args.centre.now.next.now c.loop-place.place) =
    subst (λ (v : ℕ). IsNextOfRow edges v (c.loop-place.place + 1) (slice_index c.args.centre.now.next.now c.loop-place.place)) (c.loop-place.invariant.0.here some_born there) (c.requires.links.each c.loop-place.place some_born (omega arith) there) in (
      walk_more edges c.args.centre.now.vertex c.args.place c.loop-place.place c.loop-place.invariant.0 _ there (rw c.edges-edges.ensures at c.if-edges-place.true) next,
      between_more (normal_form c.args.centre.now.normal.now) c.args.centre.now.since c.args.centre.now.vertex c.args.centre.now.row.now c.args.centre.now.newer.now edges c.args.place c.loop-place.place _ [] c.loop-place.blocks.items _ c.loop-place.invariant.0.on next c.loop-place.invariant.1 (rw c.edges-edges.ensures at c.in_ok-add_in_edge.ensures),
    )

pub returns-else-edges-place-clause-next : goal.returns-else-edges-place-clause-next
returns-else-edges-place-clause-next c =
    walk_end c.args.centre.now.rows.now.edges c.args.centre.now.vertex c.args.place c.loop-place.place c.loop-place.invariant.0 c.len-count.ensures.loaded.ordered c.requires.there (inr (rw c.edges-edges.ensures at c.if-edges-place.false))

pub returns-after-loop-place-clause-next : goal.returns-after-loop-place-clause-next
returns-after-loop-place-clause-next c =
    walk_end c.args.centre.now.rows.now.edges c.args.centre.now.vertex c.args.place c.loop-place.place c.loop-place.invariant.0 c.len-count.ensures.loaded.ordered c.requires.there (inl (rw c.len-count.ensures.len at c.loop-place-test.false))

pub returns-else-edges-place-clause-blocks : goal.returns-else-edges-place-clause-blocks
returns-else-edges-place-clause-blocks c =
    source_gives (normal_form c.args.centre.now.normal.now) c.args.centre.now.rows.now.edges c.args.centre.now.since c.args.centre.now.vertex c.args.centre.now.row.now c.args.centre.now.newer.now c.requires.row c.requires.newer c.len-count.ensures.loaded.ordered c.args.place c.loop-place.place c.requires.at c.requires.there
    (walk_end c.args.centre.now.rows.now.edges c.args.centre.now.vertex c.args.place c.loop-place.place c.loop-place.invariant.0 c.len-count.ensures.loaded.ordered c.requires.there (inr (rw c.edges-edges.ensures at c.if-edges-place.false)))
    c.loop-place.blocks.items c.loop-place.invariant.1

pub returns-after-loop-place-clause-blocks : goal.returns-after-loop-place-clause-blocks
returns-after-loop-place-clause-blocks c =
    source_gives (normal_form c.args.centre.now.normal.now) c.args.centre.now.rows.now.edges c.args.centre.now.since c.args.centre.now.vertex c.args.centre.now.row.now c.args.centre.now.newer.now c.requires.row c.requires.newer c.len-count.ensures.loaded.ordered c.args.place c.loop-place.place c.requires.at c.requires.there
    (walk_end c.args.centre.now.rows.now.edges c.args.centre.now.vertex c.args.place c.loop-place.place c.loop-place.invariant.0 c.len-count.ensures.loaded.ordered c.requires.there (inl (rw c.len-count.ensures.len at c.loop-place-test.false)))
    c.loop-place.blocks.items c.loop-place.invariant.1
