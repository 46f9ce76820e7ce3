use Rattle.std.proofs.Common.{◌≡◌, [], refl, sym, ◌∙◌}
use Rattle.std.proofs.lemmas.Bool.{false≢true}
use Rattle.normal_law.specs.NormalForm.{normal_form}
use Rattle.partition_file.specs.Spelling.{row_of}
use Rattle.row_table.proofs.BlockLemmas.{row_labels_of, first_counts, first_does_not, joins_none, is_nil, seconds_in_row}
use Rattle.row_table.proofs.blocks.add_first.Goals as goal

pub add_row-requires-clause-row : goal.add_row-requires-clause-row
add_row-requires-clause-row c = rw c.row-row.ensures.row (row_labels_of c.args.first.edge.dst.0 c.args.seconds.now.rows.now.edges c.row-row.ensures.loaded.ordered)

pub returns-then-not-counts : goal.returns-then-not-counts
returns-then-not-counts c =
    first_does_not (normal_form c.args.seconds.now.normal.now) c.args.seconds.now.every c.args.seconds.now.since c.args.first c.args.seconds.now.rows.now.edges c.args.blocks.now.items (λ h. false≢true (c.if-not-counts.ensures.1 h))

pub returns-then-is_empty : goal.returns-then-is_empty
returns-then-is_empty c =
    let nil : row_of c.args.first.edge.dst.0 c.args.seconds.now.rows.now.edges ≡ [] = sym c.row-row.ensures.row ∙ is_nil c.is_empty.result c.row-row.result.now c.is_empty.ensures c.if-is_empty.true in
    first_counts (normal_form c.args.seconds.now.normal.now) c.args.seconds.now.every c.args.seconds.now.since c.args.first c.args.seconds.now.rows.now.edges c.args.blocks.now.items c.args.blocks.now.items (c.if-not-counts.ensures.0 refl)
    (rw nil (joins_none (normal_form c.args.seconds.now.normal.now) c.args.first.edge.label c.args.blocks.now.items))

pub returns : goal.returns
returns c =
    first_counts (normal_form c.args.seconds.now.normal.now) c.args.seconds.now.every c.args.seconds.now.since c.args.first c.args.seconds.now.rows.now.edges c.args.blocks.now.items _ (c.if-not-counts.ensures.0 refl) (rw c.row-row.ensures.row at c.in_ok-add_row.ensures)

pub add_row-requires-clause-labels : goal.add_row-requires-clause-labels
add_row-requires-clause-labels c = rw c.row-row.ensures.row (seconds_in_row (normal_form c.args.seconds.now.normal.now) c.args.first.edge.label c.args.seconds.now.rows.now.edges c.args.first.edge.dst.0 c.args.labels.now c.requires)
