use Rattle.std.proofs.Common.{ap}
use Rattle.normal_law.specs.NormalForm.{normal_form}
use Rattle.row_table.specs.Loaded.{Loaded}
use Rattle.row_table.proofs.BlockLemmas.{gives_for, row_labels_of}
use Rattle.row_table.proofs.blocks.set_blocks.Goals as goal

pub returns : goal.returns
returns c =
    gives_for (normal_form c.args.snapshot.now.normal.now) c.args.snapshot.now.rows.now.edges c.args.snapshot.now.newer.now.edges c.args.snapshot.now.since c.args.vertex _ _ _ _ _ c.clear.ensures.items (ap (λ (l : Loaded). l.edges) c.requires.newer) c.row.ensures.row c.row-2.ensures.row c.in_ok-add_rows.ensures c.in_ok-add_rows-2.ensures

pub add_rows-requires-clause-firsts : goal.add_rows-requires-clause-firsts
add_rows-requires-clause-firsts c = rw c.row.ensures.row (row_labels_of c.args.vertex.0 c.args.snapshot.now.newer.now.edges c.row.ensures.loaded.ordered)

pub add_rows-requires-2-clause-firsts : goal.add_rows-requires-2-clause-firsts
add_rows-requires-2-clause-firsts c = rw c.row-2.ensures.row (row_labels_of c.args.vertex.0 c.args.snapshot.now.rows.now.edges c.row-2.ensures.loaded.ordered)
