use Rattle.std.proofs.Common.{◌<◌, length, arith}
use Rattle.row_table.proofs.RowLemmas.{some_born}
use Rattle.row_table.proofs.SearchLemmas.{there, not_there, turned}
use Rattle.row_table.proofs.ordered_edges.has_edge.Goals as goal

pub returns : goal.returns
returns c =
    let within = c.search-place.ensures.front.within in
    let lt : c.search-place.result < length c.args.edges.now = omega arith in
    turned c.is_before.result _ _ c.is_before.ensures (there c.args.edges.now c.args.edge c.requires c.search-place.result c.search-place.ensures some_born lt) (not_there c.args.edges.now c.args.edge c.requires c.search-place.result c.search-place.ensures some_born lt)
