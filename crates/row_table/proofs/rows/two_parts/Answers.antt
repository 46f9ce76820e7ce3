use Rattle.row_table.proofs.LoadedLemmas.{low_is_part, high_is_part}
use Rattle.row_table.proofs.rows.two_parts.Goals as goal

pub new-low_part-requires : goal.new-low_part-requires
new-low_part-requires c = rw c.in_ok-behind.ensures.items (low_is_part c.args.low c.args.high c.args.edges.items c.args.count c.requires.loaded c.requires.count)

pub new-high_part-requires : goal.new-high_part-requires
new-high_part-requires c = rw c.in_ok-behind.ensures.tail (high_is_part c.args.low c.args.high c.args.edges.items c.args.count c.requires.loaded c.requires.count)
