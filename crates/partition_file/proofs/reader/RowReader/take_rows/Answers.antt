use Rattle.partition_file.proofs.PieceLemmas.{taken_none, taken_more}
use Rattle.partition_file.proofs.reader.RowReader.take_rows.Goals as goal

pub rows-init : goal.rows-init
rows-init c = taken_none c.args.self.now c.args.edges.now.items c.args.bytes.now

pub rows-preserved : goal.rows-preserved
rows-preserved c =
    taken_more c.args.self.now c.rows.self c.take_row.new.self c.args.edges.now.items c.rows.edges.items c.take_row.new.edges.items c.args.bytes.now c.rows.used c.in_ok-taken.taken
    c.rows.invariant (rw c.split_at.ensures.back at c.in_ok-taken.ensures.takes)
