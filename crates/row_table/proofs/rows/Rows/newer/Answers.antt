use Rattle.row_table.proofs.SearchLemmas.{newer_loaded}
use Rattle.row_table.proofs.rows.Rows.newer.Goals as goal

pub of_edges-requires : goal.of_edges-requires
of_edges-requires c = rw (c.in_ok-edges.ensures, c.deref.ensures.value) (newer_loaded _ c.args.since c.self.invariant.loaded)
