use Rattle.row_table.proofs.LoadedLemmas.{two_given}
use Rattle.row_table.proofs.rows.Rows.of_two.Goals as goal

pub of_edges-requires-in-Some : goal.of_edges-requires-in-Some
of_edges-requires-in-Some c =
    two_given c.args.low c.in-Some.high _ _ _ _ c.into_edges-edges.result.items _ c.lo.ensures.part c.lo-in-Some.ensures.part (rw c.in-Some.is at c.requires) c.lo.ensures.lo c.hi.ensures.hi c.lo-in-Some.ensures.lo c.hi-in-Some.ensures.hi c.into_edges-edges.ensures.edges (rw c.edges.ensures.edges at c.in_ok-extend_from_slice-in-Some.ensures.items)
