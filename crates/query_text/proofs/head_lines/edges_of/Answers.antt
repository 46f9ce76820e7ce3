use Rattle.std.proofs.Common.{suc, arith}
use Rattle.query_text.proofs.Summing.{row_fits}
use Rattle.query_text.proofs.head_lines.edges_of.Goals as goal

pub overflow_add-edges : goal.overflow_add-edges
overflow_add-edges c =
    let fits = row_fits c.args.m.now c.requires.fits c.args.i (suc c.loop-j.j) c.requires.i (omega (arith, c.loop-j-test.true, c.len-j-end.ensures.len, c.requires.fits.map.size)) in
    omega (arith, fits, c.loop-j.invariant.sum, c.count-edges.ensures)
