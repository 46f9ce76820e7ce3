use Rattle.row_table.proofs.JoinLemmas.{lacking_next}
use Rattle.row_table.proofs.sieve.push_lacking.Goals as goal

pub loop-end-preserved : goal.loop-end-preserved
loop-end-preserved c =
    lacking_next c.args.row.now c.args.vertex c.args.label c.args.found.now c.loop-end.end-index _ c.loop-end-test.true c.args.out.now.items c.loop-end.out.items c.loop-end.invariant _ c.in_ok-push_unless.ensures
