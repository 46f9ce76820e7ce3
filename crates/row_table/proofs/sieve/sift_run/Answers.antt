use Rattle.row_table.proofs.SieveLemmas.{sift_more}
use Rattle.row_table.proofs.sieve.sift_run.Goals as goal

pub loop-second-preserved : goal.loop-second-preserved
loop-second-preserved c = sift_more c.args.run.now c.loop-second.second-index _ c.loop-second-test.true c.args.ends.now c.loop-second.ends _ c.args.found.now.items c.loop-second.found.items _ c.loop-second.invariant c.in_ok-sift_end.ensures
