use Rattle.row_table.proofs.SieveLemmas.{mark_more}
use Rattle.row_table.proofs.sieve.mark_run.Goals as goal

pub loop-born-preserved : goal.loop-born-preserved
loop-born-preserved c = mark_more c.args.run.now c.loop-born.born-index _ c.loop-born-test.true c.args.ends.now c.loop-born.ends _ c.loop-born.invariant c.in_ok-add.ensures.added
