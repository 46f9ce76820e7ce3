use Rattle.row_table.proofs.SieveLemmas.{blocks_more}
use Rattle.row_table.proofs.sieve.sift_blocks.Goals as goal

pub loop-block-preserved : goal.loop-block-preserved
loop-block-preserved c = blocks_more c.args.blocks.now c.args.label c.loop-block.block-index _ c.loop-block-test.true c.args.ends.now c.loop-block.ends _ c.args.found.now.items c.loop-block.found.items _ c.loop-block.invariant c.in_ok-sift_block.ensures
