use Rattle.std.proofs.Common.{take}
use Rattle.row_table.specs.Joined.{GivesEnd, Sifts}
use Rattle.row_table.proofs.sieve.sift_blocks.Given as goal

abbrev pub invariant-loop-block : goal.invariant-loop-block
invariant-loop-block l = Sifts (GivesEnd (take l.block-index l.blocks) l.label) l.initial.ends l.ends l.initial.found.items l.found.items
