use Rattle.std.proofs.Common.{length}
use Rattle.hints.proofs.text.count_words.Given as goal

abbrev pub decreases-loop-behind : goal.decreases-loop-behind
decreases-loop-behind l = length l.rest
