use Rattle.std.proofs.Common.{◌<◌, take, All}
use Rattle.closer.proofs.changed_parts.has_new.Given as goal

abbrev pub invariant-loop-born : goal.invariant-loop-born
invariant-loop-born l = All (λ b. b.birth < l.round) (take l.born-index l.edges)
