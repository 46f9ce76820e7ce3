use Rattle.std.proofs.Common.{◌≡◌, take, map}
use Rattle.open_store.proofs.commit.intervals_of.Given as goal

abbrev pub invariant-loop-part : goal.invariant-loop-part
invariant-loop-part l = l.ends.items ≡ map (λ p. p.hi) (take l.part-index l.parts)
