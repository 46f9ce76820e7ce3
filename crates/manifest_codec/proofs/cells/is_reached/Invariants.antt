use Rattle.std.proofs.Common.{◌≡◌, ◌-◌, take, sum}
use Rattle.manifest_codec.proofs.cells.is_reached.Given as goal

abbrev pub invariant-loop-n : goal.invariant-loop-n
invariant-loop-n l = l.owed ≡ (l.round - 1) - sum (take l.n-index l.counts)
