use Rattle.std.proofs.Common.{◌≡◌, take, map}
use Rattle.closer.proofs.next_manifest.file_for.Given as goal

abbrev pub invariant-loop-part : goal.invariant-loop-part
invariant-loop-part l = l.taken.items ≡ map (λ p. p.file) (take l.part-index l.parts)
