use Rattle.std.proofs.Common.{◌≢◌, take, All}
use Rattle.open_store.proofs.put_part.is_named.Given as goal

abbrev pub invariant-loop-part : goal.invariant-loop-part
invariant-loop-part l = All (λ p. p.file ≢ l.file) (take l.part-index l.parts)
