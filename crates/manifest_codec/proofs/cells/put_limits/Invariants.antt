use Rattle.std.proofs.Common.{◌≡◌, ◌++◌, ◌*◌, take, map}
use Rattle.manifest_codec.proofs.cells.put_limits.Given as goal

abbrev pub invariant-loop-b : goal.invariant-loop-b
invariant-loop-b l = l.limits.items ≡ l.fn.limits.items ++ map (λ b. l.a * b * 63000) (take l.b-index l.widths)
