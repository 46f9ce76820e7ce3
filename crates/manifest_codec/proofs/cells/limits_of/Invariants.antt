use Rattle.std.proofs.Common.{◌≡◌, ◌*◌, take, map}
use Rattle.std.specs.List.{flat_map}
use Rattle.manifest_codec.proofs.cells.limits_of.Given as goal

abbrev pub invariant-loop-a : goal.invariant-loop-a
invariant-loop-a l = l.limits.items ≡ flat_map (λ a. map (λ b. a * b * 63000) l.widths) (take l.a-index l.widths)
