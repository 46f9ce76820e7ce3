use Rattle.std.proofs.Common.{◌≡◌, ◌-◌, []}
use Rattle.manifest_codec.specs.FieldsRead.{parts_at}
use Rattle.manifest_codec.proofs.parts.parts_of.Given as goal

abbrev pub invariant-loop-i : goal.invariant-loop-i
invariant-loop-i l = parts_at l.head (l.count - l.i) l.low l.parts l.births.items l.rest ≡ parts_at l.head l.count 0 [] [] l.bytes
