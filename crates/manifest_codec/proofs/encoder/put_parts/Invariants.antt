use Rattle.std.proofs.Common.{◌≡◌, ◌++◌, drop}
use Rattle.manifest_codec.specs.Spelling.{parts_bytes}
use Rattle.manifest_codec.proofs.encoder.put_parts.Given as goal

abbrev pub invariant-loop-i : goal.invariant-loop-i
invariant-loop-i l = l.out.items ++ parts_bytes (drop l.i l.parts) (drop l.i l.newest) ≡ l.fn.out.items ++ parts_bytes l.parts l.newest
