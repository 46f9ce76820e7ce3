use Rattle.std.proofs.Common.{◌≡◌, [], drop}
use Rattle.manifest_codec.specs.FieldsRead.{cells_at}
use Rattle.manifest_codec.proofs.cells.cells_of.Given as goal

abbrev pub invariant-loop-limit : goal.invariant-loop-limit
invariant-loop-limit l = cells_at l.kind (drop l.limit-index l.limits) l.cells.items l.rest ≡ cells_at l.kind l.limits [] l.bytes
