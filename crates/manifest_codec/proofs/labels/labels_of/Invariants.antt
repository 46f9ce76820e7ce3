use Rattle.std.proofs.Common.{◌≡◌, ◌≤◌, ◌-◌, [], length}
use Rattle.manifest_codec.specs.FieldsRead.{labels_at}
use Rattle.manifest_codec.proofs.labels.labels_of.Given as goal

abbrev pub invariant-loop : goal.invariant-loop
invariant-loop l = (labels_at (l.count - l.counter) l.labels l.rest ≡ labels_at l.count [] l.bytes) × (length l.labels ≤ l.counter)
