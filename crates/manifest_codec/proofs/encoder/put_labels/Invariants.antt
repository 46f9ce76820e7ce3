use Rattle.std.proofs.Common.{◌≡◌, ◌++◌, take}
use Rattle.std.specs.List.{flat_map}
use Rattle.manifest_codec.specs.Spelling.{label_bytes}
use Rattle.manifest_codec.proofs.encoder.put_labels.Given as goal

abbrev pub invariant-loop-name : goal.invariant-loop-name
invariant-loop-name l = l.out.items ≡ l.fn.out.items ++ flat_map label_bytes (take l.name-index l.labels)
