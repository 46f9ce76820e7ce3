use Rattle.std.proofs.Common.{◌≡◌, take}
use Rattle.label_table.proofs.copy_names.Given as goal

abbrev pub invariant-loop-name : goal.invariant-loop-name
invariant-loop-name l = l.copy.keys ≡ take l.name-index l.names
