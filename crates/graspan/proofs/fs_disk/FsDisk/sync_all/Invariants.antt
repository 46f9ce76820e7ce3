use Rattle.std.proofs.Common.{◌≡◌}
use Rattle.graspan.proofs.fs_disk.FsDisk.sync_all.Given as goal

abbrev pub invariant-loop-number : goal.invariant-loop-number
invariant-loop-number g l = l.self.faults ≡ l.initial.self.faults
