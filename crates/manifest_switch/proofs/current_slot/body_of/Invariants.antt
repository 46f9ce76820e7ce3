use Rattle.std.proofs.Common.{◌≤◌, ◌-◌, min}
use Rattle.disk_model.specs.View.{OnlyLooks}
use Rattle.manifest_switch.proofs.current_slot.body_of.Given as goal

abbrev pub invariant-loop-size : goal.invariant-loop-size
invariant-loop-size g l =
    record {
      within : l.size ≤ l.all;
      some : min l.all 1 ≤ l.size;
      looks : OnlyLooks g.D.Disk l.fn.disk l.disk;
    }

abbrev pub decreases-loop-size : goal.decreases-loop-size
decreases-loop-size g l = l.all - l.size
