use Rattle.std.proofs.Common.{◌≡◌, ◌<◌, ◌≤◌, ◌-◌, ℕ, List, IsTrue, Some, length, take}
use Rattle.io_edge.specs.View.{KeepsInputs}
use Rattle.disk_model.specs.View.{OnlyLooks}
use Rattle.open_store.proofs.comparison.compare.Given as goal

abbrev pub invariant-loop-copy : goal.invariant-loop-copy
invariant-loop-copy g l =
    let D = g.D.Disk in
    let I = g.I.Inputs in
    record {
      place : l.place ≤ l.len;
      text_room : length l.text.items ≡ 65536;
      copy_room : 0 < length l.copy.items;
      same : (text : List ℕ) → I.told l.fn.inputs l.name ≡ Some text → IsTrue D.tells → take l.place text ≡ take l.place (take l.len (D.seen l.fn.disk l.file));
      looks : OnlyLooks D l.fn.disk l.disk;
      keeps : KeepsInputs I l.fn.inputs l.inputs;
    }

abbrev pub decreases-loop-copy : goal.decreases-loop-copy
decreases-loop-copy g l = l.len - l.place
