use Rattle.std.proofs.Common.{◌≤◌, length}
use Rattle.std.specs.Prelude.{IsTrue}
use Rattle.disk_model.specs.Crash.{LeavesOnly, From}
use Rattle.store.specs.NewStore.{IsBeside, IsBuilt, SameTexts}
use Rattle.store.proofs.parts.put_parts.Given as goal

abbrev pub invariant-loop-i : goal.invariant-loop-i
invariant-loop-i g l =
    let D = g.D.Disk in
    record {
      built : IsBuilt l.source l.intervals (IsTrue D.tells) (D.seen l.disk) l.i l.tables;
      within : l.i ≤ length l.intervals;
      texts : IsTrue D.tells → SameTexts (D.seen l.fn.disk) (D.seen l.disk);
      any_moment : LeavesOnly D.moment D.left_since l.fn.disk l.disk (From (D.may_leave l.fn.disk) IsBeside);
      later : D.faults l.fn.disk ≤ D.faults l.disk;
    }
