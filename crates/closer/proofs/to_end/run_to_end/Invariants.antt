use Rattle.std.proofs.Common.{◌≡◌, ◌≤◌, ℕ}
use Rattle.std.specs.Prelude.{IsTrue}
use Rattle.normal_law.specs.NormalForm.{normal_form}
use Rattle.disk_model.specs.Disk.{Contents}
use Rattle.disk_model.specs.Crash.{From, LeavesJust, LeavesOnly}
use Rattle.store_law.specs.Left.{HasNoWork}
use Rattle.open_store.specs.Store.{IsHeldAlone}
use Rattle.closer.specs.Continuation.{Continues, Retains, work_of}
use Rattle.closer.specs.Answers.{Moves}
use Rattle.closer.proofs.to_end.run_to_end.Given as goal

abbrev pub invariant-loop-next : goal.invariant-loop-next
invariant-loop-next g l =
    let D = g.D.Disk in
    record {
      rules : l.current.rules ≡ l.fn.store.rules;
      on : IsTrue D.tells → (k : ℕ) × Continues (normal_form l.fn.store.rules) k (D.seen l.fn.disk) l.fn.store.manifest (D.seen l.disk) l.current.manifest;
      held : (c : Contents) → D.may_leave l.disk c → IsHeldAlone l.current c;
      synced : LeavesJust (D.seen l.fn.disk) (D.may_leave l.fn.disk) → LeavesJust (D.seen l.disk) (D.may_leave l.disk);
      rest : HasNoWork l.fn.store.manifest → (l.current ≡ l.fn.store) × (l.disk ≡ l.fn.disk);
      any_moment : LeavesOnly D.moment D.left_since l.fn.disk l.disk (From (D.may_leave l.fn.disk) (Moves l.fn.store (D.seen l.fn.disk)));
      behind : (c : Contents) → From (D.may_leave l.disk) (Retains l.current.manifest) c → From (D.may_leave l.fn.disk) (Moves l.fn.store (D.seen l.fn.disk)) c;
      later : D.faults l.fn.disk ≤ D.faults l.disk;
    }

abbrev pub decreases-loop-next : goal.decreases-loop-next
decreases-loop-next g l = work_of l.current.manifest
