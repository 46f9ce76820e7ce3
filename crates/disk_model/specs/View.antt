-- What a call makes of a disk, in words that take the disk whole: its trait, and how it is before and after.
use Rattle.std.specs.Prelude.{◌≡◌, ℕ, ◌≤◌}
use Rattle.faults.specs.declared.form_kind.FormKind.{FormKind}
use Rattle.faults.specs.Counts.{Rose}
use Rattle.faults.specs.Reasons.{Causes, disk_causes}
use Rattle.disk_model.specs.declared.disk.Disk as disk
use Rattle.disk_model.specs.Disk.{Contents}
use Rattle.disk_model.specs.Crash.{NoMore, Elapses, LeavesJust, LeavesOnly, From}

-- The call only looked: what a read gives is as before, a crash leaves just what it could before, at each moment too, and
-- the count of faults doesn't fall.
pub record OnlyLooks {D : Type 0} (d : disk.Ghosts D) (old new : D) : Type 0 where
  pub same_seen : d.seen new ≡ d.seen old
  pub no_more : NoMore (d.may_leave old) (d.may_leave new)
  pub no_less : NoMore (d.may_leave new) (d.may_leave old)
  pub past : (t : ℕ) (c : Contents) → d.left_since new t c → d.left_since old t c
  pub time : Elapses (d.moment old) (d.moment new) (d.left_since old) (d.left_since new) (d.may_leave new)
  pub later : d.faults old ≤ d.faults new

-- whatever a crash at a moment since then leaves comes by this step from what one might have left then
abbrev pub LeavesBy : {D : Type 0} → disk.Ghosts D → D → D → (Contents → Contents → Type 0) → Type 0
LeavesBy d old new step = LeavesOnly d.moment d.left_since old new (From (d.may_leave old) step)

-- a crash now leaves just what a read gives
abbrev pub IsDurable : {D : Type 0} → disk.Ghosts D → D → Type 0
IsDurable d now = LeavesJust (d.seen now) (d.may_leave now)

-- the disk's count of faults rose
abbrev pub DiskRose : {D : Type 0} → disk.Ghosts D → D → D → Type 0
DiskRose d old new = Rose (d.faults old) (d.faults new)

-- why a call of the disk alone has no answer: its count rose, or a file of it is blamed for this
abbrev pub on_disk : {D : Type 0} → disk.Ghosts D → D → D → (ℕ → ℕ → FormKind → Type 0) → Causes
on_disk d old new bad = disk_causes (DiskRose d old new) bad
