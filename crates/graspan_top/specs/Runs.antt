-- Runs of the same files, one after the other.
use Rattle.std.specs.Prelude.{◌≡◌, ℕ, List, Option}
use Rattle.disk_model.specs.declared.disk.Disk as disk
use Rattle.disk_model.specs.Disk.{Contents}
use Rattle.manifest_switch.specs.Slots.{IsBlank}
use Rattle.graspan_top.specs.Call.{LeavesClosure}
use Rattle.graspan_top.specs.Stops.{KeepsWork}
use Rattle.graspan_top.specs.declared.status.Status.{Status}
use Rattle.graspan_top.specs.declared.status.Status.TheVariants.{Done}

-- a run: the disk with which it began, the one that it left, and how it ended
pub record Ran (D : Type 0) : Type 0 where
  pub old : D
  pub new : D
  pub status : Status

module _ {D : Type 0} (d : disk.Ghosts D) (told : List ℕ → Option (List ℕ)) (edges grammar : List ℕ) where
  -- it is one of these files, as `graspan` promises
  pub record IsRun (r : Ran D) : Type 0 where
    pub stops : KeepsWork d told edges grammar r.old r.new
    pub exact : r.status ≡ Done → LeavesClosure d told edges grammar r.old r.new

  -- It is the last of some such runs. The first of them began on a blank disk, and each next one on what a crash during
  -- or after the one before may have left.
  pub data IsInARow : Ran D → Type 0 where
    first : {r : Ran D} → IsRun r → ((c : Contents) → d.may_leave r.old c → IsBlank c) → IsInARow r
    next : {r : Ran D} → (before : Ran D) → IsInARow before → IsRun r
        → ((c : Contents) → d.may_leave r.old c → d.left_since before.new (d.moment before.old) c) → IsInARow r
