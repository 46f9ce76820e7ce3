-- What the parts of a commit make of an image, and what they ask of it.
use Rattle.std.specs.Prelude.{◌≡◌, ◌≢◌, ◌⊎◌, ℕ, false, Option, Some, None, Result, Ok, Err}
use Rattle.faults.specs.Reasons.{Why, disk_failed, no_memory}
use Rattle.disk_model.specs.Disk.{Contents}
use Rattle.disk_model.specs.Crash.{From}
use Rattle.manifest_codec.specs.declared.types.Manifest.{Manifest}
use Rattle.manifest_switch.specs.declared.slot.Slot.{Slot}
use Rattle.manifest_switch.specs.declared.slot.Slot.TheVariants.{Zero}
use Rattle.manifest_switch.specs.declared.slot.Found.TheVariants.{At}
use Rattle.manifest_switch.specs.declared.slot.SwitchFault.{SwitchFault}
use Rattle.manifest_switch.specs.declared.slot.SwitchFault.TheVariants.{DiskFault, NoMemory}
use Rattle.manifest_switch.specs.Slots.{file_of, other, is_open, open_body, body, current_of, next_generation, HasOnly}

-- the slot isn't open, or the other one is the current one
abbrev pub MayClose : Slot → Contents → Type 0
MayClose s c = (is_open (c (file_of s)) ≡ false) ⊎ ((m : Manifest) × (current_of c ≡ Ok (At (other s) m)))

-- a step that leaves what is current, and all files but this slot's
pub record Keeps (s : Slot) (old new : Contents) : Type 0 where
  pub same : current_of new ≡ current_of old
  pub others : (f : ℕ) → f ≢ file_of s → new f ≡ old f

-- the other slot isn't open, or the generation follows that of its manifest
abbrev pub Succeeds : Slot → Manifest → Contents → Type 0
Succeeds s m c = (is_open (c (file_of (other s))) ≡ false)
    ⊎ ((o : Manifest) × (open_body (c (file_of (other s))) ≡ Some (Ok o))
    × (m.generation ≡ next_generation o.generation))

-- the slot isn't open, and has the body of a manifest that may become the current one
pub record IsSlotReady (s : Slot) (c : Contents) : Type 0 where
  pub closed : is_open (c (file_of s)) ≡ false
  pub next : Manifest
  pub body_is : body (c (file_of s)) ≡ Ok next
  pub follows : Succeeds s next c

-- a step that leaves what is current, or makes this slot's body current, and leaves all files but this slot's
pub record Opens (s : Slot) (old new : Contents) : Type 0 where
  pub becomes : (current_of new ≡ current_of old) ⊎ ((m : Manifest) × (body (old (file_of s)) ≡ Ok m) × (current_of new ≡ Ok (At s m)))
  pub others : (f : ℕ) → f ≢ file_of s → new f ≡ old f

-- a step that leaves what is current, and all files but the slots
pub record Stays (old new : Contents) : Type 0 where
  pub same : current_of new ≡ current_of old
  pub others : (f : ℕ) → f ≢ 0 → f ≢ 1 → new f ≡ old f

-- this manifest is current, and all files but the slots are as a read gave them
pub record IsMade (seen : Contents) (m : Manifest) (c : Contents) : Type 0 where
  pub slot : Slot
  pub current : current_of c ≡ Ok (At slot m)
  pub others : (f : ℕ) → f ≢ 0 → f ≢ 1 → c f ≡ seen f

-- what a switch makes of an image: it leaves what is current, and all files but the slots; or this manifest is
-- current, and all files but the slots are as a read gave them, since it is made only behind a sync
abbrev pub Switches : Contents → Manifest → Contents → Contents → Type 0
Switches seen m old new = Stays old new ⊎ IsMade seen m new

-- what a crash during a switch leaves: an image from before after such a step
abbrev pub IsAmid : (Contents → Type 0) → Contents → Manifest → Contents → Type 0
IsAmid images seen m = From images (Switches seen m)

-- the slot is open with this manifest, and all other files are as before
pub record IsPlaced (s : Slot) (m : Manifest) (old new : Contents) : Type 0 where
  pub here : open_body (new (file_of s)) ≡ Some (Ok m)
  pub others : (f : ℕ) → f ≢ file_of s → new f ≡ old f

-- the manifest is in the only open slot, and all files but the slots are as before
pub record IsSwitched (s : Slot) (m : Manifest) (old new : Contents) : Type 0 where
  pub only : HasOnly s m new
  pub others : (f : ℕ) → f ≢ 0 → f ≢ 1 → new f ≡ old f

-- the other slot is where the next manifest goes, and slot 0 on a blank store
abbrev pub target_of : Option Slot → Slot
target_of None = Zero
target_of (Some s) = other s

-- the reason of each fault
abbrev pub why_not_switched : SwitchFault → Why
why_not_switched DiskFault = disk_failed
why_not_switched NoMemory = no_memory
