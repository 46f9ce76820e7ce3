-- What a command is given, as far as the objects that are handed in tell.
use Rattle.std.specs.Prelude.{◌≡◌, ℕ, Bool, IsTrue, List, Option, Some, Ok}
use Rattle.disk_model.specs.Disk.{Contents}
use Rattle.manifest_codec.specs.declared.types.Manifest.{Manifest}
use Rattle.manifest_switch.specs.declared.slot.Slot.{Slot}
use Rattle.manifest_switch.specs.declared.slot.Found.TheVariants.{At}
use Rattle.manifest_switch.specs.Slots.{current_of}

pub record Given : Type 0 where
  -- the bytes of each input by its name, where they are told
  pub told : List ℕ → Option (List ℕ)
  -- whether the disk tells what it holds, and what a read gives before the command
  pub tells : Bool
  pub before : Contents

-- the file, where it is told
abbrev pub WhereTold : Option (List ℕ) → (List ℕ → Type 0) → Type 0
WhereTold told P = (file : List ℕ) → told ≡ Some file → P file

-- the contents' current manifest is this one
abbrev pub HasCurrent : Contents → Manifest → Type 0
HasCurrent c m = (slot : Slot) × (current_of c ≡ Ok (At slot m))

-- the current manifest, where there is one and the disk tells it
abbrev pub WhereCurrent : Bool → Contents → (Manifest → Type 0) → Type 0
WhereCurrent tells c P = IsTrue tells → (m : Manifest) → HasCurrent c m → P m

-- there is a current manifest, where the disk tells it, and this is so of it
abbrev pub HasCurrentWith : Bool → Contents → (Manifest → Type 0) → Type 0
HasCurrentWith tells c P = IsTrue tells → (m : Manifest) × HasCurrent c m × P m
