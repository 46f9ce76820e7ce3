-- Two slots, each with a gate and a body behind it, and which of them is current.
use Rattle.std.specs.Prelude.{◌≡◌, ◌≢◌, ℕ, ◌+◌, ◌%◌, ◌<◌, Bool, false, ◌&&◌, ◌||◌, nat_lt, nat_eq, if◌then◌else◌}
use Rattle.std.specs.Prelude.{◌==◌, List, [], ◌∷◌, length, drop, slice_index, Option, Some, None, Result, Ok, Err}
use Rattle.disk_model.specs.Disk.{Contents, written}
use Rattle.faults.specs.declared.form_kind.FormKind.TheVariants.{Generations}
use Rattle.manifest_codec.specs.declared.types.Manifest.{Manifest}
use Rattle.manifest_codec.specs.declared.types.ManifestFault.{ManifestFault}
use Rattle.manifest_codec.specs.FieldsRead.{reading}
use Rattle.manifest_switch.specs.declared.slot.Slot.{Slot}
use Rattle.manifest_switch.specs.declared.slot.Slot.TheVariants.{Zero, One}
use Rattle.manifest_switch.specs.declared.slot.Found.{Found}
use Rattle.manifest_switch.specs.declared.slot.Found.TheVariants.{Blank, At}
use Rattle.manifest_switch.specs.declared.slot.OpenFault.{OpenFault}
use Rattle.manifest_switch.specs.declared.slot.OpenFault.TheVariants.{BadStore}

-- the file of a slot
abbrev pub file_of : Slot → ℕ
file_of Zero = 0
file_of One = 1

-- the other slot
abbrev pub other : Slot → Slot
other Zero = One
other One = Zero

-- a slot is open: its file has at least 2 bytes, and its gate is 1
unfoldable pub is_open : List ℕ → Bool
is_open file = nat_lt 1 (length file) && (slice_index file 0 == 1)

-- the value that bytes spell, without how many bytes do
abbrev pub value_of : Result (Manifest × ℕ) ManifestFault → Result Manifest ManifestFault
value_of (Ok x) = Ok x.0
value_of (Err f) = Err f

-- what the bytes behind a gate say: a manifest, or the first field that breaks its rule
unfoldable pub body : List ℕ → Result Manifest ManifestFault
body file = value_of (reading (drop 1 file))

-- what an open slot's body says, and nothing of a slot that isn't open
unfoldable pub open_body : List ℕ → Option (Result Manifest ManifestFault)
open_body file = if is_open file then Some (body file) else None

-- the generation that follows
abbrev pub next_generation : ℕ → ℕ
next_generation g = (g + 1) % 3

-- a slot's body breaks a rule
abbrev pub bad_body : Slot → ManifestFault → OpenFault
bad_body s f = BadStore (file_of s) f.place f.kind

-- of two open slots the one whose generation follows the other's is current. The generations are at place 5.
unfoldable pub later_of : Manifest → Manifest → Result Found OpenFault
later_of a b =
    if a.generation == b.generation then Err (BadStore 1 5 Generations) else
    if b.generation == next_generation a.generation then Ok (At One b) else Ok (At Zero a)

-- which slot is current: none where none is open, the only open one, or the later one of two. Each open slot has to say a manifest, slot 0 first.
unfoldable pub chosen : Option (Result Manifest ManifestFault) → Option (Result Manifest ManifestFault) → Result Found OpenFault
chosen None None = Ok Blank
chosen None (Some (Ok b)) = Ok (At One b)
chosen None (Some (Err f)) = Err (bad_body One f)
chosen (Some (Ok a)) None = Ok (At Zero a)
chosen (Some (Ok a)) (Some (Ok b)) = later_of a b
chosen (Some (Ok a)) (Some (Err f)) = Err (bad_body One f)
chosen (Some (Err f)) second = Err (bad_body Zero f)

-- what the contents of a disk hold as the current manifest
abbrev pub current_of : Contents → Result Found OpenFault
current_of c = chosen (open_body (c 0)) (open_body (c 1))

-- no slot is open
pub record IsBlank (c : Contents) : Type 0 where
  pub first : is_open (c 0) ≡ false
  pub second : is_open (c 1) ≡ false

-- the slot is open with this manifest, and the other one isn't open
pub record HasOnly (s : Slot) (m : Manifest) (c : Contents) : Type 0 where
  pub here : open_body (c (file_of s)) ≡ Some (Ok m)
  pub none_else : is_open (c (file_of (other s))) ≡ false

-- a gate that has to be written to be closed: there is no byte, or it is 1
unfoldable pub is_loose : List ℕ → Bool
is_loose file = nat_eq (length file) 0 || (slice_index file 0 == 1)

-- a closed gate: a byte at place 0 that isn't 1
pub record IsClosedGate (file : List ℕ) : Type 0 where
  pub some : 0 < length file
  pub shut : slice_index file 0 ≢ 1

-- the file with its gate closed. A closed gate is not written again.
abbrev pub with_closed_gate : List ℕ → List ℕ
with_closed_gate file = if is_loose file then written file 0 (0 ∷ []) else file
