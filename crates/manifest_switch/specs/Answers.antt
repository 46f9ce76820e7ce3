-- What reading the slots answers.
use Rattle.std.specs.Prelude.{◌≡◌, ℕ, ◌+◌, true, false, List, length, Option, Some, None, Result, Ok, Err}
use Rattle.faults.specs.Reasons.{Why, broken, disk_failed, no_memory}
use Rattle.faults.specs.declared.form_kind.FormKind.TheVariants.{Short}
use Rattle.manifest_codec.specs.declared.types.Manifest.{Manifest}
use Rattle.manifest_codec.specs.declared.types.ManifestFault.{ManifestFault}
use Rattle.manifest_switch.specs.declared.slot.Slot.{Slot}
use Rattle.manifest_switch.specs.declared.slot.Found.{Found}
use Rattle.manifest_switch.specs.declared.slot.Found.TheVariants.{Blank, At}
use Rattle.manifest_codec.specs.Spelling.{FitsManifest}
use Rattle.manifest_switch.specs.declared.slot.OpenFault.{OpenFault}
use Rattle.manifest_switch.specs.declared.slot.OpenFault.TheVariants.{DiskFault, BadStore, NoMemory}
use Rattle.manifest_switch.specs.Slots.{is_open, bad_body}

-- a manifest that is found keeps the rules of its format
abbrev pub HoldsFit : Found → Type 0
HoldsFit Blank = Unit {0}
HoldsFit (At s m) = FitsManifest m

-- the reason of each fault
abbrev pub why_not_open : OpenFault → Why
why_not_open DiskFault = disk_failed
why_not_open (BadStore file place kind) = broken file place kind
why_not_open NoMemory = no_memory

-- what was asked for, unless disk or memory failed. No bytes are blamed.
abbrev pub GivesUnblamed : {T : Type 0} → Result T OpenFault → (T → Type 0) → Type 0
GivesUnblamed (Ok x) P = P x
GivesUnblamed (Err (BadStore file place kind)) P = ⊥
GivesUnblamed (Err DiskFault) P = Unit {0}
GivesUnblamed (Err NoMemory) P = Unit {0}

-- the bytes end within a field
abbrev pub IsCutShort : Result Manifest ManifestFault → Type 0
IsCutShort (Ok m) = ⊥
IsCutShort (Err f) = f.kind ≡ Short

-- the slot isn't open, or it is and has so many bytes behind its gate
abbrev pub AnswersOpen : List ℕ → Option ℕ → Type 0
AnswersOpen file None = is_open file ≡ false
AnswersOpen file (Some n) = (is_open file ≡ true) × (length file ≡ 1 + n)

-- what a slot says, unless disk or memory failed
abbrev pub AnswersSlot : Slot → Option (Result Manifest ManifestFault) → Result (Option Manifest) OpenFault → Type 0
AnswersSlot s said (Ok None) = said ≡ None
AnswersSlot s said (Ok (Some m)) = said ≡ Some (Ok m)
AnswersSlot s said (Err (BadStore file place kind)) = (f : ManifestFault) × (said ≡ Some (Err f)) × (BadStore file place kind ≡ bad_body s f)
AnswersSlot s said (Err DiskFault) = Unit {0}
AnswersSlot s said (Err NoMemory) = Unit {0}

-- what the slots hold, unless disk or memory failed
abbrev pub AnswersCurrent : Result Found OpenFault → Result Found OpenFault → Type 0
AnswersCurrent held (Ok found) = held ≡ Ok found
AnswersCurrent held (Err (BadStore file place kind)) = held ≡ Err (BadStore file place kind)
AnswersCurrent held (Err DiskFault) = Unit {0}
AnswersCurrent held (Err NoMemory) = Unit {0}
