-- What opening a store answers.
use Rattle.std.specs.Prelude.{◌≡◌, ℕ, Ok, Err}
use Rattle.disk_model.specs.Disk.{Contents}
use Rattle.faults.specs.declared.form_kind.FormKind.{FormKind}
use Rattle.manifest_codec.specs.declared.types.Manifest.{Manifest}
use Rattle.manifest_switch.specs.declared.slot.Slot.{Slot}
use Rattle.manifest_switch.specs.declared.slot.Found.TheVariants as slots
use Rattle.manifest_switch.specs.declared.slot.OpenFault.TheVariants as slot_faults
use Rattle.manifest_switch.specs.Slots.{IsBlank, current_of}
use Rattle.open_store.specs.declared.opened.Opened.{Opened}
use Rattle.open_store.specs.declared.opened.Opened.TheVariants.{Blank, Found}
use Rattle.open_store.specs.Copy.{IsBadCopy}
use Rattle.open_store.specs.Store.{IsHeld, IsHeldAlone}

-- what was opened is what the contents hold
abbrev pub IsOpened : Contents → Opened → Type 0
IsOpened c Blank = current_of c ≡ Ok slots.Blank
IsOpened c (Found s) = IsHeld s c

-- and it may be changed
abbrev pub IsOpenedAlone : Contents → Opened → Type 0
IsOpenedAlone c Blank = IsBlank c
IsOpenedAlone c (Found s) = IsHeldAlone s c

-- why the contents hold neither a store nor a blank one: the slots say no manifest, or the copy of the grammar is not the one of which it tells
pub data IsBadStore (c : Contents) : ℕ → ℕ → FormKind → Type 0 where
  slots_break : {file place : ℕ} {kind : FormKind} → current_of c ≡ Err (slot_faults.BadStore file place kind) → IsBadStore c file place kind
  copy_breaks : {file place : ℕ} {kind : FormKind} (s : Slot) (m : Manifest) → current_of c ≡ Ok (slots.At s m)
      → IsBadCopy s m (c 2) file place kind → IsBadStore c file place kind
