-- What a run makes of the stores that a disk holds, at each moment of a crash.
use Rattle.std.specs.Prelude.{◌≡◌, ◌⊎◌, ℕ, Bool, IsTrue, List, Option, Some, Ok}
use Rattle.graph_words.specs.declared.types.Born.{Born}
use Rattle.disk_model.specs.declared.disk.Disk as disk
use Rattle.disk_model.specs.Disk.{Contents}
use Rattle.disk_model.specs.View.{LeavesBy}
use Rattle.manifest_switch.specs.declared.slot.Found.TheVariants.{Blank}
use Rattle.manifest_switch.specs.Slots.{current_of}
use Rattle.manifest_switch.specs.Steps.{Stays}
use Rattle.store_law.specs.Texts.{Texts}
use Rattle.store_law.specs.Left.{HoldsStore, IsLeft, ListsBorn}
use Rattle.store_law.specs.Kept.{Leads, Preserves}
use Rattle.store.specs.Import.{texts_of}
use Rattle.graspan_top.specs.Given.{Given}
use Rattle.graspan_top.specs.Run.{Accepts, IsGoodGrammar}
use Rattle.graspan_top.specs.declared.status.Status.{Status}
use Rattle.graspan_top.specs.declared.status.Status.TheVariants.{InputFault, OtherInput, ReadFault}

-- the contents aren't blank, where the disk tells them
abbrev pub IsNotBlank : Bool → Contents → Type 0
IsNotBlank tells c = IsTrue tells → current_of c ≡ Ok Blank → ⊥

-- What a run of these files makes of stores, whatever texts they are of, and whatever it answers.
pub record KeepsWork {D : Type 0} (d : disk.Ghosts D) (told : List ℕ → Option (List ℕ)) (edges grammar : List ℕ)
    (old new : D) : Type 0 where
  -- What stopped runs of some texts leave stays such, or becomes what stopped runs of these files leave.
  pub left : (t : Texts) (g e : List ℕ) → told grammar ≡ Some g → told edges ≡ Some e
      → Leads d old new (IsLeft t) (λ c. IsLeft t c ⊎ IsLeft (texts_of g e) c)
  -- Where the disk isn't blank it stays what stopped runs of those texts leave.
  pub others : IsNotBlank d.tells (d.seen old) → (t : Texts) → Preserves d old new (IsLeft t)
  -- Where no image is blank, none becomes so.
  pub stores : (t : Texts) → Preserves d old new (HoldsStore t)
  -- An edge that each image lists with one birth stays listed with it.
  pub births : (t : Texts) (b : Born) → Preserves d old new (ListsBorn t b)

-- a refusal of one of the two files, or a read of it that failed
abbrev pub RefusesFile : Status → Type 0
RefusesFile (InputFault file line kind) = Unit {0}
RefusesFile (OtherInput file place) = Unit {0}
RefusesFile ReadFault = Unit {0}
RefusesFile _ = ⊥

-- What a run leaves as it was.
pub record Spares {D : Type 0} (d : disk.Ghosts D) (x : Given) (edges grammar : List ℕ) (status : Status)
    (old new : D) : Type 0 where
  -- A store that these files may not close, or that is of a file that is refused: but for the closing of an older gate.
  pub refused : IsNotBlank x.tells x.before → (Accepts x edges grammar → ⊥) ⊎ RefusesFile status
      → LeavesBy d old new Stays
  -- The disk, where the grammar has a fault.
  pub faulty : (g : List ℕ) → x.told grammar ≡ Some g → (IsGoodGrammar g → ⊥) → new ≡ old
