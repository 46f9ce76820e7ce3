-- What steps of closing answer, and why.
use Rattle.std.specs.Prelude.{◌≡◌, ◌⊎◌, ℕ, ◌<◌, ◌≤◌, true, Bool, IsTrue, List, length}
use Rattle.graph_words.specs.declared.types.Born.{Born}
use Rattle.normal_law.specs.Closure.{Normal}
use Rattle.normal_law.specs.NormalForm.{normal_form}
use Rattle.closing_machine.specs.State.{IsPick}
use Rattle.closing_machine.specs.Machine.{is_among}
use Rattle.closing_machine.specs.Chain.{EndsChain}
use Rattle.closing_machine.specs.Parts.{all_edges}
use Rattle.closing_machine.specs.Tells.{Tells}
use Rattle.disk_model.specs.Disk.{Contents}
use Rattle.disk_model.specs.Crash.{LeavesJust}
use Rattle.faults.specs.declared.form_kind.FormKind.{FormKind}
use Rattle.dest_map.specs.Table.{counts_of}
use Rattle.pair_sched.specs.Marks.{joined_of, newest_of}
use Rattle.manifest_switch.specs.Slots.{other}
use Rattle.manifest_codec.specs.declared.types.Manifest.{Manifest}
use Rattle.store_law.specs.Listed.{AreListed, part_file, state_in}
use Rattle.store_law.specs.Left.{HasNoWork}
use Rattle.open_store.specs.Store.{IsHeldAlone, OpenStore}
use Rattle.open_store.specs.PartRead.{IsRefused}
use Rattle.closer.specs.declared.one_step.Stepped.{Stepped}
use Rattle.closer.specs.declared.one_step.Stepped.TheVariants.{Again, Finished}
use Rattle.closer.specs.Continuation.{Continues, ImageGoesOn, HasWork, IsUntouched, Retains, work_of}

abbrev pub IfFinished : Stepped → (OpenStore → Type 0) → Type 0
IfFinished (Finished s) P = P s
IfFinished (Again s) P = Unit {0}

abbrev pub IfAgain : Stepped → (OpenStore → Type 0) → Type 0
IfAgain (Finished s) P = Unit {0}
IfAgain (Again s) P = P s

-- The store before had work left, and this is the one after a step, in the other slot: where the disk tells its
-- contents they go on from those before. It may be changed again, and what a read gives is what a crash leaves.
pub record IsStepped (tells : Bool) (seen_before : Contents) (before : OpenStore) (seen : Contents)
    (images : Contents → Type 0) (s : OpenStore) : Type 0 where
  pub work : HasWork before.manifest
  pub continues : IsTrue tells → Continues (normal_form before.rules) 1 seen_before before.manifest seen s.manifest
  pub rules_are : s.rules ≡ before.rules
  pub slot_is : s.slot ≡ other before.slot
  pub less : work_of s.manifest < work_of before.manifest
  pub held : (c : Contents) → images c → IsHeldAlone s c
  pub synced : LeavesJust seen images

-- Whatever partitions m lists and tells of, `last` lists the end of the closing machine's chain of steps from them,
-- for each limit of a partition and budget that the edges at the end don't pass.
abbrev pub EndsAsMachine : Normal → Contents → Manifest → Contents → Manifest → Type 0
EndsAsMachine n c m d last = (parts : List (List Born)) → AreListed c m n.fresh parts
    → Tells (counts_of m.map) (joined_of m.marks) (newest_of m.marks) (state_in m parts)
    → (after : List (List Born)) × AreListed d last n.fresh after
    × ((limit : ℕ) → length (all_edges after) ≤ limit
    → EndsChain n limit limit (state_in m parts) (state_in last after))

-- The store has no work left, and came from the one before by some steps, which are those of the closing machine.
pub record IsClosedStore (tells : Bool) (seen_before : Contents) (images_before : Contents → Type 0) (before : OpenStore)
    (seen : Contents) (images : Contents → Type 0) (s : OpenStore) : Type 0 where
  pub done : HasNoWork s.manifest
  pub continues : IsTrue tells → (k : ℕ) × Continues (normal_form before.rules) k seen_before before.manifest seen s.manifest
  pub ends : IsTrue tells → EndsAsMachine (normal_form before.rules) seen_before before.manifest seen s.manifest
  pub rules_are : s.rules ≡ before.rules
  pub held : (c : Contents) → images c → IsHeldAlone s c
  pub synced : LeavesJust seen_before images_before → LeavesJust seen images

-- what steps make of an image at each moment: it keeps the store as it was, or goes on from it as a read gave it
abbrev pub Moves : OpenStore → Contents → Contents → Contents → Type 0
Moves s seen old new = Retains s.manifest old new ⊎ ImageGoesOn (normal_form s.rules) seen s.manifest new

-- a partition of the pair that is picked is blamed, whose file, as read, is no file of it
pub record BlamesPicked (s : OpenStore) (tells : Bool) (seen : Contents) (file place : ℕ) (kind : FormKind) : Type 0 where
  pub i : ℕ
  pub j : ℕ
  pub pick : IsPick (counts_of s.manifest.map) (joined_of s.manifest.marks) (newest_of s.manifest.marks) (length s.manifest.parts) i j
  pub partition : ℕ
  pub among : is_among i j partition ≡ true
  pub file_is : file ≡ part_file s.manifest partition
  pub refused : IsTrue tells → IsRefused s partition (seen file) place kind

-- The same of a store on the way, in the contents of that moment. The file is the one that the store from before has
-- for this partition, with its bytes from before.
pub record BlamesOnTheWay (before : OpenStore) (tells : Bool) (seen_before : Contents) (file place : ℕ) (kind : FormKind) : Type 0 where
  pub store : OpenStore
  pub seen : Contents
  pub rules_are : store.rules ≡ before.rules
  pub reached : IsTrue tells → (k : ℕ) × Continues (normal_form before.rules) k seen_before before.manifest seen store.manifest
  pub blames : BlamesPicked store tells seen file place kind
  pub untouched : IsTrue tells → IsUntouched before.manifest seen_before store.manifest seen blames.partition
