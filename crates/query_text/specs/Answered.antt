-- What of a store was read and printed, and why a call has no answer.
use Rattle.std.specs.Prelude.{◌≡◌, ℕ, ◌+◌, ◌≤◌, ◌<◌, Bool, IsTrue, List, [], length, slice_index_or, Option, None, Some, Result, OnOk}
use Rattle.graph_words.specs.declared.types.Born.{Born}
use Rattle.normal_law.specs.NormalForm.{normal_form}
use Rattle.faults.specs.Reasons.{Causes, Why, broken, disk_failed, no_cause, no_memory, write_failed}
use Rattle.io_edge.specs.Devices.{Takes}
use Rattle.closing_machine.specs.State.{place}
use Rattle.closing_machine.specs.Parts.{all_edges}
use Rattle.disk_model.specs.Disk.{Contents}
use Rattle.faults.specs.declared.form_kind.FormKind.{FormKind}
use Rattle.store_law.specs.Listed.{AreListed, ends_of, part_file}
use Rattle.open_store.specs.Store.{OpenStore}
use Rattle.open_store.specs.PartRead.{IsRead, IsRefused}
use Rattle.query_text.specs.declared.fault.AnswerFault.{AnswerFault}
use Rattle.query_text.specs.declared.fault.AnswerFault.TheVariants.{BadStore, DiskFault, NoMemory, WriteFault}

-- the contents list these partitions, in the files that the store's manifest names
abbrev pub AreListedIn : OpenStore → Contents → List (List Born) → Type 0
AreListedIn s c parts = AreListed c s.manifest (normal_form s.rules).fresh parts

-- the first of the partitions that may have edges from the vertex that is asked for: the one that holds it, or the first of all
abbrev pub first_asked : OpenStore → Option ℕ → ℕ
first_asked s None = 0
first_asked s (Some u) = place (ends_of s.manifest) u

-- and how many they are
abbrev pub wanted : OpenStore → Option ℕ → ℕ
wanted s None = length s.manifest.parts
wanted s (Some u) = 1

-- the edges of partition first and of those behind it were read
pub record AreRead (s : OpenStore) (tells : Bool) (c : Contents) (first : ℕ) (read : List (List Born)) : Type 0 where
  pub within : first + length read ≤ length s.manifest.parts
  pub each : (i : ℕ) → i < length read → IsRead s (first + i) tells (c (part_file s.manifest (first + i))) (slice_index_or read i [])

-- these partitions were read, and at Ok all that are wanted. The sink took the text of their edges, or a prefix of it where the call failed.
pub record ArePartsPrinted {T : Type 0} (s : OpenStore) (tells : Bool) (c : Contents) (first wanted : ℕ)
    (text : List Born → List ℕ) (before after : Option (List ℕ)) (result : Result T AnswerFault)
    (read : List (List Born)) : Type 0 where
  pub are_read : AreRead s tells c first read
  pub few : length read ≤ wanted
  pub all : OnOk result (length read ≡ wanted)
  pub taken : Takes before after result (text (all_edges read))

-- the first of the wanted partitions that is refused, those before it having been read, for this break in its file
pub record IsBlamed (s : OpenStore) (tells : Bool) (c : Contents) (first wanted file place : ℕ) (kind : FormKind) : Type 0 where
  pub read : List (List Born)
  pub are_read : AreRead s tells c first read
  pub more : length read < wanted
  pub file_is : file ≡ part_file s.manifest (first + length read)
  pub refused : IsTrue tells → IsRefused s (first + length read) (c file) place kind

-- the reason of each fault
abbrev pub why_not_printed : AnswerFault → Why
why_not_printed WriteFault = write_failed
why_not_printed DiskFault = disk_failed
why_not_printed (BadStore file place kind) = broken file place kind
why_not_printed NoMemory = no_memory

-- why a call that prints what a disk lists has no answer: the sink's count rose, or the disk's, or a file is blamed for
-- this cause
abbrev pub print_causes : Type 0 → Type 0 → (ℕ → ℕ → FormKind → Type 0) → Causes
print_causes write_rose disk_rose bad = record no_cause { writes = write_rose; disk = disk_rose; bad = bad }
