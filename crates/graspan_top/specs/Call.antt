-- A call of the program seen whole: what it is handed, what is there after it, and which counts of faults rose.
use Rattle.std.specs.Prelude.{◌≡◌, ◌⊎◌, ℕ, IsTrue, List, Option, Some}
use Rattle.disk_model.specs.declared.disk.Disk as disk
use Rattle.disk_model.specs.Disk.{Contents}
use Rattle.io_edge.specs.declared.devices.Inputs as inputs
use Rattle.io_edge.specs.declared.devices.Sink as sink
use Rattle.store_law.specs.Left.{IsLeft}
use Rattle.store_law.specs.Listed.{AreExact}
use Rattle.store.specs.Import.{texts_of}
use Rattle.command_words.specs.Command.{Reading, Said}
use Rattle.graspan_top.specs.Command.{IsBegunOf, IsTextOf, knows, stages_of}
use Rattle.graspan_top.specs.Given.{Given}
use Rattle.graspan_top.specs.Printed.{BeginsWhole, Ends, Prints}
use Rattle.graspan_top.specs.Refusals.{Explained, Rises, rises_of}
use Rattle.graspan_top.specs.declared.status.Status.{Status}
use Rattle.graspan_top.specs.declared.status.Status.TheVariants.{NoMemory, Words}

pub record Call : Type 1 where
  pub given : Given
  -- what a read gives after the call
  pub after : Contents
  -- which counts of faults rose
  pub rose : Rises
  -- what was printed by the start and by the end, where it is told
  pub printed_before : Option (List ℕ)
  pub printed_after : Option (List ℕ)

-- the call that made these inputs, this disk and this output of those
abbrev pub the_call : {I D O : Type 0} → inputs.Ghosts I → disk.Ghosts D → sink.Ghosts O → I → I → D → D → O → O → Call
the_call i d o inputs inputs' disk disk' out out' =
    record {
      given = record { told = i.told inputs; tells = d.tells; before = d.seen disk };
      after = d.seen disk';
      rose = rises_of i d o inputs inputs' disk disk' out out';
      printed_before = o.told out;
      printed_after = o.told out';
    }

-- the words have no reading
abbrev pub AreUnread : List (List ℕ) → Type 0
AreUnread words = (c : Said) → Reading words c → ⊥

-- the line of the fault is printed alone, unless a write fails
abbrev pub RefusesWords : Call → Status → Type 0
RefusesWords k status = ((status ≡ Words) ⊎ (status ≡ NoMemory)) × Ends k.printed_before k.printed_after k.rose.writes status

-- the first stage of the command that refuses explains the status, and at Done every stage is passed
abbrev pub IsExplained : Call → Said → Status → Type 0
IsExplained k c status = Explained (stages_of k.given k.after k.rose c) status

-- The command's text stands there at Done, and else a prefix of it or nothing, and the line of the fault. Also of a
-- store whose partitions can't be read, no more stands there than the front of a text that it has.
abbrev pub IsPrinted : Call → Said → Status → Type 0
IsPrinted k c status =
    Prints (knows k.given.tells k.given.told c) (IsTextOf k.given.told k.after c) k.printed_before k.printed_after k.rose.writes status
    × BeginsWhole (knows k.given.tells k.given.told c) (IsBegunOf k.given.told k.after c) k.printed_before k.printed_after
    k.rose.writes status

-- Where the disk held what stopped runs of these files leave, or nothing, it holds exactly the closure, and so does what a crash may leave.
abbrev pub LeavesClosure : {D : Type 0} → disk.Ghosts D → (List ℕ → Option (List ℕ)) → List ℕ → List ℕ → D → D → Type 0
LeavesClosure d told edges grammar old new =
    IsTrue d.tells → (g e : List ℕ) → told grammar ≡ Some g → told edges ≡ Some e → IsLeft (texts_of g e) (d.seen old)
    → AreExact (texts_of g e) (d.seen new) × ((c : Contents) → d.may_leave new c → AreExact (texts_of g e) c)
