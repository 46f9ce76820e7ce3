-- The order of refusals: a command goes through stages, and a status is explained by the first stage that refuses.
use Rattle.std.specs.Prelude.{ℕ, ◌⊎◌, List, [], ◌∷◌, Option, Some, None}
use Rattle.faults.specs.Reasons.{Causes, Holds, Why, broken, differs, disk_failed, faulty, no_memory, no_store, no_words}
use Rattle.faults.specs.Reasons.{not_known, read_failed, work_left, write_failed}
use Rattle.disk_model.specs.declared.disk.Disk as disk
use Rattle.disk_model.specs.View.{DiskRose}
use Rattle.io_edge.specs.declared.devices.Inputs as inputs
use Rattle.io_edge.specs.declared.devices.Sink as sink
use Rattle.io_edge.specs.View.{ReadRose, WriteRose}
use Rattle.graspan_top.specs.declared.status.Status.{Status}
use Rattle.graspan_top.specs.declared.status.Status.TheVariants.{Done, Words, InputFault, OtherInput, ReadFault}
use Rattle.graspan_top.specs.declared.status.Status.TheVariants.{DiskFault, WriteFault, NoMemory, BadStore, NoStore}
use Rattle.graspan_top.specs.declared.status.Status.TheVariants.{Unfinished, NotKnown}

-- a stage of a command: the causes for which it refuses, and what is so where it is passed
pub record Stage : Type 1 where
  pub refuses : Causes
  pub passed : Type 0

-- The first stage that refuses has this reason: the first of all does, or it is passed and one of the rest does.
abbrev pub FirstRefusal : List Stage → Why → Type 0
FirstRefusal [] why = ⊥
FirstRefusal (stage ∷ rest) why = Holds stage.refuses why ⊎ (stage.passed × FirstRefusal rest why)

-- every stage is passed
abbrev pub ArePassed : List Stage → Type 0
ArePassed [] = Unit {0}
ArePassed (stage ∷ rest) = stage.passed × ArePassed rest

-- the reason of each status. Done has none.
abbrev pub why_not : Status → Option Why
why_not Done = None
why_not Words = Some no_words
why_not (InputFault file line kind) = Some (faulty file line kind)
why_not (OtherInput file place) = Some (differs file place)
why_not ReadFault = Some read_failed
why_not DiskFault = Some disk_failed
why_not WriteFault = Some write_failed
why_not NoMemory = Some no_memory
why_not (BadStore file place kind) = Some (broken file place kind)
why_not NoStore = Some no_store
why_not (Unfinished i j) = Some (work_left i j)
why_not NotKnown = Some not_known

abbrev pub RefusesFor : List Stage → Option Why → Type 0
RefusesFor stages None = ⊥
RefusesFor stages (Some why) = FirstRefusal stages why

-- the status is a refusal, and the first stage that refuses explains it
abbrev pub Refuses : List Stage → Status → Type 0
Refuses stages status = RefusesFor stages (why_not status)

abbrev pub EndsFor : List Stage → Option Why → Type 0
EndsFor stages None = ArePassed stages
EndsFor stages (Some why) = FirstRefusal stages why

-- the first stage that refuses explains the status, and at Done every stage is passed
abbrev pub Explained : List Stage → Status → Type 0
Explained stages status = EndsFor stages (why_not status)

-- ---- the counts of faults

-- which counts of faults rose: that of an input's name, that of the disk, and that of what is printed to
pub record Rises : Type 1 where
  pub reads : List ℕ → Type 0
  pub disk : Type 0
  pub writes : Type 0

-- none did
abbrev pub no_rise : Rises
no_rise = record { reads = λ name. ⊥; disk = ⊥; writes = ⊥ }

-- those that rose in a call that made these inputs and this disk of those
abbrev pub rises_in : {I D : Type 0} → inputs.Ghosts I → disk.Ghosts D → I → I → D → D → Rises
rises_in i d inputs inputs' disk disk' =
    record { reads = ReadRose i inputs inputs'; disk = DiskRose d disk disk'; writes = ⊥ }

-- and this output of that one
abbrev pub rises_of : {I D O : Type 0} → inputs.Ghosts I → disk.Ghosts D → sink.Ghosts O → I → I → D → D → O → O → Rises
rises_of i d o inputs inputs' disk disk' out out' =
    record { reads = ReadRose i inputs inputs'; disk = DiskRose d disk disk'; writes = WriteRose o out out' }
