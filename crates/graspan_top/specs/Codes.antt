use Rattle.std.specs.Prelude.{ℕ}
use Rattle.graspan_top.specs.declared.status.Status.{Status}
use Rattle.graspan_top.specs.declared.status.Status.TheVariants.{Done, Words, InputFault, OtherInput, ReadFault}
use Rattle.graspan_top.specs.declared.status.Status.TheVariants.{DiskFault, WriteFault, NoMemory, BadStore, NoStore}
use Rattle.graspan_top.specs.declared.status.Status.TheVariants.{Unfinished, NotKnown}

-- the number that the program ends with
abbrev pub code_of : Status → ℕ
code_of Done = 0
code_of Words = 1
code_of (InputFault file line kind) = 2
code_of (OtherInput file place) = 3
code_of ReadFault = 4
code_of DiskFault = 5
code_of WriteFault = 6
code_of NoMemory = 7
code_of (BadStore file place kind) = 8
code_of NoStore = 9
code_of (Unfinished i j) = 10
code_of NotKnown = 11
