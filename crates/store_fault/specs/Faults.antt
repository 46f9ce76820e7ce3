-- The reason of each fault, and the faults of the slots and of an edge file as faults of a store.
use Rattle.faults.specs.Reasons.{Why, broken, differs, disk_failed, faulty, no_memory, read_failed}
use Rattle.manifest_switch.specs.declared.slot.OpenFault.{OpenFault}
use Rattle.manifest_switch.specs.declared.slot.OpenFault.TheVariants as slots
use Rattle.manifest_switch.specs.declared.slot.SwitchFault.{SwitchFault}
use Rattle.manifest_switch.specs.declared.slot.SwitchFault.TheVariants as switches
use Rattle.faults.specs.declared.kinds.InputFile.TheVariants.{Edges}
use Rattle.edge_text.specs.declared.edges.EdgesFault.{EdgesFault}
use Rattle.edge_text.specs.declared.edges.EdgesFault.TheVariants as edges
use Rattle.store_fault.specs.declared.fault.StoreFault.{StoreFault}
use Rattle.store_fault.specs.declared.fault.StoreFault.TheVariants.{BadStore, DiskFault, InputFault, NoMemory, OtherInput, ReadFault}

abbrev pub of_switch : SwitchFault → StoreFault
of_switch switches.DiskFault = DiskFault
of_switch switches.NoMemory = NoMemory

abbrev pub of_open : OpenFault → StoreFault
of_open slots.DiskFault = DiskFault
of_open (slots.BadStore file place kind) = BadStore file place kind
of_open slots.NoMemory = NoMemory

-- the fault of an edge file that is read from an input
abbrev pub of_edges : EdgesFault → StoreFault
of_edges edges.ReadFailed = ReadFault
of_edges (edges.Text line kind) = InputFault Edges line kind
of_edges edges.NoMemory = NoMemory

-- why a call of a store has no answer
abbrev pub why_of : StoreFault → Why
why_of ReadFault = read_failed
why_of DiskFault = disk_failed
why_of (InputFault file line kind) = faulty file line kind
why_of (OtherInput file place) = differs file place
why_of (BadStore file place kind) = broken file place kind
why_of NoMemory = no_memory
