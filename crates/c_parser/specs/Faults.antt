-- What a reader refuses, as a fault of the parser.
use Rattle.faults.specs.declared.kinds.InputKind.{InputKind}
use Rattle.faults.specs.declared.kinds.InputKind.TheVariants as kind
use Rattle.c_tree.specs.declared.fault.Wrong.{Wrong}
use Rattle.c_tree.specs.declared.fault.Wrong.TheVariants as wrong
use Rattle.c_tree.specs.declared.fault.ReadFault.{ReadFault}
use Rattle.c_tree.specs.declared.fault.ReadFault.TheVariants as read
use Rattle.c_parser.specs.declared.fault.ParseFault.{ParseFault}
use Rattle.c_parser.specs.declared.fault.ParseFault.TheVariants as fault

abbrev pub kind_of : Wrong → InputKind
kind_of wrong.Unexpected = kind.Unexpected
kind_of wrong.TooDeep = kind.TooDeep

abbrev pub fault_of : ReadFault → ParseFault
fault_of (read.At token why) = fault.At token (kind_of why)
fault_of read.NoMemory = fault.NoMemory
