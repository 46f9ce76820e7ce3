-- What a command prints.
use Rattle.std.specs.Prelude.{◌≡◌, ℕ, ◌⊎◌, Bool, IsTrue, List, [], ◌∷◌, ◌++◌, Option, Result, Ok, Err, codes, decimal}
use Rattle.std.specs.Io.KnownBytes.{Appends}
use Rattle.io_edge.specs.Devices.{AppendsPrefix}
use Rattle.graspan_top.specs.Names.{file_name, form_name, kind_name}
use Rattle.graspan_top.specs.declared.status.Status.{Status}
use Rattle.graspan_top.specs.declared.status.Status.TheVariants.{Done, Words, InputFault, OtherInput, ReadFault}
use Rattle.graspan_top.specs.declared.status.Status.TheVariants.{DiskFault, WriteFault, NoMemory, BadStore, NoStore}
use Rattle.graspan_top.specs.declared.status.Status.TheVariants.{Unfinished, NotKnown}

-- the line of a fault, with its line feed. A failed write has none.
abbrev pub fault_line : Status → List ℕ
fault_line Done = []
fault_line Words = codes "fault words" ++ 10 ∷ []
fault_line (InputFault file line kind) = codes "fault input " ++ (file_name file ++ (32 ∷ (decimal line ++ (32 ∷ (kind_name kind ++ 10 ∷ [])))))
fault_line (OtherInput file place) = codes "fault other " ++ (file_name file ++ (32 ∷ (decimal place ++ 10 ∷ [])))
fault_line ReadFault = codes "fault read" ++ 10 ∷ []
fault_line DiskFault = codes "fault disk" ++ 10 ∷ []
fault_line WriteFault = []
fault_line NoMemory = codes "fault memory" ++ 10 ∷ []
fault_line (BadStore file place kind) = codes "fault store " ++ (decimal file ++ (32 ∷ (decimal place ++ (32 ∷ (form_name kind ++ 10 ∷ [])))))
fault_line NoStore = codes "fault no store" ++ 10 ∷ []
fault_line (Unfinished i j) = codes "fault unfinished " ++ (decimal i ++ (32 ∷ (decimal j ++ 10 ∷ [])))
fault_line NotKnown = codes "fault not known" ++ 10 ∷ []

-- all of a line was taken, or a write failed and a prefix of it was
abbrev pub TakesLine : Option (List ℕ) → Option (List ℕ) → Type 0 → List ℕ → Type 0
TakesLine old new out_rose line = Appends old new line ⊎ (out_rose × AppendsPrefix old new line)

-- a prefix of the command's text, where that is known
abbrev pub TakesPrefix : Bool → (List ℕ → Type 0) → Option (List ℕ) → Option (List ℕ) → Type 0
TakesPrefix known IsText old new = (text : List ℕ) → IsTrue known → IsText text → AppendsPrefix old new text

-- a prefix of the text was taken, and then the line of a fault
abbrev pub TakesBoth : Bool → (List ℕ → Type 0) → Option (List ℕ) → Option (List ℕ) → Type 0 → List ℕ → Type 0
TakesBoth known IsText old new out_rose line = (mid : Option (List ℕ)) × TakesPrefix known IsText old mid × TakesLine mid new out_rose line

-- What was printed, where the command's text is known: all of it at Done, a prefix of it where a write failed, and
-- before the line of a fault that may come while it is printed. The line of any other fault stands alone.
abbrev pub Prints : Bool → (List ℕ → Type 0) → Option (List ℕ) → Option (List ℕ) → Type 0 → Status → Type 0
Prints known IsText old new out_rose Done = IsTrue known → (text : List ℕ) × IsText text × Appends old new text
Prints known IsText old new out_rose WriteFault = TakesPrefix known IsText old new
Prints known IsText old new out_rose DiskFault = TakesBoth known IsText old new out_rose (fault_line DiskFault)
Prints known IsText old new out_rose (BadStore file place kind) = TakesBoth known IsText old new out_rose (fault_line (BadStore file place kind))
Prints known IsText old new out_rose NoMemory = TakesBoth known IsText old new out_rose (fault_line NoMemory)
Prints known IsText old new out_rose status = TakesLine old new out_rose (fault_line status)

-- the same before the line of the fault is printed
abbrev pub PrintsFirst : Bool → (List ℕ → Type 0) → Option (List ℕ) → Option (List ℕ) → Status → Type 0
PrintsFirst known IsText old new Done = IsTrue known → (text : List ℕ) × IsText text × Appends old new text
PrintsFirst known IsText old new WriteFault = TakesPrefix known IsText old new
PrintsFirst known IsText old new DiskFault = TakesPrefix known IsText old new
PrintsFirst known IsText old new (BadStore file place kind) = TakesPrefix known IsText old new
PrintsFirst known IsText old new NoMemory = TakesPrefix known IsText old new
PrintsFirst known IsText old new status = new ≡ old

-- a prefix of one of these texts was taken, which are those that the command may have begun
abbrev pub TakesBegun : Bool → (List ℕ → Type 0) → Option (List ℕ) → Option (List ℕ) → Type 0
TakesBegun known IsBegun old new = IsTrue known → (text : List ℕ) × IsBegun text × AppendsPrefix old new text

-- nothing, or a text of this kind
abbrev pub IsNothingOr : (List ℕ → Type 0) → List ℕ → Type 0
IsNothingOr IsText text = (text ≡ []) ⊎ IsText text

-- what stands before the line of a fault that may come in the middle, also where what the disk holds has no whole text
abbrev pub Begins : Bool → (List ℕ → Type 0) → Option (List ℕ) → Option (List ℕ) → Status → Type 0
Begins known IsBegun old new WriteFault = TakesBegun known IsBegun old new
Begins known IsBegun old new DiskFault = TakesBegun known IsBegun old new
Begins known IsBegun old new (BadStore file place kind) = TakesBegun known IsBegun old new
Begins known IsBegun old new NoMemory = TakesBegun known IsBegun old new
Begins known IsBegun old new status = Unit {0}

-- the same, and then the line of the fault
abbrev pub BeginsWhole : Bool → (List ℕ → Type 0) → Option (List ℕ) → Option (List ℕ) → Type 0 → Status → Type 0
BeginsWhole known IsBegun old new out_rose WriteFault = TakesBegun known IsBegun old new
BeginsWhole known IsBegun old new out_rose DiskFault = (mid : Option (List ℕ)) × TakesBegun known IsBegun old mid
    × TakesLine mid new out_rose (fault_line DiskFault)
BeginsWhole known IsBegun old new out_rose (BadStore file place kind) = (mid : Option (List ℕ))
    × TakesBegun known IsBegun old mid × TakesLine mid new out_rose (fault_line (BadStore file place kind))
BeginsWhole known IsBegun old new out_rose NoMemory = (mid : Option (List ℕ)) × TakesBegun known IsBegun old mid
    × TakesLine mid new out_rose (fault_line NoMemory)
BeginsWhole known IsBegun old new out_rose status = Unit {0}

-- the line of the fault, and nothing where there is none or a write has failed
abbrev pub Ends : Option (List ℕ) → Option (List ℕ) → Type 0 → Status → Type 0
Ends old new out_rose Done = new ≡ old
Ends old new out_rose WriteFault = new ≡ old
Ends old new out_rose status = TakesLine old new out_rose (fault_line status)

-- how a command ended
abbrev pub status_of : {T : Type 0} → Result T Status → Status
status_of (Ok x) = Done
status_of (Err s) = s
