-- What is printed before and with the line of a fault.
use Rattle.std.proofs.Common.{◌≡◌, inl, inr, ℕ, List, Bool, Option, refl, sym}
use Rattle.text_page.proofs.Gathering.{nothing_taken}
use Rattle.graspan_top.specs.Printed.{Begins, BeginsWhole, Ends, Prints, PrintsFirst, TakesLine, fault_line}
use Rattle.graspan_top.specs.declared.status.Status.{Status}
use Rattle.graspan_top.specs.declared.status.Status.TheVariants.{Done, Words, InputFault, OtherInput, ReadFault, DiskFault, WriteFault, NoMemory, BadStore, NoStore, Unfinished, NotKnown}

module _ (known : Bool) (IsText : List ℕ → Type 0) where
  -- what was printed first, and then how it ends
  pub prints : (old mid new : Option (List ℕ)) (rose : Type 0) (s : Status) → PrintsFirst known IsText old mid s → Ends mid new rose s → Prints known IsText old new rose s
  prints old mid new rose Done first same = rw same first
  prints old mid new rose Words first line = rw (← first) line
  prints old mid new rose (InputFault file number kind) first line = rw (← first) line
  prints old mid new rose (OtherInput file place) first line = rw (← first) line
  prints old mid new rose ReadFault first line = rw (← first) line
  prints old mid new rose DiskFault first line = (mid, first, line)
  prints old mid new rose WriteFault first same = rw same first
  prints old mid new rose NoMemory first line = (mid, first, line)
  prints old mid new rose (BadStore file place kind) first line = (mid, first, line)
  prints old mid new rose NoStore first line = rw (← first) line
  prints old mid new rose (Unfinished i j) first line = rw (← first) line
  prints old mid new rose NotKnown first line = rw (← first) line

  -- nothing was printed yet
  pub nothing_first : (old : Option (List ℕ)) (s : Status) → (s ≡ Done → ⊥) → PrintsFirst known IsText old old s
  nothing_first old Done not = absurd (not refl)
  nothing_first old Words not = refl
  nothing_first old (InputFault file number kind) not = refl
  nothing_first old (OtherInput file place) not = refl
  nothing_first old ReadFault not = refl
  nothing_first old DiskFault not = λ text k is. nothing_taken old text
  nothing_first old WriteFault not = λ text k is. nothing_taken old text
  nothing_first old NoMemory not = λ text k is. nothing_taken old text
  nothing_first old (BadStore file place kind) not = λ text k is. nothing_taken old text
  nothing_first old NoStore not = refl
  nothing_first old (Unfinished i j) not = refl
  nothing_first old NotKnown not = refl

-- a failed write of a line is one of the whole
line_later : (old new : Option (List ℕ)) (rose rose' : Type 0) → (rose → rose') → (line : List ℕ) → TakesLine old new rose line → TakesLine old new rose' line
line_later old new rose rose' more line (inl all) = inl all
line_later old new rose rose' more line (inr (failed, part)) = inr (more failed, part)

pub ends_later : (old new : Option (List ℕ)) (rose rose' : Type 0) → (rose → rose') → (s : Status) → Ends old new rose s → Ends old new rose' s
ends_later old new rose rose' more Done h = h
ends_later old new rose rose' more WriteFault h = h
ends_later old new rose rose' more Words h = line_later old new rose rose' more (fault_line Words) h
ends_later old new rose rose' more (InputFault file number kind) h = line_later old new rose rose' more (fault_line (InputFault file number kind)) h
ends_later old new rose rose' more (OtherInput file place) h = line_later old new rose rose' more (fault_line (OtherInput file place)) h
ends_later old new rose rose' more ReadFault h = line_later old new rose rose' more (fault_line ReadFault) h
ends_later old new rose rose' more DiskFault h = line_later old new rose rose' more (fault_line DiskFault) h
ends_later old new rose rose' more NoMemory h = line_later old new rose rose' more (fault_line NoMemory) h
ends_later old new rose rose' more (BadStore file place kind) h = line_later old new rose rose' more (fault_line (BadStore file place kind)) h
ends_later old new rose rose' more NoStore h = line_later old new rose rose' more (fault_line NoStore) h
ends_later old new rose rose' more (Unfinished i j) h = line_later old new rose rose' more (fault_line (Unfinished i j)) h
ends_later old new rose rose' more NotKnown h = line_later old new rose rose' more (fault_line NotKnown) h

-- a status with a line
pub loud_ends : (old new : Option (List ℕ)) (rose : Type 0) (s : Status) → (s ≡ Done → ⊥) → (s ≡ WriteFault → ⊥) → TakesLine old new rose (fault_line s) → Ends old new rose s
loud_ends old new rose Words a b line = line
loud_ends old new rose (InputFault file number kind) a b line = line
loud_ends old new rose (OtherInput file place) a b line = line
loud_ends old new rose ReadFault a b line = line
loud_ends old new rose DiskFault a b line = line
loud_ends old new rose NoMemory a b line = line
loud_ends old new rose (BadStore file place kind) a b line = line
loud_ends old new rose NoStore a b line = line
loud_ends old new rose (Unfinished i j) a b line = line
loud_ends old new rose NotKnown a b line = line
loud_ends old new rose Done a b line = absurd (a refl)
loud_ends old new rose WriteFault a b line = absurd (b refl)

-- what was begun, and then how it ends
module _ (known : Bool) (IsBegun : List ℕ → Type 0) where
  pub begins : (old mid new : Option (List ℕ)) (rose : Type 0) (s : Status) → Begins known IsBegun old mid s → Ends mid new rose s → BeginsWhole known IsBegun old new rose s
  begins old mid new rose WriteFault first same = rw same first
  begins old mid new rose DiskFault first line = (mid, first, line)
  begins old mid new rose (BadStore file place kind) first line = (mid, first, line)
  begins old mid new rose NoMemory first line = (mid, first, line)
  begins old mid new rose Done first line = tt
  begins old mid new rose Words first line = tt
  begins old mid new rose (InputFault file number kind) first line = tt
  begins old mid new rose (OtherInput file place) first line = tt
  begins old mid new rose ReadFault first line = tt
  begins old mid new rose NoStore first line = tt
  begins old mid new rose (Unfinished i j) first line = tt
  begins old mid new rose NotKnown first line = tt
