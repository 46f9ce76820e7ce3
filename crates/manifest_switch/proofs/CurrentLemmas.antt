-- What the two slots say together.
use Rattle.std.proofs.Common.{◌≡◌, ℕ, sym, refl, ◌∙◌, ap}
use Rattle.std.specs.Prelude.{Bool, true, false, if◌then◌else◌, ◌==◌, Option, Some, None, Result, Ok, Err, option_map, IsErrAnd}
use Rattle.manifest_codec.specs.declared.types.Manifest.{Manifest}
use Rattle.manifest_codec.specs.declared.types.ManifestFault.{ManifestFault}
use Rattle.manifest_switch.specs.declared.slot.Slot.{Slot}
use Rattle.manifest_switch.specs.declared.slot.Slot.TheVariants.{Zero, One}
use Rattle.manifest_switch.specs.declared.slot.Found.{Found}
use Rattle.manifest_switch.specs.declared.slot.Found.TheVariants.{At}
use Rattle.faults.specs.declared.form_kind.FormKind.TheVariants.{Generations}
use Rattle.manifest_switch.specs.declared.slot.OpenFault.{OpenFault}
use Rattle.manifest_switch.specs.declared.slot.OpenFault.TheVariants.{DiskFault, BadStore, NoMemory}
use Rattle.manifest_switch.specs.Slots.{chosen, later_of, bad_body, next_generation}
use Rattle.faults.specs.Counts.{Rose}
use Rattle.faults.specs.Reasons.{HasReason, blames_any, disk_causes}
use Rattle.manifest_switch.specs.Answers.{AnswersSlot, AnswersCurrent, why_not_open}

abbrev Said : Type 0
Said = Option (Result Manifest ManifestFault)

fault : OpenFault → Result Found OpenFault
fault e = Err e

first_blamed : (f : ManifestFault) (b : Said) → chosen (Some (Err f)) b ≡ fault (bad_body Zero f)
unfolding chosen fault
first_blamed f b = refl

second_blamed : (a : Option Manifest) (f : ManifestFault) → chosen (option_map Ok a) (Some (Err f)) ≡ fault (bad_body One f)
unfolding chosen fault
second_blamed None f = refl
second_blamed (Some a) f = refl

-- slot 0 doesn't decode, or disk or memory failed
pub first_bad : (e : OpenFault) (a b : Said) → AnswersSlot Zero a (Err e) → AnswersCurrent (chosen a b) (Err e)
unfolding fault
first_bad DiskFault a b said = said
first_bad NoMemory a b said = said
first_bad (BadStore file place kind) a b said = ap (λ (s : Said). chosen s b) said.1 ∙ first_blamed said.0 b ∙ ap fault (sym said.2)

said_first : (s : Slot) (a : Said) (first : Option Manifest) → AnswersSlot s a (Ok first) → a ≡ option_map Ok first
said_first s a None said = said
said_first s a (Some m) said = said

-- slot 0 decodes or is closed, and the other one doesn't decode, or disk or memory failed
pub second_bad : (e : OpenFault) (first : Option Manifest) (a b : Said) → AnswersSlot Zero a (Ok first) → AnswersSlot One b (Err e) → AnswersCurrent (chosen a b) (Err e)
unfolding fault
second_bad DiskFault first a b before said = said
second_bad NoMemory first a b before said = said
second_bad (BadStore file place kind) first a b before said =
    ap (λ (s : Said). chosen s b) (said_first Zero a first before) ∙ ap (λ (s : Said). chosen (option_map Ok first) s) said.1 ∙ second_blamed first said.0 ∙ ap fault (sym said.2)

no_fault_later : (before now : ℕ) (a b : Manifest) (same after : Bool) → HasReason why_not_open (disk_causes (Rose before now) blames_any) (if same then Err (BadStore 1 5 Generations) else if after then Ok (At One b) else Ok (At Zero a))
no_fault_later before now a b true after = record {}
no_fault_later before now a b false true = record {}
no_fault_later before now a b false false = record {}

-- what is current has no disk fault in it
pub no_disk_fault : (before now : ℕ) (a b : Said) → HasReason why_not_open (disk_causes (Rose before now) blames_any) (chosen a b)
unfolding chosen later_of
no_disk_fault before now None None = record {}
no_disk_fault before now None (Some (Ok b)) = record {}
no_disk_fault before now None (Some (Err f)) = record {}
no_disk_fault before now (Some (Ok a)) None = record {}
no_disk_fault before now (Some (Ok a)) (Some (Ok b)) = no_fault_later before now a b (a.generation == b.generation) (b.generation == next_generation a.generation)
no_disk_fault before now (Some (Ok a)) (Some (Err f)) = record {}
no_disk_fault before now (Some (Err f)) b = record {}

-- the error that a `?` hands on
pub handed_on : (r : Result Found OpenFault) (e : OpenFault) → IsErrAnd r (λ x. x ≡ e) → Err e ≡ r
unfolding fault
handed_on (Ok found) e is = absurd is
handed_on (Err x) e is = sym (ap fault is)
