-- Which slot is current, case by case.
use Rattle.std.proofs.Common.{◌≡◌, ◌⊎◌, inl, inr, ℕ, List, refl, ◌∙◌, arith}
use Rattle.std.specs.Prelude.{◌↔◌, Bool, true, false, if◌then◌else◌, Option, Some, None, Result, Ok, Err}
use Rattle.std.proofs.lemmas.Bool.Decides.{nat_tests}
use Rattle.disk_model.specs.Disk.{Contents}
use Rattle.faults.specs.declared.form_kind.FormKind.TheVariants.{Generations}
use Rattle.manifest_codec.specs.declared.types.Manifest.{Manifest}
use Rattle.manifest_codec.specs.declared.types.ManifestFault.{ManifestFault}
use Rattle.manifest_switch.specs.declared.slot.Slot.{Slot}
use Rattle.manifest_switch.specs.declared.slot.Slot.TheVariants.{Zero, One}
use Rattle.manifest_switch.specs.declared.slot.Found.{Found}
use Rattle.manifest_switch.specs.declared.slot.Found.TheVariants.{Blank, At}
use Rattle.manifest_switch.specs.declared.slot.OpenFault.{OpenFault}
use Rattle.manifest_switch.specs.declared.slot.OpenFault.TheVariants.{BadStore}
use Rattle.manifest_switch.specs.Slots.{file_of, other, is_open, open_body, body, chosen, later_of, current_of, next_generation, IsBlank, HasOnly}
use Rattle.manifest_switch.proofs.SlotLemmas.{slot-shut, current_if_follows}

abbrev Said : Type 0
Said = Option (Result Manifest ManifestFault)

abbrev done : Found → Result Found OpenFault
done x = Ok x

later_not_blank : (a b : Manifest) (same after : Bool) → (if same then Err (BadStore 1 5 Generations) else if after then Ok (At One b) else Ok (At Zero a)) ≡ done Blank → ⊥
later_not_blank a b true after is = cc is
later_not_blank a b false true is = cc is
later_not_blank a b false false is = cc is

none_chosen : (a b : Said) → chosen a b ≡ done Blank → (a ≡ None) × (b ≡ None)
unfolding chosen later_of
none_chosen None None is = (refl, refl)
none_chosen None (Some (Ok b)) is = absurd (cc is)
none_chosen None (Some (Err f)) is = absurd (cc is)
none_chosen (Some (Ok a)) None is = absurd (cc is)
none_chosen (Some (Ok a)) (Some (Ok b)) is = absurd (later_not_blank a b _ _ is)
none_chosen (Some (Ok a)) (Some (Err f)) is = absurd (cc is)
none_chosen (Some (Err f)) b is = absurd (cc is)

shut-none : (file : List ℕ) → open_body file ≡ None → is_open file ≡ false
unfolding open_body
shut-none file is = by_gate (is_open file) is
  where
    by_gate : (b : Bool) → (if b then Some (body file) else None) ≡ None → b ≡ false
    by_gate true is = absurd (cc is)
    by_gate false is = refl

pub blank_iff : (c : Contents) → (current_of c ≡ Ok Blank) ↔ IsBlank c
unfolding chosen
blank_iff c = (
  λ is.
      let none = none_chosen (open_body (c 0)) (open_body (c 1)) is in
      record { first = shut-none (c 0) none.0; second = shut-none (c 1) none.1 },
  λ blank i. chosen (slot-shut (c 0) blank.first i) (slot-shut (c 1) blank.second i),
)

pub later_law : (s : Slot) (m o : Manifest) (c : Contents) → open_body (c (file_of s)) ≡ Some (Ok m) → open_body (c (file_of (other s))) ≡ Some (Ok o) → m.generation ≡ next_generation o.generation → current_of c ≡ Ok (At s m)
later_law s m o c here there is = current_if_follows s m c here (inr (o, there, is))

pub alone_law : (s : Slot) (m : Manifest) (c : Contents) → HasOnly s m c → current_of c ≡ Ok (At s m)
alone_law s m c only = current_if_follows s m c only.here (inl only.none_else)

later-equal : (a b : Manifest) → a.generation ≡ b.generation → later_of a b ≡ Err (BadStore 1 5 Generations)
unfolding later_of
later-equal a b is = grind (arith, nat_tests)

pub equal_law : (a b : Manifest) (c : Contents) → open_body (c 0) ≡ Some (Ok a) → open_body (c 1) ≡ Some (Ok b) → a.generation ≡ b.generation → current_of c ≡ Err (BadStore 1 5 Generations)
unfolding chosen
equal_law a b c first second is = (λ i. chosen (first i) (second i)) ∙ later-equal a b is

pub first_law : (f : ManifestFault) (c : Contents) → open_body (c 0) ≡ Some (Err f) → current_of c ≡ Err (BadStore 0 f.place f.kind)
unfolding chosen
first_law f c first = λ i. chosen (first i) (open_body (c 1))

pub second_law : (f : ManifestFault) (c : Contents) → (open_body (c 0) ≡ None) ⊎ ((a : Manifest) × (open_body (c 0) ≡ Some (Ok a))) → open_body (c 1) ≡ Some (Err f) → current_of c ≡ Err (BadStore 1 f.place f.kind)
unfolding chosen
second_law f c (inl first) second = λ i. chosen (first i) (second i)
second_law f c (inr first) second = λ i. chosen (first.1 i) (second i)
