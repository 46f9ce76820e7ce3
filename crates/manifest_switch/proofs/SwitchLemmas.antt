-- The parts of a commit one after another, by what a read gives.
use Rattle.std.proofs.Common.{◌≡◌, ◌≢◌, inr, ℕ, List, [], ◌∷◌, slice_index, sym, ◌∙◌, ap, subst, arith}
use Rattle.std.specs.Prelude.{false, Some, Ok}
use Rattle.disk_model.specs.Disk.{Contents, Sets, written}
use Rattle.disk_model.specs.Sound.{written-below, written-lengths}
use Rattle.manifest_codec.specs.declared.types.Manifest.{Manifest}
use Rattle.manifest_switch.specs.Slots.{file_of, other, is_open, open_body, body, chosen, current_of, next_generation, with_closed_gate, IsClosedGate, HasOnly}
use Rattle.manifest_switch.specs.Steps.{MayClose, Keeps, Opens, Switches, Succeeds, IsSlotReady, IsPlaced, IsSwitched}
use Rattle.manifest_switch.specs.declared.slot.Slot.{Slot}
use Rattle.manifest_switch.specs.declared.slot.Slot.TheVariants.{Zero, One}
use Rattle.manifest_switch.specs.declared.slot.Found.TheVariants.{At}
use Rattle.manifest_switch.proofs.CodecLemmas.{Says, staged-body}
use Rattle.manifest_switch.proofs.SlotLemmas.{closed_gate, closed-shut, opened, other_apart, other_twice, current_if_follows, succeeds_same, keeps_closed, keeps_opens}

staged-closed : (file bytes : List ℕ) → IsClosedGate file → IsClosedGate (written file 1 bytes)
staged-closed file bytes closed =
    let gate : slice_index (written file 1 bytes) 0 ≡ slice_index file 0 = written-below file 1 bytes 0 closed.some (omega arith) in
    record { some = omega (arith, (written-lengths file 1 bytes).0, closed.some); shut = λ one. closed.shut (sym gate ∙ one) }

-- the contents before, with the gate closed, with the body behind it, and with the gate opened
module _ (s : Slot) (m : Manifest) (bytes : List ℕ) (says : Says bytes m) (d e1 e2 e3 : Contents) where
  abbrev Shuts : Type 0
  Shuts = Sets (file_of s) (with_closed_gate (d (file_of s))) d e1

  abbrev Writes : Type 0
  Writes = Sets (file_of s) (written (e1 (file_of s)) 1 bytes) e1 e2

  abbrev Turns : Type 0
  Turns = Sets (file_of s) (written (e2 (file_of s)) 0 (1 ∷ [])) e2 e3

  pub is_shut : Shuts → IsClosedGate (e1 (file_of s))
  is_shut shuts = subst (λ (l : List ℕ). IsClosedGate l) (sym shuts.here) (closed_gate (d (file_of s)))

  pub body_there : Shuts → Writes → body (e2 (file_of s)) ≡ Ok m
  body_there shuts writes = ap body writes.here ∙ staged-body (e1 (file_of s)) bytes m (is_shut shuts).some says

  still_shut : Shuts → Writes → IsClosedGate (e2 (file_of s))
  still_shut shuts writes = subst (λ (l : List ℕ). IsClosedGate l) (sym writes.here) (staged-closed (e1 (file_of s)) bytes (is_shut shuts))

  same_other : Shuts → Writes → e2 (file_of (other s)) ≡ d (file_of (other s))
  same_other shuts writes = writes.others (file_of (other s)) (other_apart s) ∙ shuts.others (file_of (other s)) (other_apart s)

  pub is_ready : (x : Contents) → ((f : ℕ) → x f ≡ e2 f) → Succeeds s m d → Shuts → Writes → IsSlotReady s x
  is_ready x just follows shuts writes =
      record {
        closed = ap is_open (just (file_of s)) ∙ closed-shut (e2 (file_of s)) (still_shut shuts writes);
        next = m;
        body_is = ap body (just (file_of s)) ∙ body_there shuts writes;
        follows = succeeds_same s m d x (just (file_of (other s)) ∙ same_other shuts writes) follows;
      }

  pub switched : (y x c : Contents) → ((f : ℕ) → x f ≡ e2 f) → Shuts → Writes → Keeps s y x → Opens s x c → Switches d m y c
  switched y x c just shuts writes k o =
      keeps_opens s m d y x c (ap body (just (file_of s)) ∙ body_there shuts writes) (λ f apart. just f ∙ writes.others f apart ∙ shuts.others f apart) k o

  pub is_placed : Shuts → Writes → Turns → IsPlaced s m d e3
  is_placed shuts writes turns =
      record {
        here = ap open_body turns.here ∙ opened (e2 (file_of s)) m (body_there shuts writes);
        others = λ f apart. turns.others f apart ∙ writes.others f apart ∙ shuts.others f apart;
      }

-- ---- the slot beside an open one is closed

-- what is current is so in contents that are the same in each file
pub current_alike : (d c : Contents) → ((f : ℕ) → c f ≡ d f) → current_of c ≡ current_of d
current_alike d c just = λ i. chosen (open_body (just 0 i)) (open_body (just 1 i))

closes : (t : Slot) (d c : Contents) → Sets (file_of t) (with_closed_gate (d (file_of t))) d c → is_open (c (file_of t)) ≡ false
closes t d c shuts = ap is_open shuts.here ∙ closed-shut (with_closed_gate (d (file_of t))) (closed_gate (d (file_of t)))

pub shut_beside : (s : Slot) (m : Manifest) (d c : Contents) → open_body (d (file_of s)) ≡ Some (Ok m) → Sets (file_of (other s)) (with_closed_gate (d (file_of (other s)))) d c → HasOnly s m c
shut_beside s m d c here shuts = record { here = ap open_body (shuts.others (file_of s) (λ same. other_apart s (sym same))) ∙ here; none_else = closes (other s) d c shuts }

-- the current one may stay the only open one
pub may_close_other : (s : Slot) (m : Manifest) (c : Contents) → current_of c ≡ Ok (At s m) → MayClose (other s) c
may_close_other s m c is = inr (m, is ∙ ap (λ (t : Slot). Ok (At t m)) (sym (other_twice s)))

pub closing_keeps : (t : Slot) (d c : Contents) → MayClose t d → Sets (file_of t) (with_closed_gate (d (file_of t))) d c → Keeps t d c
closing_keeps t d c may shuts = keeps_closed t d c may (closes t d c shuts) shuts.others

-- ---- the old slot is closed

-- a manifest in its slot, and the old one before it in the other
module _ (s : Slot) (m : Manifest) (d e : Contents) (placed : IsPlaced s m d e) where
  -- what was current before is still there
  old_there : e (file_of (other s)) ≡ d (file_of (other s))
  old_there = placed.others (file_of (other s)) (other_apart s)

  pub may_close : (x : Contents) → ((f : ℕ) → x f ≡ e f) → Succeeds s m d → MayClose (other s) x
  may_close x just follows =
      inr (
        m,
        current_if_follows s m x (ap open_body (just (file_of s)) ∙ placed.here) (succeeds_same s m d x (just (file_of (other s)) ∙ old_there) follows)
            ∙ ap (λ (t : Slot). Ok (At t m)) (sym (other_twice s)),
      )

  pub only_one : (x : Contents) → Sets (file_of (other s)) (with_closed_gate (e (file_of (other s)))) e x → HasOnly s m x
  only_one x shuts = shut_beside s m e x placed.here shuts

  apart : (f : ℕ) → f ≢ 0 → f ≢ 1 → (t : Slot) → f ≢ file_of t
  apart f p q Zero = p
  apart f p q One = q

  -- the switch from another slot
  pub switched_from : (x : Contents) → Sets (file_of (other s)) (with_closed_gate (e (file_of (other s)))) e x → IsSwitched s m d x
  switched_from x shuts = record { only = only_one x shuts; others = λ f p q. shuts.others f (apart f p q (other s)) ∙ placed.others f (apart f p q s) }

  -- the switch on a blank store
  pub switched_first : is_open (d (file_of (other s))) ≡ false → IsSwitched s m d e
  switched_first shut = record { only = record { here = placed.here; none_else = ap is_open old_there ∙ shut }; others = λ f p q. placed.others f (apart f p q s) }

-- the only open slot stays so in contents that are the same in each file
pub only_same : (s : Slot) (m : Manifest) (e x : Contents) → ((f : ℕ) → x f ≡ e f) → HasOnly s m e → HasOnly s m x
only_same s m e x just only = record { here = ap open_body (just (file_of s)) ∙ only.here; none_else = ap is_open (just (file_of (other s))) ∙ only.none_else }

-- the slot beside the only open one
pub beside_only : (s : Slot) (o m : Manifest) (c : Contents) → HasOnly s o c → m.generation ≡ next_generation o.generation → (is_open (c (file_of (other s))) ≡ false) × Succeeds (other s) m c
beside_only s o m c only next = (only.none_else, inr (o, ap (λ (t : Slot). open_body (c (file_of t))) (other_twice s) ∙ only.here, next))
