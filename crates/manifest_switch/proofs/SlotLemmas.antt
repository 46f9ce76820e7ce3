-- What the parts of a commit make of the slots.
use Rattle.std.proofs.Common.{◌≡◌, ◌≢◌, ◌⊎◌, inl, inr, ℕ, zero, suc, ◌<◌, ◌≤◌, List, [], ◌∷◌, length, slice_index, if◌then◌else◌, refl, sym, ◌∙◌, ap, subst, arith}
use Rattle.std.specs.Prelude.{Bool, true, false, Option, Some, None, Result, Ok, Err}
use Rattle.std.proofs.lemmas.Bool.{cases_eq, cases_lt}
use Rattle.std.proofs.lemmas.Bool.Decides.{nat_tests}
use Rattle.disk_model.specs.Disk.{Contents, TornIn, written}
use Rattle.disk_model.specs.Crash.{From, Mixes}
use Rattle.disk_model.specs.Sound.{length-written, written-here, written-above}
use Rattle.manifest_codec.specs.declared.types.Manifest.{Manifest}
use Rattle.manifest_codec.specs.declared.types.ManifestFault.{ManifestFault}
use Rattle.manifest_switch.specs.Slots.{file_of, other, is_open, open_body, body, chosen, current_of, later_of, next_generation, is_loose, with_closed_gate, IsClosedGate}
use Rattle.manifest_switch.specs.Steps.{MayClose, Keeps, Succeeds, IsSlotReady, Opens, Stays, Switches}
use Rattle.manifest_switch.specs.declared.slot.Slot.{Slot}
use Rattle.manifest_switch.specs.declared.slot.Slot.TheVariants.{Zero, One}
use Rattle.manifest_switch.specs.declared.slot.Found.{Found}
use Rattle.manifest_switch.specs.declared.slot.Found.TheVariants.{At}
use Rattle.manifest_switch.specs.declared.slot.OpenFault.{OpenFault}
use Rattle.manifest_switch.proofs.CodecLemmas.{body-same, body-long}

-- ---- one slot

pub shut-gate : (file : List ℕ) → slice_index file 0 ≢ 1 → is_open file ≡ false
unfolding is_open
shut-gate file shut = grind (arith, nat_tests)

pub shut-short : (file : List ℕ) → length file ≤ 1 → is_open file ≡ false
unfolding is_open
shut-short file short = grind (arith, nat_tests)

pub open-gate : (file : List ℕ) → slice_index file 0 ≡ 1 → 1 < length file → is_open file ≡ true
unfolding is_open
open-gate file gate long = grind (arith, nat_tests)

pub gate-of_open : (file : List ℕ) → is_open file ≡ true → (slice_index file 0 ≡ 1) × (1 < length file)
unfolding is_open
gate-of_open file open_is = (grind (arith, nat_tests), grind (arith, nat_tests))

pub slot-shut : (file : List ℕ) → is_open file ≡ false → open_body file ≡ None
unfolding open_body
slot-shut file shut = rw shut refl

pub slot-open : (file : List ℕ) → is_open file ≡ true → open_body file ≡ Some (body file)
unfolding open_body
slot-open file open_is = rw open_is refl

-- two files that a slot can't tell apart
pub slot-alike : (d c : List ℕ) → is_open c ≡ is_open d → body c ≡ body d → open_body c ≡ open_body d
unfolding open_body
slot-alike d c gates bodies = rw (gates, bodies) refl

-- ---- which one is current

pub other_apart : (s : Slot) → file_of (other s) ≢ file_of s
other_apart Zero = omega arith
other_apart One = omega arith

pub other_twice : (s : Slot) → other (other s) ≡ s
other_twice Zero = refl
other_twice One = refl

-- what the slots hold if just this one is open
abbrev alone : Slot → Option (Result Manifest ManifestFault) → Result Found OpenFault
alone Zero here = chosen here None
alone One here = chosen None here

-- with one slot shut it is the other one's
only_other : (s : Slot) (c : Contents) → is_open (c (file_of s)) ≡ false → current_of c ≡ alone (other s) (open_body (c (file_of (other s))))
only_other Zero c shut = ap (λ (o : Option (Result Manifest ManifestFault)). chosen o (open_body (c 1))) (slot-shut (c 0) shut)
only_other One c shut = ap (λ (o : Option (Result Manifest ManifestFault)). chosen (open_body (c 0)) o) (slot-shut (c 1) shut)

alone-is : (s : Slot) (m : Manifest) → alone s (Some (Ok m)) ≡ Ok (At s m)
unfolding chosen
alone-is Zero m = refl
alone-is One m = refl

abbrev pick : Slot → Option (Result Manifest ManifestFault) → Option (Result Manifest ManifestFault) → Option (Result Manifest ManifestFault)
pick Zero a b = a
pick One a b = b

later-at : (a b : Manifest) (t : Slot) (m : Manifest) → later_of a b ≡ Ok (At t m) → pick t (Some (Ok a)) (Some (Ok b)) ≡ Some (Ok m)
unfolding later_of
later-at a b t m is = elim (cases_eq a.generation b.generation) [
  | inl same ↦ absurd (grind (arith, nat_tests))
  | inr apart ↦ elim (cases_eq b.generation (next_generation a.generation)) [
    | inl after ↦ second t (grind (arith, nat_tests))
    | inr before ↦ first t (grind (arith, nat_tests))
  ]
]
  where
    second : (t : Slot) → ◌≡◌ {A = Result Found OpenFault} (Ok (At One b)) (Ok (At t m)) → pick t (Some (Ok a)) (Some (Ok b)) ≡ Some (Ok m)
    second Zero e = absurd (cc e)
    second One e = cc e

    first : (t : Slot) → ◌≡◌ {A = Result Found OpenFault} (Ok (At Zero a)) (Ok (At t m)) → pick t (Some (Ok a)) (Some (Ok b)) ≡ Some (Ok m)
    first Zero e = cc e
    first One e = absurd (cc e)

chosen-at : (a b : Option (Result Manifest ManifestFault)) (t : Slot) (m : Manifest) → chosen a b ≡ Ok (At t m) → pick t a b ≡ Some (Ok m)
unfolding chosen
chosen-at None None t m is = absurd (cc is)
chosen-at None (Some (Ok b)) Zero m is = absurd (cc is)
chosen-at None (Some (Ok b)) One m is = cc is
chosen-at None (Some (Err f)) t m is = absurd (cc is)
chosen-at (Some (Ok a)) None Zero m is = cc is
chosen-at (Some (Ok a)) None One m is = absurd (cc is)
chosen-at (Some (Ok a)) (Some (Ok b)) t m is = later-at a b t m is
chosen-at (Some (Ok a)) (Some (Err f)) t m is = absurd (cc is)
chosen-at (Some (Err f)) b t m is = absurd (cc is)

-- the current slot is open with its manifest
pub current-here : (t : Slot) (c : Contents) (m : Manifest) → current_of c ≡ Ok (At t m) → open_body (c (file_of t)) ≡ Some (Ok m)
current-here Zero c m is = chosen-at (open_body (c 0)) (open_body (c 1)) Zero m is
current-here One c m is = chosen-at (open_body (c 0)) (open_body (c 1)) One m is

later-first : (a b : Manifest) → a.generation ≡ next_generation b.generation → later_of a b ≡ Ok (At Zero a)
unfolding later_of
later-first a b is =
    let apart : a.generation ≢ b.generation = omega arith in
    let before : b.generation ≢ next_generation a.generation = omega arith in
    grind (arith, nat_tests)

later-second : (a b : Manifest) → b.generation ≡ next_generation a.generation → later_of a b ≡ Ok (At One b)
unfolding later_of
later-second a b is =
    let apart : a.generation ≢ b.generation = omega arith in
    grind (arith, nat_tests)

-- a manifest that follows that of the other slot is the current one
pub current_if_follows : (s : Slot) (m : Manifest) (c : Contents) → open_body (c (file_of s)) ≡ Some (Ok m) → Succeeds s m c → current_of c ≡ Ok (At s m)
unfolding chosen
current_if_follows Zero m c here (inl shut) = (λ i. chosen (here i) (slot-shut (c 1) shut i))
current_if_follows Zero m c here (inr o) = (λ i. chosen (here i) (o.1 i)) ∙ later-first m o.0 o.2
current_if_follows One m c here (inl shut) = (λ i. chosen (slot-shut (c 0) shut i) (here i))
current_if_follows One m c here (inr o) = (λ i. chosen (o.1 i) (here i)) ∙ later-second o.0 m o.2

pub succeeds_same : (s : Slot) (m : Manifest) (d c : Contents) → c (file_of (other s)) ≡ d (file_of (other s)) → Succeeds s m d → Succeeds s m c
succeeds_same s m d c same (inl shut) = inl (ap is_open same ∙ shut)
succeeds_same s m d c same (inr o) = inr (o.0, ap open_body same ∙ o.1, o.2)

-- ---- closing a gate

pub keeps_refl : (s : Slot) (c : Contents) → Keeps s c c
keeps_refl s c = record { same = refl; others = λ f apart. refl }

pub keeps_trans : (s : Slot) (d m c : Contents) → Keeps s d m → Keeps s m c → Keeps s d c
keeps_trans s d m c a b = record { same = b.same ∙ a.same; others = λ f apart. b.others f apart ∙ a.others f apart }

pub keeps_closed : (s : Slot) (d c : Contents) → MayClose s d → is_open (c (file_of s)) ≡ false → ((g : ℕ) → g ≢ file_of s → c g ≡ d g) → Keeps s d c
keeps_closed s d c may shut others =
    let there : open_body (c (file_of (other s))) ≡ open_body (d (file_of (other s))) = ap open_body (others (file_of (other s)) (other_apart s)) in
    let before : current_of d ≡ alone (other s) (open_body (d (file_of (other s)))) =
    elim may [
      | inl closed ↦ only_other s d closed
      | inr is ↦ is.1 ∙ sym (alone-is (other s) is.0) ∙ ap (alone (other s)) (sym (current-here (other s) d is.0 is.1))
    ] in
    record { same = only_other s c shut ∙ ap (alone (other s)) there ∙ sym before; others = others }

pub loose-parts : (file : List ℕ) → is_loose file ≡ true → (length file ≡ 0) ⊎ (slice_index file 0 ≡ 1)
unfolding is_loose
loose-parts file loose = elim (cases_eq (length file) 0) [
  | inl none ↦ inl none
  | inr some ↦ inr (grind (arith, nat_tests))
]

module _ (s : Slot) (images : Contents → Type 0) (seen d c : Contents) (image_seen : images seen) (image_d : images d)
    (mixes : (x y z : Contents) → images x → images y → Mixes x y z → images z) (may : (x : Contents) → images x → MayClose s x) where
  -- a gate that is torn open was free before, so such an image was one before
  mixed : slice_index (c (file_of s)) 0 ≡ 1 → 1 < length (c (file_of s)) → ((length (seen (file_of s)) ≡ 0) ⊎ (slice_index (seen (file_of s)) 0 ≡ 1)) → TornIn (file_of s) 0 1 d c → Mixes d seen c
  mixed gate long loose torn =
      record {
        lengths = λ g. elim (cases_eq g (file_of s)) [
          | inl here ↦
              let len : length (c (file_of s)) ≡ length (d (file_of s)) = omega (arith, torn.here.no_shorter, torn.here.no_longer, long) in
              inl (subst (λ (h : ℕ). length (c h) ≡ length (d h)) (sym here) len)
          | inr apart ↦ inl (ap (λ (l : List ℕ). length l) (torn.others g apart))
        ];
        bytes = λ g i low seen_low. elim (cases_eq g (file_of s)) [
          | inl here ↦
              let low_here : i < length (c (file_of s)) = subst (λ (h : ℕ). i < length (c h)) here low in
              let seen_here : i < length (seen (file_of s)) = subst (λ (h : ℕ). i < length (seen h)) here seen_low in
              let at_slot = slot_byte i low_here seen_here gate long loose torn in
              elim at_slot [
                | inl old ↦ inl (subst (λ (h : ℕ). slice_index (c h) i ≡ slice_index (d h) i) (sym here) old)
                | inr read ↦ inr (subst (λ (h : ℕ). slice_index (c h) i ≡ slice_index (seen h) i) (sym here) read)
              ]
          | inr apart ↦ inl (ap (λ (l : List ℕ). slice_index l i) (torn.others g apart))
        ];
      }
    where
      slot_byte : (i : ℕ) → i < length (c (file_of s)) → i < length (seen (file_of s)) → slice_index (c (file_of s)) 0 ≡ 1 → 1 < length (c (file_of s))
          → ((length (seen (file_of s)) ≡ 0) ⊎ (slice_index (seen (file_of s)) 0 ≡ 1)) → TornIn (file_of s) 0 1 d c
          → (slice_index (c (file_of s)) i ≡ slice_index (d (file_of s)) i) ⊎ (slice_index (c (file_of s)) i ≡ slice_index (seen (file_of s)) i)
      slot_byte zero low seen_low gate long (inl empty) torn = absurd (omega arith)
      slot_byte zero low seen_low gate long (inr one) torn = inr (gate ∙ sym one)
      slot_byte (suc i) low seen_low gate long loose torn = inl (torn.here.above (suc i) (omega (arith, torn.here.no_longer, low)) (omega arith))

  -- a gate that is being closed
  pub close_step : is_loose (seen (file_of s)) ≡ true → TornIn (file_of s) 0 1 d c → From images (Keeps s) c
  close_step loose torn = elim (cases_eq (slice_index (c (file_of s)) 0) 1) [
    | inr shut ↦ (d, image_d, keeps_closed s d c (may d image_d) (shut-gate (c (file_of s)) shut) torn.others)
    | inl gate ↦ elim (cases_lt 1 (length (c (file_of s)))) [
      | inr short ↦ (d, image_d, keeps_closed s d c (may d image_d) (shut-short (c (file_of s)) short) torn.others)
      | inl long ↦ (c, mixes d seen c image_d image_seen (mixed gate long (loose-parts (seen (file_of s)) loose) torn), keeps_refl s c)
    ]
  ]

-- a gate that needn't be written is closed
pub tight-closed : (file : List ℕ) → is_loose file ≡ false → IsClosedGate file
unfolding is_loose
tight-closed file tight =
    record {
      some = elim (cases_lt 0 (length file)) [ inl some ↦ some | inr none ↦ absurd (grind (arith, nat_tests)) ];
      shut = λ one. grind (arith, nat_tests);
    }

written_shut : (file : List ℕ) → IsClosedGate (written file 0 (0 ∷ []))
written_shut file =
    record {
      some = omega (arith, length-written file 0 (0 ∷ []));
      shut = let zero_byte : slice_index (written file 0 (0 ∷ [])) 0 ≡ 0 = written-here file 0 (0 ∷ []) 0 (omega arith) in omega (arith, zero_byte);
    }

pub closed_gate : (file : List ℕ) → IsClosedGate (with_closed_gate file)
closed_gate file = by_gate (is_loose file) refl
  where
    by_gate : (b : Bool) → is_loose file ≡ b → IsClosedGate (if b then written file 0 (0 ∷ []) else file)
    by_gate true loose = written_shut file
    by_gate false tight = tight-closed file tight

pub closed-shut : (file : List ℕ) → IsClosedGate file → is_open file ≡ false
closed-shut file closed = shut-gate file closed.shut

-- ---- writing behind a closed gate

pub body_step : (s : Slot) (n : ℕ) (d c : Contents) → IsClosedGate (d (file_of s)) → TornIn (file_of s) 1 n d c → Keeps s d c
body_step s n d c closed torn =
    let gate : slice_index (c (file_of s)) 0 ≡ slice_index (d (file_of s)) 0 = torn.here.below 0 closed.some (omega arith) in
    let shut : slice_index (c (file_of s)) 0 ≢ 1 = λ one. closed.shut (sym gate ∙ one) in
    keeps_closed s d c (inl (shut-gate (d (file_of s)) closed.shut)) (shut-gate (c (file_of s)) shut) torn.others

-- ---- opening a gate

pub opens_refl : (s : Slot) (c : Contents) → Opens s c c
opens_refl s c = record { becomes = inl refl; others = λ f apart. refl }

pub open_step : (s : Slot) (d c : Contents) → IsSlotReady s d → TornIn (file_of s) 0 1 d c → Opens s d c
open_step s d c ready torn =
    let long = body-long (d (file_of s)) ready.next ready.body_is in
    let len : length (c (file_of s)) ≡ length (d (file_of s)) = omega (arith, torn.here.no_shorter, torn.here.no_longer, long) in
    let same : body (c (file_of s)) ≡ body (d (file_of s)) = body-same (d (file_of s)) (c (file_of s)) len (λ i low some. torn.here.above i low some) in
    record {
      becomes = elim (cases_eq (slice_index (c (file_of s)) 0) 1) [
        | inl gate ↦
            let here : open_body (c (file_of s)) ≡ Some (Ok ready.next) =
            slot-open (c (file_of s)) (open-gate (c (file_of s)) gate (omega (arith, len, long))) ∙ ap (λ (r : Result Manifest ManifestFault). Some r) (same ∙ ready.body_is) in
            inr (ready.next, ready.body_is, current_if_follows s ready.next c here (succeeds_same s ready.next d c (torn.others (file_of (other s)) (other_apart s)) ready.follows))
        | inr shut ↦ inl (keeps_closed s d c (inl ready.closed) (shut-gate (c (file_of s)) shut) torn.others).same
      ];
      others = torn.others;
    }

-- the body stays behind a gate that was written
pub opened : (file : List ℕ) (m : Manifest) → body file ≡ Ok m → open_body (written file 0 (1 ∷ [])) ≡ Some (Ok m)
opened file m is =
    let long = body-long file m is in
    let len : length (written file 0 (1 ∷ [])) ≡ length file = omega (arith, length-written file 0 (1 ∷ []), long) in
    let gate : slice_index (written file 0 (1 ∷ [])) 0 ≡ 1 = written-here file 0 (1 ∷ []) 0 (omega arith) in
    let same : body (written file 0 (1 ∷ [])) ≡ body file = body-same file (written file 0 (1 ∷ [])) len (λ i low some. written-above file 0 (1 ∷ []) i low some) in
    slot-open (written file 0 (1 ∷ [])) (open-gate (written file 0 (1 ∷ [])) gate (omega (arith, len, long))) ∙ ap (λ (r : Result Manifest ManifestFault). Some r) (same ∙ is)

-- ---- the whole switch

apart_of : (s : Slot) (f : ℕ) → f ≢ 0 → f ≢ 1 → f ≢ file_of s
apart_of Zero f zero_not one_not = zero_not
apart_of One f zero_not one_not = one_not

pub keeps_stays : (s : Slot) (d c : Contents) → Keeps s d c → Stays d c
keeps_stays s d c k = record { same = k.same; others = λ f p q. k.others f (apart_of s f p q) }

-- a gate is opened behind a sync, where all files but this slot's are as a read gave them at first
pub keeps_opens : (s : Slot) (m : Manifest) (seen d x c : Contents) → body (x (file_of s)) ≡ Ok m → ((f : ℕ) → f ≢ file_of s → x f ≡ seen f) → Keeps s d x → Opens s x c → Switches seen m d c
keeps_opens s m seen d x c is synced k o = elim o.becomes [
  | inl same ↦ inl (record { same = same ∙ k.same; others = λ f p q. o.others f (apart_of s f p q) ∙ k.others f (apart_of s f p q) })
  | inr new ↦ inr (record {
    slot = s;
    current = new.2 ∙ ap (λ (r : Result Manifest ManifestFault). at_slot r) (sym new.1 ∙ is);
    others = λ f p q. o.others f (apart_of s f p q) ∙ synced f (apart_of s f p q);
  })
]
  where
    at_slot : Result Manifest ManifestFault → Result Found OpenFault
    at_slot (Ok x) = Ok (At s x)
    at_slot (Err f) = Ok (At s m)

pub switches_keeps : (s : Slot) (m : Manifest) (seen d x c : Contents) → Switches seen m d x → Keeps s x c → Switches seen m d c
switches_keeps s m seen d x c (inl stays) k = inl (record { same = k.same ∙ stays.same; others = λ f p q. k.others f (apart_of s f p q) ∙ stays.others f p q })
switches_keeps s m seen d x c (inr made) k = inr (record { slot = made.slot; current = k.same ∙ made.current; others = λ f p q. k.others f (apart_of s f p q) ∙ made.others f p q })
