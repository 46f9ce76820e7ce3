-- One more byte of a field.
use Rattle.std.proofs.Common.{◌⊎◌, ◌≡◌, ℕ, ◌+◌, ◌-◌, ◌<◌, ◌≤◌, List, [], ◌∷◌, ◌++◌, length, take, drop, set, Some, None, refl, sym, ap, subst, ◌∙◌, append_assoc, arith, inl, inr, length-append}
use Rattle.std.proofs.lemmas.List.{append-nil, take_more_set, take_at, drop_all}
use Rattle.group_number.specs.declared.reading.NumberRead.{NumberRead}
use Rattle.group_number.specs.declared.reading.NumberRead.TheVariants as numbers
use Rattle.faults.specs.declared.form_kind.FormKind.TheVariants.{Short, BadNumber}
use Rattle.partition_file.specs.declared.types.Expect.{Expect}
use Rattle.partition_file.specs.declared.types.PartFault.{PartFault}
use Rattle.partition_file.specs.declared.types.Stage.{Stage}
use Rattle.partition_file.specs.declared.types.Stage.TheVariants as stages
use Rattle.partition_file.specs.declared.types.Completed.{Completed}
use Rattle.partition_file.specs.declared.types.Completed.TheVariants as completed
use Rattle.partition_file.specs.declared.types.RowStep.{RowStep}
use Rattle.partition_file.specs.declared.types.RowStep.TheVariants as steps
use Rattle.partition_file.specs.FieldsRead.{complete, number_leads, number, stop, magic_at, low_at, high_at, count_at, label_at, destination_at, birth_at, end_at}
use Rattle.partition_file.specs.Stages.{stage_at, format_in, width_of, field_in, numbered_at, IsNextStage, IsStage, IsCompleted, completed_at, stage_behind, step_of}
use Rattle.partition_file.specs.Reader.{Reader, IsOpen, rest_of, FeedsField, GivesStep, Uses}
use Rattle.partition_file.proofs.NumberLaws.{little_long, little_is, IsLittle, nothing_read, number_all, short_below, leads_short, leads_bad, leads_on}

pub width_at_most : (s : Stage) → width_of s ≤ 8
width_at_most stages.Magic = omega arith
width_at_most (stages.Low f) = omega arith
width_at_most (stages.High f) = omega arith
width_at_most (stages.Count f v) = omega arith
width_at_most (stages.Label r) = omega arith
width_at_most (stages.Destination r label) = omega arith
width_at_most (stages.Birth f edge left) = omega arith
width_at_most stages.End = omega arith
width_at_most (stages.Fault f) = omega arith

pub width_at_least : (s : Stage) → 0 < width_of s
width_at_least stages.Magic = omega arith
width_at_least (stages.Low f) = omega arith
width_at_least (stages.High f) = omega arith
width_at_least (stages.Count f v) = omega arith
width_at_least (stages.Label r) = omega arith
width_at_least (stages.Destination r label) = omega arith
width_at_least (stages.Birth f edge left) = omega arith
width_at_least stages.End = omega arith
width_at_least (stages.Fault f) = omega arith

-- no byte of a field is not all of it, and bytes that aren't are fewer than ten
pub nothing_in : (s : Stage) → field_in s [] ≡ numbers.Short
nothing_in s = nothing_read (format_in s) (width_of s) (width_at_least s)

pub part_short : (s : Stage) (held : List ℕ) → field_in s held ≡ numbers.Short → length held < 10
part_short s held e = short_below (format_in s) (width_of s) held (width_at_most s) e

-- a field is a number, and what the number leads to
stage_number : (e : Expect) (s : Stage) (place b : ℕ) (bytes : List ℕ) → stage_at e s place (b ∷ bytes) ≡ number (format_in s) (width_of s) place (b ∷ bytes) (numbered_at e s place)
unfolding magic_at low_at high_at count_at label_at destination_at birth_at end_at
stage_number e stages.Magic place b bytes = refl
stage_number e (stages.Low f) place b bytes = refl
stage_number e (stages.High f) place b bytes = refl
stage_number e (stages.Count f v) place b bytes = refl
stage_number e (stages.Label r) place b bytes = refl
stage_number e (stages.Destination r label) place b bytes = refl
stage_number e (stages.Birth f edge left) place b bytes = refl
stage_number e stages.End place b bytes = sym (ap (λ (r : NumberRead). number_leads r place (b ∷ bytes) (numbered_at e stages.End place)) (little_long 1 (b ∷ bytes) (omega arith)))
stage_number e (stages.Fault f) place b bytes = sym (ap (λ (r : NumberRead). number_leads r place (b ∷ bytes) (numbered_at e (stages.Fault f) place)) (little_long 1 (b ∷ bytes) (omega arith)))

-- ---- what a whole field leads to

pub field_ends : (e : Expect) (s : Stage) (place : ℕ) (held rest : List ℕ) (n len : ℕ) → 0 < length held → field_in s (take (length held - 1) held) ≡ numbers.Short → field_in s held ≡ numbers.Number n len
    → stage_at e s place (held ++ rest) ≡ numbered_at e s place n (place + length held) rest
field_ends e s place [] rest n len some before read = absurd (omega arith)
field_ends e s place (b ∷ bytes) rest n len some before read =
    let held : List ℕ = b ∷ bytes in
    let all : len ≡ length held = number_all (format_in s) (width_of s) held n len read before in
    stage_number e s place b (bytes ++ rest)
    ∙ leads_on (format_in s) (width_of s) place held rest (numbered_at e s place) n len (width_at_least s) read
    ∙ ap (λ (k : ℕ). numbered_at e s place n (place + k) (drop k held ++ rest)) all
    ∙ ap (λ (x : List ℕ). numbered_at e s place n (place + length held) (x ++ rest)) (drop_all (length held) held (omega arith))

pub field_breaks : (e : Expect) (s : Stage) (place : ℕ) (held rest : List ℕ) → 0 < length held → field_in s held ≡ numbers.Bad → stage_at e s place (held ++ rest) ≡ stop place BadNumber
field_breaks e s place [] rest some read = absurd (omega arith)
field_breaks e s place (b ∷ bytes) rest some read =
    stage_number e s place b (bytes ++ rest) ∙ leads_bad (format_in s) (width_of s) place (b ∷ bytes) rest (numbered_at e s place) read

-- ---- a field whose bytes end too early

abbrev pub IsNoFault : Stage → Type 0
IsNoFault (stages.Fault f) = ⊥
IsNoFault s = Unit {0}

-- at the end no byte is held
none_held : (held : List ℕ) → field_in stages.End held ≡ numbers.Short → held ≡ []
none_held [] e = refl
none_held (b ∷ held) e = let is = subst (IsLittle 1 (b ∷ held)) e (little_is 1 (b ∷ held)) in absurd (omega (arith, is))

short_number : (e : Expect) (s : Stage) (place : ℕ) (held : List ℕ) → field_in s held ≡ numbers.Short → number (format_in s) (width_of s) place held (numbered_at e s place) ≡ stop place Short
short_number e s place held read = leads_short (format_in s) (width_of s) place held (numbered_at e s place) read

-- where neither the end nor a fault comes next, the end comes too early
ends_short : (e : Expect) (s : Stage) (place : ℕ) (held : List ℕ) → (s ≡ stages.End → ⊥) → IsNoFault s → field_in s held ≡ numbers.Short → stage_at e s place held ≡ stop place Short
unfolding magic_at low_at high_at count_at label_at destination_at birth_at
ends_short e stages.Magic place held n calm read = short_number e stages.Magic place held read
ends_short e (stages.Low f) place held n calm read = short_number e (stages.Low f) place held read
ends_short e (stages.High f) place held n calm read = short_number e (stages.High f) place held read
ends_short e (stages.Count f v) place held n calm read = short_number e (stages.Count f v) place held read
ends_short e (stages.Label r) place held n calm read = short_number e (stages.Label r) place held read
ends_short e (stages.Destination r label) place held n calm read = short_number e (stages.Destination r label) place held read
ends_short e (stages.Birth f edge left) place held n calm read = short_number e (stages.Birth f edge left) place held read
ends_short e stages.End place held n calm read = absurd (n refl)
ends_short e (stages.Fault f) place held n calm read = absurd calm

pub at_end : (e : Expect) (place : ℕ) (held : List ℕ) → field_in stages.End held ≡ numbers.Short → end_at place (held ++ []) ≡ complete
unfolding end_at
at_end e place held read = rw (none_held held read) refl

short : (e : Expect) (s : Stage) (place : ℕ) (held : List ℕ) → IsNoFault s → field_in s held ≡ numbers.Short → (stage_at e s place held ≡ complete) ⊎ (stage_at e s place held ≡ stop place Short)
unfolding end_at
short e stages.Magic place held calm read = inr (ends_short e stages.Magic place held (λ x. cc) calm read)
short e (stages.Low f) place held calm read = inr (ends_short e (stages.Low f) place held (λ x. cc) calm read)
short e (stages.High f) place held calm read = inr (ends_short e (stages.High f) place held (λ x. cc) calm read)
short e (stages.Count f v) place held calm read = inr (ends_short e (stages.Count f v) place held (λ x. cc) calm read)
short e (stages.Label r) place held calm read = inr (ends_short e (stages.Label r) place held (λ x. cc) calm read)
short e (stages.Destination r label) place held calm read = inr (ends_short e (stages.Destination r label) place held (λ x. cc) calm read)
short e (stages.Birth f edge left) place held calm read = inr (ends_short e (stages.Birth f edge left) place held (λ x. cc) calm read)
short e stages.End place held calm read = inl (rw (none_held held read) refl)
short e (stages.Fault f) place held calm read = absurd calm

abbrev pub reader : Expect → Stage → ℕ → List ℕ → Reader
reader e s place held = record { expect = e; stage = s; place = place; held = held }

pub is_open : (e : Expect) (s : Stage) (place : ℕ) (held : List ℕ) → IsNoFault s → field_in s held ≡ numbers.Short → IsOpen (reader e s place held)
is_open e s place held calm read = rw (append-nil held) (short e s place held calm read)

pub no_fault_from_next : (e : Expect) (s : Stage) → IsNextStage e s → IsNoFault s
no_fault_from_next e stages.Magic n = tt
no_fault_from_next e (stages.Low f) n = tt
no_fault_from_next e (stages.High f) n = tt
no_fault_from_next e (stages.Count f v) n = tt
no_fault_from_next e (stages.Label r) n = tt
no_fault_from_next e (stages.Destination r label) n = tt
no_fault_from_next e (stages.Birth f edge left) n = tt
no_fault_from_next e stages.End n = tt
no_fault_from_next e (stages.Fault f) n = absurd n

pub stage_from_next : (e : Expect) (s : Stage) → IsNextStage e s → IsStage e s
stage_from_next e stages.Magic n = tt
stage_from_next e (stages.Low f) n = tt
stage_from_next e (stages.High f) n = tt
stage_from_next e (stages.Count f v) n = n
stage_from_next e (stages.Label r) n = n
stage_from_next e (stages.Destination r label) n = n
stage_from_next e (stages.Birth f edge left) n = n
stage_from_next e stages.End n = tt
stage_from_next e (stages.Fault f) n = tt

pub no_fault_from_not : (s : Stage) → ((f : PartFault) → s ≡ stages.Fault f → ⊥) → IsNoFault s
no_fault_from_not stages.Magic n = tt
no_fault_from_not (stages.Low f) n = tt
no_fault_from_not (stages.High f) n = tt
no_fault_from_not (stages.Count f v) n = tt
no_fault_from_not (stages.Label r) n = tt
no_fault_from_not (stages.Destination r label) n = tt
no_fault_from_not (stages.Birth f edge left) n = tt
no_fault_from_not stages.End n = tt
no_fault_from_not (stages.Fault f) n = n f refl

pub unfinished : (e : Expect) (s : Stage) (place : ℕ) (held : List ℕ) → (s ≡ stages.End → ⊥) → ((f : PartFault) → s ≡ stages.Fault f → ⊥) → field_in s held ≡ numbers.Short → stage_at e s place (held ++ []) ≡ stop place Short
unfinished e s place held n f read = rw (append-nil held) (ends_short e s place held n (no_fault_from_not s f) read)

-- behind a fault no byte is held
pub no_fault_from_held : (s : Stage) (held : List ℕ) → 0 < length held → field_in s held ≡ numbers.Short → IsNoFault s
no_fault_from_held stages.Magic held some read = tt
no_fault_from_held (stages.Low f) held some read = tt
no_fault_from_held (stages.High f) held some read = tt
no_fault_from_held (stages.Count f v) held some read = tt
no_fault_from_held (stages.Label r) held some read = tt
no_fault_from_held (stages.Destination r label) held some read = tt
no_fault_from_held (stages.Birth f edge left) held some read = tt
no_fault_from_held stages.End held some read = tt
no_fault_from_held (stages.Fault f) held some read = let is = subst (IsLittle 1 held) read (little_is 1 held) in absurd (omega (arith, is, some))

-- the byte stands behind those that are held
pub joined : (e : Expect) (s : Stage) (place : ℕ) (buffer : List ℕ) (count byte : ℕ) (more : List ℕ) → count < length buffer → stage_at e s place (take count buffer ++ byte ∷ more) ≡ stage_at e s place (take (count + 1) (set buffer count byte) ++ more)
joined e s place buffer count byte more lt =
    ap (stage_at e s place) (sym (ap (λ (x : List ℕ). x ++ more) (take_more_set buffer count byte lt) ∙ append_assoc (take count buffer) (byte ∷ []) more))

-- and without it they were not the whole field
pub held_before : (s : Stage) (buffer : List ℕ) (count byte : ℕ) → count < length buffer → field_in s (take count buffer) ≡ numbers.Short
    → field_in s (take (length (take (count + 1) (set buffer count byte)) - 1) (take (count + 1) (set buffer count byte))) ≡ numbers.Short
held_before s buffer count byte lt read =
    let held : List ℕ = take (count + 1) (set buffer count byte) in
    let whole : held ≡ take count buffer ++ byte ∷ [] = take_more_set buffer count byte lt in
    let size : length held - 1 ≡ length (take count buffer) = omega (arith, ap (λ (x : List ℕ). length x) whole, length-append (take count buffer) (byte ∷ [])) in
    ap (λ (k : ℕ). field_in s (take k held)) size ∙ ap (λ (x : List ℕ). field_in s (take (length (take count buffer)) x)) whole
    ∙ ap (field_in s) (take_at (take count buffer) (byte ∷ []) (length (take count buffer)) refl) ∙ read

-- a whole field was taken
pub completes : (e : Expect) (s : Stage) (place w : ℕ) (front bytes : List ℕ) (c : Completed) → ((more : List ℕ) → stage_at e s place (front ++ (bytes ++ more)) ≡ completed_at e c (place + w) more) → IsCompleted e c → FeedsField (reader e s place front) (reader e (stage_behind c) (place + w) []) bytes (step_of c)
completes e s place w front bytes (completed.On next) leads is = (leads, is_open e next (place + w) [] (no_fault_from_next e next is) (nothing_in next))
completes e s place w front bytes (completed.Edge b next) leads is = leads
completes e s place w front bytes (completed.Fault f) leads is = (leads, refl)

pub stage_is_kept : (e : Expect) (c : Completed) → IsCompleted e c → IsStage e (stage_behind c)
stage_is_kept e (completed.On next) is = stage_from_next e next is
stage_is_kept e (completed.Edge b next) is = stage_from_next e next is
stage_is_kept e (completed.Fault f) is = tt

-- bytes before, and some that give a step
pub chained : (old mid new : Reader) (front bytes : List ℕ) (step : RowStep) → ((more : List ℕ) → rest_of old (front ++ more) ≡ rest_of mid more) → FeedsField mid new bytes (Some step) → GivesStep old new (front ++ bytes) step
chained old mid new front bytes steps.More so_far fed = absurd fed
chained old mid new front bytes (steps.Edge b) so_far fed = λ more. ap (rest_of old) (append_assoc front bytes more) ∙ so_far (bytes ++ more) ∙ fed more
chained old mid new front bytes (steps.Fault f) so_far fed = (λ more. ap (rest_of old) (append_assoc front bytes more) ∙ so_far (bytes ++ more) ∙ fed.0 more, fed.1)
chained old mid new front bytes steps.End so_far fed = absurd fed

-- bytes before, and some within a field
pub chained_more : (old mid new : Reader) (front bytes : List ℕ) → ((more : List ℕ) → rest_of old (front ++ more) ≡ rest_of mid more) → FeedsField mid new bytes None → (more : List ℕ) → rest_of old ((front ++ bytes) ++ more) ≡ rest_of new more
chained_more old mid new front bytes so_far fed = λ more. ap (rest_of old) (append_assoc front bytes more) ∙ so_far (bytes ++ more) ∙ fed.0 more

pub used_by : (mid new : Reader) (bytes : List ℕ) (n used : ℕ) (step : RowStep) → 0 < used → used ≤ n → FeedsField mid new bytes (Some step) → Uses n used step
used_by mid new bytes n used steps.More some le fed = absurd fed
used_by mid new bytes n used (steps.Edge b) some le fed = (some, le)
used_by mid new bytes n used (steps.Fault f) some le fed = le
used_by mid new bytes n used steps.End some le fed = le
