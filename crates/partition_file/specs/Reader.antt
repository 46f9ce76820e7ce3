-- A reader of a partition file that comes in pieces.
use Rattle.std.specs.Prelude.{◌≡◌, ℕ, ◌+◌, ◌<◌, ◌≤◌, List, [], ◌++◌, length, take, Option, Some, None, Result, Ok, Err, ◌⊎◌}
use Rattle.group_number.specs.declared.reading.NumberRead.{NumberRead}
use Rattle.group_number.specs.declared.reading.NumberRead.TheVariants as numbers
use Rattle.graph_words.specs.declared.types.Born.{Born}
use Rattle.faults.specs.declared.form_kind.FormKind.TheVariants.{Short, BadNumber}
use Rattle.partition_file.specs.declared.types.Expect.{Expect}
use Rattle.partition_file.specs.declared.types.PartFault.{PartFault}
use Rattle.partition_file.specs.declared.types.Stage.{Stage}
use Rattle.partition_file.specs.declared.types.Stage.TheVariants as stages
use Rattle.partition_file.specs.declared.types.Completed.{Completed}
use Rattle.partition_file.specs.declared.types.RowStep.{RowStep}
use Rattle.partition_file.specs.declared.types.RowStep.TheVariants as steps
use Rattle.partition_file.specs.FieldsRead.{Found, Behind, complete, ends_with, stop, then_found}
use Rattle.partition_file.specs.Stages.{stage_at, field_in, completed_at, IsStage, IsCompleted}

-- a reader: the field that comes next, its place, and its bytes so far
pub record Reader : Type 0 where
  pub expect : Expect
  pub stage : Stage
  pub place : ℕ
  pub held : List ℕ

-- the present field belongs to the interval, and is not whole yet
pub record IsReader (r : Reader) : Type 0 where
  pub bounds : r.expect.lo < r.expect.hi
  pub stage : IsStage r.expect r.stage
  pub partial : field_in r.stage r.held ≡ numbers.Short

-- a reader that was given no byte
abbrev pub start : Expect → Reader
start e = record { expect = e; stage = stages.Magic; place = 0; held = [] }

-- what the reader still gives if these bytes come
abbrev pub rest_of : Reader → List ℕ → Found
rest_of r bytes = stage_at r.expect r.stage r.place (r.held ++ bytes)

-- how many bytes the fields have so far
abbrev pub taken : Reader → ℕ
taken r = r.place + length r.held

-- nothing is decided that was not given: were this the end, it would be the right one, or too early
abbrev pub IsOpen : Reader → Type 0
IsOpen r = (rest_of r [] ≡ complete) ⊎ (rest_of r [] ≡ stop r.place Short)

-- a reader whose stream met this fault
abbrev pub HasPartFault : Reader → PartFault → Type 0
HasPartFault r f = r.stage ≡ stages.Fault f

-- a step that a call gave, which used `bytes`: whatever bytes come behind them, the old reader would give the step and then what the new one gives
abbrev pub GivesStep : Reader → Reader → List ℕ → RowStep → Type 0
GivesStep old new bytes steps.More = ((more : List ℕ) → rest_of old (bytes ++ more) ≡ rest_of new more) × IsOpen new
GivesStep old new bytes (steps.Edge b) = (more : List ℕ) → rest_of old (bytes ++ more) ≡ then_found b (rest_of new more)
GivesStep old new bytes (steps.Fault f) = ((more : List ℕ) → rest_of old (bytes ++ more) ≡ ends_with f) × HasPartFault new f
GivesStep old new bytes steps.End = ⊥

-- bytes within a field, and the step that they give where they end the field
abbrev pub FeedsField : Reader → Reader → List ℕ → Option RowStep → Type 0
FeedsField old new bytes None = GivesStep old new bytes steps.More
FeedsField old new bytes (Some steps.More) = ⊥
FeedsField old new bytes (Some step) = GivesStep old new bytes step

-- how many of n bytes a step uses: all, or at least the last one of an edge
abbrev pub Uses : ℕ → ℕ → RowStep → Type 0
Uses n used steps.More = used ≡ n
Uses n used (steps.Edge b) = (0 < used) × (used ≤ n)
Uses n used _ = used ≤ n

-- what the end of the bytes gives
abbrev pub FinishesReading : Reader → Reader → RowStep → Type 0
FinishesReading old new steps.End = (rest_of old [] ≡ complete) × (new ≡ old)
FinishesReading old new (steps.Fault f) = (rest_of old [] ≡ ends_with f) × HasPartFault new f
FinishesReading old new _ = ⊥

-- edges in front of those that are still to come
abbrev pub prepend : List Born → Found → Found
prepend front f = record { edges = front ++ f.edges; fault = f.fault }

-- from one field to a later one over these bytes: what the first gives stands behind the edges before as what the second gives behind those after
abbrev pub LeadsTo : Expect → Stage → ℕ → List Born → List ℕ → Stage → ℕ → List Born → Type 0
LeadsTo e s place before bytes t after behind =
    (more : List ℕ) → prepend before (stage_at e s place (bytes ++ more)) ≡ prepend behind (stage_at e t after more)

-- a whole piece was used, and its edges stand behind those before. A fault ends them, and without one nothing is decided that was not given.
abbrev pub ReadsPiece : Reader → Reader → List Born → List Born → List ℕ → Option PartFault → Type 0
ReadsPiece old new before after piece None =
    ((more : List ℕ) → prepend before (rest_of old (piece ++ more)) ≡ prepend after (rest_of new more)) × IsOpen new
ReadsPiece old new before after piece (Some f) = (more : List ℕ) → prepend before (rest_of old (piece ++ more)) ≡ prepend after (ends_with f)

-- what the front of some bytes gives at a place, with how many of them it is, or its fault. Nothing is said where the bytes end within it.
abbrev pub Gives : {X : Type 0} → ((X → Behind) → Behind) → ℕ → List ℕ → Result (Option (X × ℕ)) PartFault → Type 0
Gives read place bytes (Ok None) = Unit {0}
Gives {X = X} read place bytes (Ok (Some (x, len))) = (0 < len) × (len ≤ length bytes)
    × ((next : X → Behind) (rest : List ℕ) → read next place (take len bytes ++ rest) ≡ next x (place + len) rest)
Gives {X = X} read place bytes (Err f) = (next : X → Behind) (rest : List ℕ) → read next place (bytes ++ rest) ≡ ends_with f

-- what a rule that was asked leads to
abbrev pub rule_leads : (ℕ → Behind) → Result ℕ PartFault → Behind
rule_leads next (Ok n) = next n
rule_leads next (Err f) = λ after rest. ends_with f

-- what a number that was asked for is: none where the bytes end within it
abbrev pub IsFront : NumberRead → ℕ → Result (Option (ℕ × ℕ)) PartFault → Type 0
IsFront read place (Ok None) = read ≡ numbers.Short
IsFront read place (Ok (Some (n, len))) = read ≡ numbers.Number n len
IsFront read place (Err f) = (read ≡ numbers.Bad) × (f ≡ record { place = place; kind = BadNumber })

-- what bytes of a field lead to: nothing yet, or what the whole field leads to
abbrev pub CompletesField : Expect → Stage → ℕ → List ℕ → Option Completed → Type 0
CompletesField e s place held None = field_in s held ≡ numbers.Short
CompletesField e s place held (Some c) = IsCompleted e c
    × ((rest : List ℕ) → stage_at e s place (held ++ rest) ≡ completed_at e c (place + length held) rest)

-- rows that lie whole in front of some bytes were taken, with their edges. How many bytes that is.
pub record TakesRows (old new : Reader) (before after : List Born) (bytes : List ℕ) (used : ℕ) : Type 0 where
  pub reads : (more : List ℕ) → prepend before (rest_of old (take used bytes ++ more)) ≡ prepend after (rest_of new more)
  pub within : used ≤ length bytes
  pub taken : taken new ≤ taken old + used
  pub few : length after ≤ length before + used
