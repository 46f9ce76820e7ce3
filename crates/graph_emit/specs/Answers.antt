-- What the code answers of a step of the walk, and what it keeps beside a graph.
use Rattle.std.specs.Prelude.{◌≡◌, ◌⊎◌, ◌≤◌, ℕ, List, length, Option, Result, Ok, Err}
use Rattle.std.specs.Ordering.{nat_cmp}
use Rattle.std.specs.BTreeMap.{BTreeMap, get_by}
use Rattle.emit_list.specs.declared.vertex.TheConstants.{MOST_VERTICES}
use Rattle.graph_emit.specs.declared.fault.EmitFault.{EmitFault}
use Rattle.graph_emit.specs.declared.fault.EmitFault.TheVariants as fault
use Rattle.graph_emit.specs.declared.emitter.Spot.{Spot}
use Rattle.graph_emit.specs.State.{Made, State, Walk, is_deref_of, is_address_of, place_of}

-- a step went well: what it gave and left. The names around the innermost scope are what they were.
pub record WalkGives {A : Type 0} (w : Walk A) (before : State) (a : A) (after : State) : Type 0 where
  pub walked : w before ≡ Ok (after, a)
  pub around : after.outer ≡ before.outer

-- memory was wanted, or this is the step's own refusal
abbrev pub StepRefuses : {A : Type 0} → Walk A → State → EmitFault → Type 0
StepRefuses w before e = (e ≡ fault.NoMemory) ⊎ (w before ≡ Err e)

-- What a call answered, seen as what a step gives, is what the step gave and left, or its refusal, or memory was
-- wanted.
pub record AnswersAs {R A : Type 0} (seen : R → A) (w : Walk A) (before : State)
    (r : Result R EmitFault) (after : State) : Type 0 where
  pub gives : (a : R) → r ≡ Ok a → WalkGives w before (seen a) after
  pub refuses : (e : EmitFault) → r ≡ Err e → StepRefuses w before e

abbrev pub Answers : {A : Type 0} → Walk A → State → Result A EmitFault → State → Type 0
Answers {A} w before r after = AnswersAs (λ (a : A). a) w before r after

abbrev pub made : Spot → Made
made spot = record { form = spot.form; name = spot.name.now; token = spot.token }

-- the value at a number
abbrev pub at_number : BTreeMap ℕ ℕ → ℕ → Option ℕ
at_number m v = get_by (nat_cmp v) m

-- the maps find the dereference and the address of each vertex
pub record IsIndexed (vertices : List Made) (derefs addresses : BTreeMap ℕ ℕ) : Type 0 where
  pub few : length vertices ≤ MOST_VERTICES
  pub deref : (v : ℕ) → at_number derefs v ≡ place_of (is_deref_of v) vertices
  pub address : (v : ℕ) → at_number addresses v ≡ place_of (is_address_of v) vertices
