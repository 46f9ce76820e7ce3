-- The closing as a machine: what may happen to the state that a commit has kept, and to the one that is being made.
use Rattle.std.specs.Prelude.{◌≡◌, ℕ, Bool, List, [], ◌∷◌}
use Rattle.graph_words.specs.Reach.{Graph}
use Rattle.normal_law.specs.Closure.{Normal}
use Rattle.closing_machine.specs.State.{State}
use Rattle.closing_machine.specs.Machine.{IsSuperstep, IsSplit}
use Rattle.closing_machine.specs.Add.{IsAdd}
use Rattle.closing_machine.specs.Holds.{IsClosingState, IsTask}

-- a state, and the graph of which it is one
pub record Closing : Type 0 where
  pub graph : Graph
  pub state : State

-- it is of a task, and holds
pub record IsSound (n : Normal) (c : Closing) : Type 0 where
  pub task : IsTask n c.graph
  pub holds : IsClosingState n c.graph c.state

-- what may happen
pub data Event : Type 0 where
  Superstep : (i j k : ℕ) → Bool → Event
  Split : (i at : ℕ) → Event
  Add : Graph → Event
  Switch : Event
  Stop : Event

-- what a commit has kept, and what is being made
pub record Machine : Type 0 where
  pub kept : Closing
  pub next : Closing

-- the machine with nothing in the making
abbrev pub at_rest : Graph → State → Machine
at_rest g s = record { kept = record { graph = g; state = s }; next = record { graph = g; state = s } }

-- what the event may make of the machine
abbrev pub Happens : Normal → Machine → Event → Machine → Type 0
Happens n m (Superstep i j k closed) after = (after.kept ≡ m.kept) × (after.next.graph ≡ m.next.graph)
    × IsSuperstep n i j k closed m.next.state after.next.state
Happens n m (Split i at) after = (after.kept ≡ m.kept) × (after.next.graph ≡ m.next.graph) × IsSplit i at m.next.state after.next.state
Happens n m (Add g) after = (after.kept ≡ m.kept) × (after.next.graph ≡ g) × IsTask n g × IsAdd n m.next.graph g m.next.state after.next.state
Happens n m Switch after = (after.kept ≡ m.next) × (after.next ≡ m.next)
Happens n m Stop after = (after.kept ≡ m.kept) × (after.next ≡ m.kept)

-- what the events may make of it, one after the other
abbrev pub Run : Normal → Machine → List Event → Machine → Type 0
Run n m [] after = after ≡ m
Run n m (e ∷ es) after = (mid : Machine) × Happens n m e mid × Run n mid es after
