-- What a call makes of inputs and sinks, in words that take them whole: their trait, and how they are before and after.
use Rattle.std.specs.Prelude.{◌≡◌, ℕ, ◌≤◌, List}
use Rattle.faults.specs.Counts.{Rose}
use Rattle.io_edge.specs.declared.devices.Inputs as inputs
use Rattle.io_edge.specs.declared.devices.Sink as sink

-- the count of no name falls
abbrev pub NoCountFalls : {I : Type 0} → inputs.Ghosts I → I → I → Type 0
NoCountFalls i old new = (other : List ℕ) → i.faults old other ≤ i.faults new other

-- the bytes that are told stay, and no count falls
pub record KeepsInputs {I : Type 0} (i : inputs.Ghosts I) (old new : I) : Type 0 where
  pub kept : i.told new ≡ i.told old
  pub others : NoCountFalls i old new

-- the count of faults of this name rose
abbrev pub ReadRose : {I : Type 0} → inputs.Ghosts I → I → I → List ℕ → Type 0
ReadRose i old new name = Rose (i.faults old name) (i.faults new name)

-- the sink's count of faults rose
abbrev pub WriteRose : {O : Type 0} → sink.Ghosts O → O → O → Type 0
WriteRose o old new = Rose (o.faults old) (o.faults new)
