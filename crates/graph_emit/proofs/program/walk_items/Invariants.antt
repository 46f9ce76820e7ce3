use Rattle.std.proofs.Common.{drop}
use Rattle.graph_emit.specs.Settings.{seen}
use Rattle.graph_emit.specs.Program.{items_walk}
use Rattle.graph_emit.proofs.Steps.{GoesOn}
use Rattle.graph_emit.proofs.program.walk_items.Given as goal

-- what stands from here on is walked as what is left of the whole
abbrev pub invariant-loop-item : goal.invariant-loop-item
invariant-loop-item l = record {
  goes_on : GoesOn (items_walk (seen l.fn.set) l.fn.items) l.fn.emitter (items_walk (seen l.fn.set) (drop l.item-index l.fn.items)) l.emitter;
}
