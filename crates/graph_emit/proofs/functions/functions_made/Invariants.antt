use Rattle.std.proofs.Common.{[], drop}
use Rattle.graph_emit.specs.Program.{functions_made as functions_step}
use Rattle.graph_emit.proofs.Steps.{GoesOn}
use Rattle.graph_emit.proofs.functions.functions_made.Given as goal

-- the items from here on are walked as what is left of all of them
abbrev pub invariant-loop-item : goal.invariant-loop-item
invariant-loop-item l = record {
  goes_on : GoesOn (functions_step [] l.fn.items) l.fn.emitter (functions_step l.functions (drop l.item-index l.fn.items)) l.emitter;
}
