use Rattle.std.proofs.Common.{◌≡◌, [], drop}
use Rattle.std.specs.Prelude.{map, reverse}
use Rattle.graph_emit.specs.Functions.{bound}
use Rattle.graph_emit.specs.Program.{params_made as params_step}
use Rattle.graph_emit.proofs.Steps.{GoesOn}
use Rattle.graph_emit.proofs.functions.params_made.Given as goal

-- the parameters from here on are made as what is left of all of them
abbrev pub invariant-loop-param : goal.invariant-loop-param
invariant-loop-param l = record {
  goes_on : GoesOn (params_step [] l.fn.params) l.fn.emitter (params_step l.names.inner (drop l.param-index l.fn.params)) l.emitter;
  names : reverse (map bound l.made.items) ≡ l.names.inner;
}
