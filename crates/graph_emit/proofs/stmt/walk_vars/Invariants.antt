use Rattle.std.proofs.Common.{drop}
use Rattle.graph_emit.specs.Settings.{seen}
use Rattle.graph_emit.specs.Walk.{vars_walk}
use Rattle.graph_emit.proofs.Steps.{GoesOn}
use Rattle.graph_emit.proofs.stmt.walk_vars.Given as goal

-- what stands from here on is walked as what is left of the whole
abbrev pub invariant-loop-var : goal.invariant-loop-var
invariant-loop-var l = record {
  goes_on : GoesOn (vars_walk (seen l.fn.set) l.fn.vars) l.fn.emitter (vars_walk (seen l.fn.set) (drop l.var-index l.fn.vars)) l.emitter;
}
