use Rattle.std.proofs.Common.{◌≡◌, ◌++◌, drop}
use Rattle.std.specs.Prelude.{map, reverse}
use Rattle.graph_emit.specs.Functions.{bound}
use Rattle.graph_emit.proofs.stmt.bind_params.Given as goal

-- the names of the parameters from here on come before those that are bound
abbrev pub invariant-loop-param : goal.invariant-loop-param
invariant-loop-param l = record {
  vertices : l.emitter.vertices ≡ l.fn.emitter.vertices;
  edges : l.emitter.edges ≡ l.fn.emitter.edges;
  inner : reverse (map bound (drop l.param-index l.fn.params)) ++ l.emitter.inner ≡ reverse (map bound l.fn.params) ++ l.fn.emitter.inner;
  outer : l.emitter.outer ≡ l.fn.emitter.outer;
}
