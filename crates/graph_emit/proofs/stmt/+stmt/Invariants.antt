use Rattle.std.proofs.Common.{drop}
use Rattle.std.specs.Prelude.{map}
use Rattle.graph_emit.specs.Settings.{seen}
use Rattle.graph_emit.specs.Walk.{in_order, stmt_walk}
use Rattle.graph_emit.proofs.Steps.{GoesOn}
use Rattle.graph_emit.proofs.stmt.+stmt.Given as goal

-- the statements from here on are walked as what is left of all of them
abbrev pub invariant-walk_stmts-loop-stmt : goal.invariant-walk_stmts-loop-stmt
invariant-walk_stmts-loop-stmt l = record {
  goes_on : GoesOn (in_order (map (stmt_walk (seen l.fn.set) l.gives) l.fn.stmts)) l.fn.emitter
      (in_order (map (stmt_walk (seen l.fn.set) l.gives) (drop l.stmt-index l.stmt-items))) l.emitter;
}
