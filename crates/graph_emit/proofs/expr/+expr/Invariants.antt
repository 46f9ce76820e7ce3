use Rattle.std.proofs.Common.{drop}
use Rattle.std.specs.Prelude.{map}
use Rattle.graph_emit.specs.Settings.{seen}
use Rattle.graph_emit.specs.Functions.{bound}
use Rattle.graph_emit.specs.Walk.{args_flow as args_step, operate_all, expr_walk, added_walk, sum_walk}
use Rattle.graph_emit.proofs.Steps.{GoesOn}
use Rattle.graph_emit.proofs.expr.+expr.Given as goal

-- the arguments from here on flow as what is left of all of them
abbrev pub invariant-args_flow-loop-i : goal.invariant-args_flow-loop-i
invariant-args_flow-loop-i l = record {
  goes_on : GoesOn (args_step l.fn.set.kind (map (expr_walk (seen l.fn.set)) l.fn.args) (map bound l.fn.params)) l.fn.emitter
      (args_step l.fn.set.kind (map (expr_walk (seen l.fn.set)) (drop l.i l.items)) (map bound (drop l.i l.fn.params))) l.emitter;
}

-- the operands from here on are walked as what is left of the sum
abbrev pub invariant-walk_sum-loop-added : goal.invariant-walk_sum-loop-added
invariant-walk_sum-loop-added l = record {
  goes_on : GoesOn (sum_walk (seen l.fn.set) l.fn.sum) l.fn.emitter
      (operate_all l.value (map (added_walk (seen l.fn.set)) (drop l.added-index l.added-items))) l.emitter;
}
