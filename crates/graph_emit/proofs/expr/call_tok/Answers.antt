use Rattle.std.proofs.Common.{sym, ap, ◌∙◌}
use Rattle.graph_emit.specs.Walk.{CallWalk, call_walk}
use Rattle.graph_emit.proofs.Layers.{call_function, call_malloc}
use Rattle.graph_emit.proofs.expr.call_tok.Goals as goal

pub returns-in-Function : goal.returns-in-Function
returns-in-Function c set = sym (ap (λ (w : CallWalk). w.tok) (ap (call_walk set) c.in-Function.is ∙ call_function set c.in-Function.name c.in-Function.args))

pub returns-in-Malloc : goal.returns-in-Malloc
returns-in-Malloc c set = sym (ap (λ (w : CallWalk). w.tok) (ap (call_walk set) c.in-Malloc.is ∙ call_malloc set c.in-Malloc.tok c.in-Malloc.size))
