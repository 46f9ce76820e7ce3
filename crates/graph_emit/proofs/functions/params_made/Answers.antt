use Rattle.std.proofs.Common.{◌∙◌, ◌+◌, sym, ap, drop, ◌∷◌}
use Rattle.std.specs.Prelude.{map, reverse}
use Rattle.visible_names.specs.Names.{Names}
use Rattle.graph_emit.specs.Functions.{bound}
use Rattle.graph_emit.specs.Program.{params_made as params_step}
use Rattle.graph_emit.proofs.Steps.{starts_by, goes_as, goes_by, stops_by, ends_as}
use Rattle.graph_emit.proofs.Loops.{rest_at, rest_end}
use Rattle.graph_emit.proofs.Firsts.{bound_more, bound_all}
use Rattle.graph_emit.proofs.functions.params_made.Goals as goal

pub loop-param-init : goal.loop-param-init
loop-param-init c = record {
  goes_on = starts_by c.args.emitter.now (ap (λ (n : Names). params_step n.inner c.args.params.now) (sym c.new-names.ensures));
  names = ap (λ l. reverse (map bound l)) c.new-made.ensures.items ∙ ap (λ (n : Names). n.inner) (sym c.new-names.ensures);
}

pub returns-in_err-next : goal.returns-in_err-next
returns-in_err-next c =
    let next = ap (params_step c.loop-param.names.inner) (rest_at c.args.params.now c.loop-param.param-index c.param-item.result c.loop-param-test.true c.param-item.is) in
    stops_by _ c.from_residual.result (goes_as c.loop-param.invariant.goes_on next) c.in_err-next.ensures.made c.from_residual.ensures.1

pub loop-param-preserved : goal.loop-param-preserved
loop-param-preserved c =
    let i = c.loop-param.param-index in
    let next = ap (params_step c.loop-param.names.inner) (rest_at c.args.params.now i c.param-item.result c.loop-param-test.true c.param-item.is) in
    let names = ap (λ (n : Names). n.inner) c.in_ok-next.ensures.names in
    record {
      goes_on = goes_as (goes_by _ (goes_as c.loop-param.invariant.goes_on next) c.in_ok-next.ensures.made) (ap (λ l. params_step l (drop (i + 1) c.args.params.now)) (sym names));
      names = bound_more c.loop-param.made.items c.push_param.new.params.items c.in_ok-next.next c.in_ok-push_param.ensures ∙ ap (λ l. bound c.in_ok-next.next ∷ l) c.loop-param.invariant.names ∙ sym names;
    }

pub returns : goal.returns
returns c =
    let last = ap (params_step c.loop-param.names.inner) (rest_end c.args.params.now c.loop-param.param-index c.loop-param-test.false) in
    ends_as c.loop-param.made (goes_as c.loop-param.invariant.goes_on last) (bound_all c.loop-param.made.items c.loop-param.names.inner c.loop-param.invariant.names)
