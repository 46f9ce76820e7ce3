use Rattle.std.proofs.Common.{◌∙◌, refl, ap, ◌∷◌}
use Rattle.graph_emit.specs.Program.{Known}
use Rattle.graph_emit.specs.Functions.{target}
use Rattle.graph_emit.proofs.Steps.{starts_by, goes_by, stops_by, ends_as, ends_refused}
use Rattle.graph_emit.proofs.Firsts.{item_other, function_refused, function_new}
use Rattle.graph_emit.proofs.functions.item_made.Goals as goal

pub returns-in_default : goal.returns-in_default
returns-in_default c = ends_as tt (starts_by c.args.emitter.now (item_other c.args.functions.now c.args.item.now c.in_default.not-Function)) refl

pub returns-then-has : goal.returns-then-has
returns-then-has c =
    ends_refused c.in-Function.f.name.tok (starts_by c.args.emitter.now (function_refused c.args.functions.now c.args.item.now c.in-Function.f c.as_slice.result.now c.has.result c.in-Function.is c.as_slice.ensures c.has.ensures c.if-has.true)) c.refusal.ensures

pub returns-in_err-target : goal.returns-in_err-target
returns-in_err-target c =
    let g = starts_by c.args.emitter.now (function_new c.args.functions.now c.args.item.now c.in-Function.f c.as_slice.result.now c.has.result c.in-Function.is c.as_slice.ensures c.has.ensures c.if-has.false) in
    stops_by _ c.from_residual.result g c.in_err-target.ensures.target c.from_residual.ensures.1

pub returns : goal.returns
returns c =
    let g = starts_by c.args.emitter.now (function_new c.args.functions.now c.args.item.now c.in-Function.f c.as_slice.result.now c.has.result c.in-Function.is c.as_slice.ensures c.has.ensures c.if-has.false) in
    ends_as tt (goes_by _ g c.in_ok-target.ensures.target)
    (c.in_ok-add.ensures ∙ ap (λ n. (let k : Known = record { name = n; target = target c.in_ok-target.target } in k) ∷ c.args.functions.now) c.in_ok-target.ensures.name)
