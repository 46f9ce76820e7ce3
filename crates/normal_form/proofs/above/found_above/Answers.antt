use Rattle.std.proofs.Common.{◌≡◌, [], ◌∷◌, ◌++◌, ap, sym, ◌∙◌, subst, arith, ◌<◌, length}
use Rattle.graph_words.specs.declared.types.LabelId.{LabelId}
use Rattle.normal_form.specs.Above.{AddsAbove}
use Rattle.normal_form.proofs.AboveLemmas.{IsRising, IsRising-start, IsRising-step, IsRising-end}
use Rattle.normal_form.proofs.above.found_above.Goals as goal

pub loop-at-init : goal.loop-at-init
loop-at-init c =
    let one : c.push.new.self.items ≡ c.args.label ∷ [] = c.in_ok-push.ensures.items ∙ ap (λ l. l ++ c.args.label ∷ []) c.new-found.ensures.items in
    subst (IsRising c.args.rules.now c.args.label 0) (sym one) (IsRising-start c.args.rules.now c.args.label)

pub loop-at-preserved : goal.loop-at-preserved
loop-at-preserved c =
    let within : c.loop-at.at < length c.loop-at.found.items = omega arith in
    IsRising-step c.args.rules.now c.args.label c.loop-at.at c.loop-at.found.items c.add_above.new.found.items c.index-next.result.now within c.loop-at.invariant
    (subst (λ (x : LabelId). AddsAbove c.args.rules.now x c.loop-at.found.items c.add_above.new.found.items) c.index-next.ensures c.in_ok-add_above.ensures)

pub returns : goal.returns
returns c = IsRising-end c.args.rules.now c.args.label c.loop-at.at c.loop-at.found.items (omega arith) c.loop-at.invariant
