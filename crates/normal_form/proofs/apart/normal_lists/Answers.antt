use Rattle.std.proofs.Common.{◌≤◌, length, subst, sym}
use Rattle.graph_words.specs.declared.types.Rule.{Rule}
use Rattle.normal_form.proofs.ApartLemmas.{IsListed-step}
use Rattle.normal_form.proofs.apart.normal_lists.Goals as goal

pub loop-rule-preserved : goal.loop-rule-preserved
loop-rule-preserved c =
    let short = subst (λ (r : Rule). length r.right ≤ 64) (sym c.rule-item.is) (c.requires.short c.loop-rule.rule-index c.rule-item.result c.loop-rule-test.true) in
    IsListed-step c.args.rules.now c.loop-rule.rule-index c.rule-item.result _ _ _ _ c.loop-rule.invariant c.loop-rule-test.true c.rule-item.is short c.in_ok-take_apart.ensures.pairs c.in_ok-take_apart.ensures.fresh
