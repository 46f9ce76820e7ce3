use Rattle.normal_form.proofs.AboveLemmas.{IsRaising-step}
use Rattle.normal_form.proofs.above.add_above.Goals as goal

pub loop-rule-preserved : goal.loop-rule-preserved
loop-rule-preserved c =
    IsRaising-step c.args.rules.now c.args.label c.args.found.now.items c.loop-rule.found.items c.add_left.new.found.items c.loop-rule.rule-index c.rule-item.result c.loop-rule-test.true c.rule-item.is c.loop-rule.invariant c.in_ok-add_left.ensures
