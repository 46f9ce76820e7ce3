use Rattle.std.proofs.Common.{refl, sym, subst}
use Rattle.std.specs.Prelude.{Contains}
use Rattle.std.proofs.lemmas.List.Elements.{Contains-get_or, AllWithin-more, at_read}
use Rattle.graph_words.specs.declared.types.Rule.{Rule}
use Rattle.normal_form.specs.Empty.{HasLeft}
use Rattle.normal_form.proofs.empties.new_empty.Goals as goal

pub returns-then-adds_left-clause-some : goal.returns-then-adds_left-clause-some
returns-then-adds_left-clause-some c =
    record {
      by = c.rule-item.result;
      has = subst (λ (r : Rule). Contains c.args.rules.now r) (sym c.rule-item.is) (Contains-get_or c.args.rules.now c.loop-rule.rule-index c.rule-item.result c.loop-rule-test.true);
      left = refl;
      due = c.if-adds_left.ensures;
    }

pub loop-rule-preserved : goal.loop-rule-preserved
loop-rule-preserved c =
    AllWithin-more (HasLeft c.args.found.now) c.args.rules.now 0 c.loop-rule.rule-index c.loop-rule.invariant
    (at_read c.args.rules.now (HasLeft c.args.found.now) c.loop-rule.rule-index c.rule-item.result c.loop-rule-test.true c.rule-item.is c.if-adds_left.ensures)
