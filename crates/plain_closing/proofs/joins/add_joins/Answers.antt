use Rattle.std.proofs.lemmas.Result.{on_ok_weaker}
use Rattle.normal_law.specs.NormalForm.{normal_form}
use Rattle.plain_closing.proofs.Adding.{AddsMade-joins, HasJoins-added, same_vertex}
use Rattle.plain_closing.proofs.joins.add_joins.Goals as goal

pub returns-clause-made : goal.returns-clause-made
returns-clause-made c =
    on_ok_weaker c.add_each.result (λ a. AddsMade-joins (normal_form c.args.normal.now) _ _ _ _ _ c.requires.first c.requires.second (same_vertex _ _ c.if-ne.ensures) (λ l m. (c.pair-labels.ensures.each l).0 m) a) c.add_each.ensures

pub returns-clause-joined : goal.returns-clause-joined
returns-clause-joined c =
    on_ok_weaker c.add_each.result (λ a. HasJoins-added (normal_form c.args.normal.now) _ _ _ _ _ (λ l j. (c.pair-labels.ensures.each l).1 j) a) c.add_each.ensures
