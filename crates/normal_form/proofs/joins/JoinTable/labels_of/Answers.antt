use Rattle.std.proofs.Common.{◌≡◌, ◌<◌, List, [], length, get_or, arith, ◌∙◌, subst}
use Rattle.std.specs.Prelude.{Contains, ◌↔◌}
use Rattle.std.proofs.lemmas.List.{get_or_default}
use Rattle.normal_form.specs.declared.joins.Join.{Join}
use Rattle.normal_form.specs.Joins.{HasJoin, HasJoinAt}
use Rattle.normal_form.proofs.joins.JoinTable.labels_of.Goals as goal

pub returns-clause-each : goal.returns-clause-each
returns-clause-each c = λ a.
    let rows = c.self.inside.rows.items in
    let there : c.args.first.0 < length c.self.inside.rows.items = omega arith in
    let row : c.index.result.now ≡ get_or c.self.inside.rows.items c.args.first.0 [] = c.index.ensures ∙ get_or_default rows c.args.first.0 _ [] there in
    subst (λ (t : List (List Join)). Contains c.labels_of.result.now a ↔ HasJoinAt t c.args.first c.args.second a) c.self.view_is
    (subst (λ (r : List Join). Contains c.labels_of.result.now a ↔ HasJoin r c.args.second a) row (c.labels_of.ensures.each a))
