use Rattle.std.proofs.Common.{◌≡◌, ◌<◌, List, [], length, get_or, arith, ◌∙◌, subst, sym}
use Rattle.std.proofs.lemmas.List.{get_or_default}
use Rattle.normal_form.specs.declared.joins.Join.{Join}
use Rattle.normal_form.specs.Joins.{HasJoin, HasJoinAt}
use Rattle.normal_form.proofs.joins.JoinTable.seconds.Goals as goal

pub returns : goal.returns
returns c = λ s a h.
    let rows = c.self.inside.rows.items in
    let there : c.args.first.0 < length c.self.inside.rows.items = omega arith in
    let row : c.index.result.now ≡ get_or c.self.inside.rows.items c.args.first.0 [] = c.index.ensures ∙ get_or_default rows c.args.first.0 _ [] there in
    let at : HasJoinAt c.self.inside.rows.items c.args.first s a = subst (λ (t : List (List Join)). HasJoinAt t c.args.first s a) (sym c.self.view_is) h in
    c.in_ok-seconds.ensures s a (subst (λ (r : List Join). HasJoin r s a) (sym row) at)
