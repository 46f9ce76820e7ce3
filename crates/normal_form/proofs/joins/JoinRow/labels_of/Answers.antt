use Rattle.std.proofs.Common.{List, subst}
use Rattle.std.specs.Prelude.{Contains, map, ◌↔◌}
use Rattle.normal_form.specs.declared.joins.Join.{Join}
use Rattle.normal_form.specs.Rows.{PartsLabelsAt}
use Rattle.normal_form.specs.Joins.{second_of, HasJoin}
use Rattle.normal_form.proofs.JoinLemmas.{labels_at}
use Rattle.normal_form.proofs.joins.JoinRow.labels_of.Goals as goal

pub returns-clause-each : goal.returns-clause-each
returns-clause-each c = λ a.
    let joins = c.self.inside.joins.items in
    let parts = subst (λ (l : List Join). PartsLabelsAt (map second_of l) c.args.second c.place_of_second-place.result) c.deref.ensures.value c.place_of_second-place.ensures in
    let there = subst (λ (l : List Join). Contains (map second_of l) c.args.second) c.deref-2.ensures.value (c.is_second_at.ensures.0 c.if-not-is_second_at.false) in
    subst (λ (l : List Join). Contains c.as_slice.result.now a ↔ HasJoin l c.args.second a) c.self.view_is
    (rw c.as_slice.ensures.value (labels_at joins c.args.second c.self.invariant c.place_of_second-place.result parts c.index.result.now there c.index.ensures a))
