use Rattle.std.proofs.Common.{List, set, refl, sym, subst}
use Rattle.std.specs.Prelude.{Contains, map}
use Rattle.std.proofs.lemmas.Result.{on_ok_weaker}
use Rattle.graph_words.specs.declared.types.LabelId.{LabelId}
use Rattle.normal_form.specs.declared.joins.Join.{Join}
use Rattle.normal_form.specs.Rows.{AreLabelsAscending, PartsLabelsAt, AddsLabels}
use Rattle.normal_form.specs.Joins.{second_of, AddsJoins}
use Rattle.normal_form.proofs.RowLemmas.{not_from_false}
use Rattle.normal_form.proofs.JoinLemmas.{second_stays, second_within, second_is, second_put_in, AddsJoins-set, AddsJoins-insert}
use Rattle.normal_form.proofs.joins.JoinRow.add.Goals as goal

pub invariant_of-self : goal.invariant_of-self
invariant_of-self c = second_stays c.self.inside.joins.items c.place_of_second-place.result c.index_mut.result.now _ refl c.index_mut.ensures.value c.self.invariant

pub returns-then-is_second_at : goal.returns-then-is_second_at
returns-then-is_second_at c =
    let joins = c.self.inside.joins.items in
    let place = c.place_of_second-place.result in
    let parts = subst (λ (l : List Join). PartsLabelsAt (map second_of l) c.args.second place) c.deref.ensures.value c.place_of_second-place.ensures in
    let there = subst (λ (l : List Join). Contains (map second_of l) c.args.second) c.deref-2.ensures.value (c.is_second_at.ensures.0 c.if-is_second_at.true) in
    let within = second_within joins c.args.second c.self.invariant place parts there in
    let same = second_is joins c.args.second c.self.invariant place parts c.index_mut.result.now there c.index_mut.ensures.value in
    let x : Join = record { second = c.index_mut.result.now.second; labels = c.add_all.new.self } in
    on_ok_weaker c.add_all.result
    (λ (a : AddsLabels c.index_mut.result.now.labels c.add_all.new.self c.args.labels.now). subst (λ (l : List Join). AddsJoins l (set joins place x) c.args.second c.args.labels.now) c.self.view_is (AddsJoins-set joins c.args.second place c.index_mut.result.now x c.args.labels.now within c.index_mut.ensures.value same refl a))
    c.add_all.ensures

pub invariant_of-self-2 : goal.invariant_of-self-2
invariant_of-self-2 c =
    let joins = c.self.inside.joins.items in
    let place = c.place_of_second-place.result in
    let parts = subst (λ (l : List Join). PartsLabelsAt (map second_of l) c.args.second place) c.deref.ensures.value c.place_of_second-place.ensures in
    let none = λ (m : Contains (map second_of joins) c.args.second). not_from_false (Contains (map second_of c.deref-2.result.now) c.args.second) c.is_second_at.result c.is_second_at.ensures c.if-is_second_at.false (subst (λ (l : List Join). Contains (map second_of l) c.args.second) (sym c.deref-2.ensures.value) m) in
    subst (λ (l : List Join). AreLabelsAscending (map second_of l)) (sym c.in_ok-insert.ensures.items) (second_put_in joins c.args.second c.self.invariant place parts _ refl none)

pub returns : goal.returns
returns c =
    subst (λ (l : List Join). AddsJoins l c.insert.new.self.items c.args.second c.args.labels.now) c.self.view_is
    (subst (λ (l : List Join). AddsJoins c.self.inside.joins.items l c.args.second c.args.labels.now) (sym c.in_ok-insert.ensures.items)
    (AddsJoins-insert c.self.inside.joins.items c.args.second c.place_of_second-place.result _ c.args.labels.now refl
    (subst (λ (l : List LabelId). AddsLabels l c.add_all-2.new.self c.args.labels.now) c.new-row.ensures c.in_ok-add_all.ensures)))
