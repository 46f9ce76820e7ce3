use Rattle.std.proofs.Common.{◌≡◌, ◌<◌, List, [], length, get_or, set, sym, ◌∙◌, subst}
use Rattle.std.proofs.lemmas.List.{get_or_default}
use Rattle.std.proofs.lemmas.Result.{on_ok_weaker}
use Rattle.normal_form.specs.declared.joins.Join.{Join}
use Rattle.normal_form.specs.Joins.{AddsJoins, AddsAt}
use Rattle.normal_form.proofs.TableLemmas.{AddsAt-row}
use Rattle.normal_form.proofs.joins.JoinTable.add.Goals as goal

pub returns : goal.returns
returns c =
    let rows = c.self.inside.rows.items in
    let first = c.args.pair.first in
    let there = subst (λ (t : List (List Join)). first.0 < length t) (sym c.self.view_is) c.requires in
    let row : c.index_mut.result.now ≡ get_or c.self.inside.rows.items c.args.pair.first.0 [] = c.index_mut.ensures.value ∙ get_or_default rows first.0 _ [] there in
    on_ok_weaker c.add.result
    (λ (a : AddsJoins c.index_mut.result.now c.add.new.self c.args.pair.second c.args.labels.now).
    subst (λ (t : List (List Join)). AddsAt t (set rows first.0 c.add.new.self) first c.args.pair.second c.args.labels.now) c.self.view_is
    (AddsAt-row rows first c.args.pair.second c.add.new.self c.args.labels.now there (subst (λ (r : List Join). AddsJoins r c.add.new.self c.args.pair.second c.args.labels.now) row a)))
    c.add.ensures
