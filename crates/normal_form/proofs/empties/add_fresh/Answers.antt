use Rattle.std.proofs.Common.{◌≡◌, [], get_or, sym, ◌∙◌, subst}
use Rattle.std.specs.Prelude.{All, Contains}
use Rattle.std.proofs.lemmas.List.{get_or_default}
use Rattle.normal_form.proofs.RowLemmas.{not_from_false}
use Rattle.normal_form.proofs.EmptyLemmas.{HasFresh-skip, HasFresh-take}
use Rattle.normal_form.proofs.empties.add_fresh.Goals as goal

pub returns-in_ok-add : goal.returns-in_ok-add
returns-in_ok-add c =
    let word : c.as_slice.result.now ≡ get_or c.args.fresh.now c.args.number [] = c.as_slice.ensures ∙ c.index-fresh-number.is ∙ get_or_default c.args.fresh.now c.args.number _ [] c.requires.within in
    HasFresh-take c.args.found.now c.args.fresh.now c.args.number c.args.row.now c.add.new.self c.requires.row (subst (All (Contains c.args.found.now)) word (c.has_all.ensures.0 c.if-has_all.true)) c.in_ok-add.ensures.ok

pub returns-else-has_all : goal.returns-else-has_all
returns-else-has_all c =
    let word : c.as_slice.result.now ≡ get_or c.args.fresh.now c.args.number [] = c.as_slice.ensures ∙ c.index-fresh-number.is ∙ get_or_default c.args.fresh.now c.args.number _ [] c.requires.within in
    HasFresh-skip c.args.found.now c.args.fresh.now c.args.number c.args.row.now c.requires.row
    (λ h. not_from_false (All (Contains c.args.found.now) c.as_slice.result.now) c.has_all.result c.has_all.ensures c.if-has_all.false (subst (All (Contains c.args.found.now)) (sym word) h))
