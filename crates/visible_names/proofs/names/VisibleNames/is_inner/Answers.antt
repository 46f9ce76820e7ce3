use Rattle.std.proofs.Common.{sym, ap, ◌∙◌}
use Rattle.visible_names.proofs.NameLemmas.{inner_test, from_on}
use Rattle.visible_names.proofs.names.VisibleNames.is_inner.Goals as goal

pub returns-in-Some : goal.returns-in-Some
returns-in-Some c =
    let l = sym (c.self.invariant.1 c.args.name.now) ∙ sym c.in-Some.ensures.value in
    sym (inner_test c.self.inside.entries.items c.self.inside.start c.args.self.now c.self.view_is c.args.name.now c.self.invariant.0 ∙ ap (from_on c.self.inside.start) l)

pub returns-in-None : goal.returns-in-None
returns-in-None c =
    let l = sym (c.self.invariant.1 c.args.name.now) ∙ sym c.in-None.ensures.value in
    sym (inner_test c.self.inside.entries.items c.self.inside.start c.args.self.now c.self.view_is c.args.name.now c.self.invariant.0 ∙ ap (from_on c.self.inside.start) l)
