use Rattle.std.proofs.Common.{◌≡◌, sym, ◌∙◌, length, arith}
use Rattle.visible_names.proofs.NameLemmas.{split_bounds, whole, no_inner}
use Rattle.visible_names.proofs.names.VisibleNames.close.Goals as goal

pub returns-clause-names : goal.returns-clause-names
returns-clause-names c =
    let E = c.self.inside.entries.items in
    let none : length c.loop-self.self.inner ≡ 0 = grind arith in
    split_bounds E c.args.around ∙ sym (whole E c.self.inside.start c.loop-self.self c.self.view_is) ∙ no_inner c.loop-self.self none ∙ c.loop-self.invariant
