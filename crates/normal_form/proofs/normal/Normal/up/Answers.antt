use Rattle.std.proofs.Common.{◌≡◌, ◌+◌, ◌<◌, List, [], length, get_or, sym, ◌∙◌, ap, subst, arith}
use Rattle.std.proofs.lemmas.List.{get_or_default}
use Rattle.graph_words.specs.declared.types.Rule.{Rule}
use Rattle.normal_law.specs.NormalForm.{fresh_words}
use Rattle.normal_form.specs.Above.{IsUpRow}
use Rattle.normal_form.proofs.normal.Normal.up.Goals as goal

pub returns-clause-each : goal.returns-clause-each
returns-clause-each c =
    let i = c.self.invariant in
    let rows = c.self.inside.above.items in
    let asked = subst (λ (r : List Rule). c.args.b.0 < 1000 + length (fresh_words r)) (sym c.self.view_is) c.requires in
    let there : c.args.b.0 < length c.self.inside.above.items = omega (arith, i.above_all, ap length i.fresh_are, asked) in
    let row : get_or c.self.inside.above.items c.args.b.0 [] ≡ c.as_slice.result.now = sym (c.as_slice.ensures.value ∙ c.index.ensures ∙ get_or_default rows c.args.b.0 _ [] there) in
    subst (λ (r : List Rule). IsUpRow r c.args.b c.as_slice.result.now) c.self.view_is
    (subst (IsUpRow c.self.inside.grammar c.args.b) row (i.above_are.each c.args.b there))
