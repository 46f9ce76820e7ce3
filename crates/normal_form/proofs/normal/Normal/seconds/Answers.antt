use Rattle.std.proofs.Common.{◌+◌, List, ap, ◌∙◌, length, subst, sym}
use Rattle.graph_words.specs.declared.types.LabelId.{LabelId}
use Rattle.graph_words.specs.declared.types.Rule.{Rule}
use Rattle.normal_law.specs.Closed.{Joins}
use Rattle.normal_law.specs.NormalForm.{normal_form}
use Rattle.normal_form.proofs.NormalLemmas.{joins_from_table}
use Rattle.normal_form.proofs.normal.Normal.seconds.Goals as goal

pub returns : goal.returns
returns c = λ s a h.
    let n = c.self.inside in
    let i = c.self.invariant in
    let joined = joins_from_table n.grammar n.above.items n.joins i.grammar_is.named (i.above_all ∙ ap (λ (f : List (List LabelId)). 1000 + length f) i.fresh_are) i.above_are i.joins_are c.args.b s a in
    c.in_ok-seconds.ensures s a (joined.1 (subst (λ (r : List Rule). Joins (normal_form r) c.args.b s a) (sym c.self.view_is) h))
