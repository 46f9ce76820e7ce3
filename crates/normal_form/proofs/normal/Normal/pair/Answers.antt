use Rattle.std.proofs.Common.{◌+◌, List, ap, ◌∙◌, length, subst}
use Rattle.std.specs.Prelude.{Contains, ◌↔◌}
use Rattle.graph_words.specs.declared.types.LabelId.{LabelId}
use Rattle.graph_words.specs.declared.types.Rule.{Rule}
use Rattle.normal_law.specs.Closed.{Joins}
use Rattle.normal_law.specs.NormalForm.{normal_form}
use Rattle.normal_form.proofs.NormalLemmas.{joins_from_table}
use Rattle.normal_form.proofs.RowLemmas.{iff_trans}
use Rattle.normal_form.proofs.normal.Normal.pair.Goals as goal

pub returns-clause-each : goal.returns-clause-each
returns-clause-each c = λ a.
    let n = c.self.inside in
    let i = c.self.invariant in
    let joined = joins_from_table n.grammar n.above.items n.joins i.grammar_is.named (i.above_all ∙ ap (λ (f : List (List LabelId)). 1000 + length f) i.fresh_are) i.above_are i.joins_are c.args.b c.args.c a in
    subst (λ (r : List Rule). Contains c.labels_of.result.now a ↔ Joins (normal_form r) c.args.b c.args.c a) c.self.view_is
    (iff_trans (c.labels_of.ensures.each a) joined)
