use Rattle.std.proofs.Common.{List, sym, subst}
use Rattle.std.specs.Prelude.{Contains, ◌↔◌}
use Rattle.graph_words.specs.declared.types.LabelId.{LabelId}
use Rattle.graph_words.specs.declared.types.Rule.{Rule}
use Rattle.normal_law.specs.Closure.{IsEmpty}
use Rattle.normal_law.specs.NormalForm.{normal_form}
use Rattle.normal_form.proofs.normal.Normal.empties.Goals as goal

pub returns-clause-each : goal.returns-clause-each
returns-clause-each c = λ a.
    subst (λ (r : List Rule). Contains c.as_slice.result.now a ↔ IsEmpty (normal_form r) a) c.self.view_is
    (subst (λ (l : List LabelId). Contains l a ↔ IsEmpty (normal_form c.self.inside.grammar) a) (sym c.as_slice.ensures.value) (c.self.invariant.empties_are a))
