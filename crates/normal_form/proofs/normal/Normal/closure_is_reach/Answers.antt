use Rattle.std.proofs.Common.{subst}
use Rattle.normal_law.specs.NormalForm.{normal_form}
use Rattle.normal_law.specs.Closure.{HasNamedLabels}
use Rattle.normal_law.proofs.Chains.{IsNormalForm-normal_form}
use Rattle.normal_law.proofs.Sound.{Closure-reached}
use Rattle.normal_law.proofs.Complete.{Closure-from_reach}
use Rattle.normal_form.proofs.normal.Normal.closure_is_reach.Goals as goal

pub returns : goal.returns
returns c =
    let names = subst HasNamedLabels c.self.view_is c.self.invariant.grammar_is.named in
    let n = normal_form c.args.self.now in
    let normal = IsNormalForm-normal_form c.args.self.now names in
    λ g u v l is labels known. (λ listed. Closure-reached n g normal names listed is labels, λ r. Closure-from_reach n g normal names u v l is known r)
