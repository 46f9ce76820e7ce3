use Rattle.std.proofs.Common.{◌≡◌, length, ◌∙◌, ap, arith}
use Rattle.normal_law.specs.NormalForm.{fresh_words}
use Rattle.normal_law.proofs.FreshLemmas.{length-fresh_words}
use Rattle.normal_form.proofs.NormalLemmas.{fresh_few}
use Rattle.normal_form.proofs.normal.Normal.fresh.Goals as goal

pub returns-clause-count : goal.returns-clause-count
returns-clause-count c =
    let long : c.len.result ≡ length (fresh_words c.args.self.now) = omega (arith, ap length (c.self.invariant.fresh_are ∙ ap fresh_words c.self.view_is)) in
    long ∙ length-fresh_words c.args.self.now

pub returns-clause-few : goal.returns-clause-few
returns-clause-few c = omega (arith, ap length c.self.invariant.fresh_are, fresh_few c.self.inside.grammar c.self.invariant.grammar_is)
