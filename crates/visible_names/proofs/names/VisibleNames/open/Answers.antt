use Rattle.std.proofs.Common.{◌≡◌, [], sym, ap, ◌∙◌, length, arith}
use Rattle.visible_names.specs.Names.{Names}
use Rattle.visible_names.proofs.NameLemmas.{opened, whole}
use Rattle.visible_names.proofs.names.VisibleNames.open.Goals as goal

pub returns-clause-names : goal.returns-clause-names
returns-clause-names c =
    let E = c.self.inside.entries.items in
    let n : c.len-self-inside.result ≡ length E = omega (arith, c.len-self-inside.ensures) in
    opened E c.len-self-inside.result n
    ∙ ap (λ o. let v : Names = record { inner = []; outer = o } in v) (sym (whole E c.self.inside.start c.args.self.now c.self.view_is))
