use Rattle.std.proofs.Common.{◌∙◌, ap}
use Rattle.std.specs.Prelude.{is_some}
use Rattle.visible_names.specs.Names.{bound_to}
use Rattle.graph_emit.specs.Program.{known_as}
use Rattle.graph_emit.specs.Functions.{known_of}
use Rattle.graph_emit.proofs.Numbered.{numbered_has}
use Rattle.graph_emit.proofs.functions.Functions.has.Goals as goal

pub returns : goal.returns
returns c =
    let ts = c.self.inside.targets.items in
    let name = c.args.name.now in
    c.is_some.ensures ∙ ap is_some (c.find.ensures ∙ ap (bound_to name) c.self.invariant) ∙ numbered_has name (known_of ts) ∙ ap (λ l. is_some (known_as name l)) c.self.view_is
