use Rattle.std.proofs.Common.{◌≡◌, ◌∙◌, ◌++◌, sym, ap, get_or, length, ◌<◌, arith, Some, None}
use Rattle.std.specs.Prelude.{reverse}
use Rattle.std.proofs.lemmas.List.{reverse-reverse, length-reverse}
use Rattle.visible_names.specs.Names.{bound_to}
use Rattle.graph_emit.specs.Program.{known_as}
use Rattle.graph_emit.specs.Functions.{target, known_of, numbered}
use Rattle.graph_emit.proofs.Numbered.{numbered_some, numbered_none, numbered_inside}
use Rattle.graph_emit.proofs.functions.Functions.goes.Goals as goal

pub index-requires : goal.index-requires
index-requires c =
    let ts = c.self.inside.targets.items in
    let name = c.args.name.now.bytes in
    let names = c.self.inside.numbers.inner ++ c.self.inside.numbers.outer in
    let found : bound_to name (numbered (known_of ts)) ≡ Some c.in-Some.at = ap (bound_to name) (sym c.self.invariant) ∙ ap (λ n. bound_to n names) (sym c.as_slice.ensures) ∙ sym c.in-Some.ensures in
    let inside : c.in-Some.at < length (reverse ts) = numbered_inside name (reverse ts) c.in-Some.at found in
    omega (arith, length-reverse ts)

pub returns-in-Some : goal.returns-in-Some
returns-in-Some c =
    let ts = c.self.inside.targets.items in
    let name = c.args.name.now.bytes in
    let names = c.self.inside.numbers.inner ++ c.self.inside.numbers.outer in
    let d = c.index.result.now in
    let found : bound_to name (numbered (known_of ts)) ≡ Some c.in-Some.at = ap (bound_to name) (sym c.self.invariant) ∙ ap (λ n. bound_to n names) (sym c.as_slice.ensures) ∙ sym c.in-Some.ensures in
    ap (known_as name) (sym c.self.view_is) ∙ (numbered_some name (reverse ts) c.in-Some.at d found).is
    ∙ ap (λ t. Some (target t)) (ap (λ l. get_or l c.in-Some.at d) (reverse-reverse ts) ∙ sym c.index.ensures)

pub returns-in-None : goal.returns-in-None
returns-in-None c =
    let ts = c.self.inside.targets.items in
    let name = c.args.name.now.bytes in
    let names = c.self.inside.numbers.inner ++ c.self.inside.numbers.outer in
    let found : bound_to name (numbered (known_of ts)) ≡ None = ap (bound_to name) (sym c.self.invariant) ∙ ap (λ n. bound_to n names) (sym c.as_slice.ensures) ∙ sym c.in-None.ensures in
    (ap (known_as name) (sym c.self.view_is) ∙ numbered_none name (known_of ts) found, c.refusal.ensures)
