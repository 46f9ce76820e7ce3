use Rattle.std.proofs.Common.{get_or, sym, ap, ◌∙◌, arith, Some}
use Rattle.std.specs.Prelude.{reverse}
use Rattle.std.proofs.lemmas.List.{reverse-reverse, length-reverse}
use Rattle.visible_names.specs.declared.names.Entry.{Entry}
use Rattle.visible_names.specs.Names.{bound_to}
use Rattle.visible_names.proofs.NameLemmas.{latest_some, latest_none, inside, whole}
use Rattle.visible_names.proofs.names.VisibleNames.find.Goals as goal

pub index-requires : goal.index-requires
index-requires c =
    let E = c.self.inside.entries.items in
    let l = sym (c.self.invariant.1 c.args.name.now) ∙ sym c.in-Some.ensures.value in
    omega (arith, inside c.args.name.now (reverse E) c.in-Some.at.now l, length-reverse E)

pub returns-in-Some : goal.returns-in-Some
returns-in-Some c =
    let E = c.self.inside.entries.items in
    let name = c.args.name.now in
    let d = c.index.result.now in
    let l = sym (c.self.invariant.1 name) ∙ sym c.in-Some.ensures.value in
    let f = latest_some name (reverse E) c.in-Some.at.now d l in
    ap (λ (e : Entry). Some e.vertex) (c.index.ensures ∙ ap (λ l. get_or l c.in-Some.at.now d) (sym (reverse-reverse E)))
    ∙ sym f.is_bound ∙ ap (bound_to name) (sym (whole E c.self.inside.start c.args.self.now c.self.view_is))

pub returns-in-None : goal.returns-in-None
returns-in-None c =
    let E = c.self.inside.entries.items in
    let name = c.args.name.now in
    let l = sym (c.self.invariant.1 name) ∙ sym c.in-None.ensures.value in
    sym (latest_none name (reverse E) l) ∙ ap (bound_to name) (sym (whole E c.self.inside.start c.args.self.now c.self.view_is))
