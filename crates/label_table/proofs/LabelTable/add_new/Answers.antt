use Rattle.std.proofs.Common.{arith, ◌≡◌, ap, sym, ◌∙◌, subst, length, not, List, ℕ, false}
use Rattle.std.specs.Prelude.{slice_get, All}
use Rattle.graph_words.specs.Text.{with_name, same_name}
use Rattle.label_table.specs.Names.{IsTable}
use Rattle.label_table.proofs.TableLemmas.{has_name-there, has_name-new, with_name-there, with_name-new, IsTable-push}
use Rattle.label_table.proofs.LabelTable.add_new.Goals as goal

pub returns-in-Some-clause-new : goal.returns-in-Some-clause-new
returns-in-Some-clause-new c = sym (ap not (has_name-there c.args.self.now c.args.name.now c.in-Some._number.0 (ap (λ l. slice_get l c.in-Some._number.0) (sym (c.self.view_is)) ∙ c.in-Some.ensures.found)))

pub returns-in-Some-clause-names : goal.returns-in-Some-clause-names
returns-in-Some-clause-names c = sym (with_name-there c.args.self.now c.args.name.now c.in-Some._number.0 (ap (λ l. slice_get l c.in-Some._number.0) (sym (c.self.view_is)) ∙ c.in-Some.ensures.found))

pub invariant_of-self-2 : goal.invariant_of-self-2
invariant_of-self-2 c =
    let none : All (λ known. same_name known c.args.name.now ≡ false) c.self.inside.names.keys = c.in_default.ensures.none in
    subst IsTable (sym c.in_ok-push_name.ensures.ok) (IsTable-push c.self.inside.names.keys c.args.name.now c.requires.label c.self.invariant (omega (arith, ap length c.self.view_is, c.requires.room)) none)

pub returns-clause-new : goal.returns-clause-new
returns-clause-new c =
    let none : All (λ known. same_name known c.args.name.now ≡ false) c.args.self.now = subst (λ (l : List (List ℕ)). All (λ known. same_name known c.args.name.now ≡ false) l) (c.self.view_is) c.in_default.ensures.none in
    sym (ap not (has_name-new c.args.self.now c.args.name.now none))

pub returns-clause-names : goal.returns-clause-names
returns-clause-names c =
    let none : All (λ known. same_name known c.args.name.now ≡ false) c.self.inside.names.keys = c.in_default.ensures.none in
    c.in_ok-push_name.ensures.ok ∙ sym (with_name-new c.self.inside.names.keys c.args.name.now none) ∙ ap (λ l. with_name l c.args.name.now) c.self.view_is
