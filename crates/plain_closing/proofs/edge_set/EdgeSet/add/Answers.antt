use Rattle.std.proofs.Common.{[], ◌∷◌, ◌++◌, List, sym, ◌∙◌, ap, subst}
use Rattle.graph_words.specs.declared.types.Edge.{Edge}
use Rattle.plain_closing.specs.Listed.{IsListed}
use Rattle.plain_closing.proofs.ListedLemmas.{IsListed-push, negated, negated_not, AddsNew-absent, AddsNew-present}
use Rattle.plain_closing.proofs.edge_set.EdgeSet.add.Goals as goal

pub invariant_of-self-then-branch : goal.invariant_of-self-then-branch
invariant_of-self-then-branch c =
    let pushed = (rw c.unwrap.ensures at c.push.ensures.items) ∙ ap (λ (l : List Edge). l ++ c.args.edge ∷ []) c.reserve.ensures.items in
    subst (λ (l : List Edge). IsListed l c.insert.new.self) (sym pushed)
    (IsListed-push _ _ _ _ c.self.invariant c.in_ok-insert.ensures.updates (negated _ (sym c.in_ok-insert.ensures.added ∙ c.if-branch.true)))

pub returns-then-branch-clause-ok : goal.returns-then-branch-clause-ok
returns-then-branch-clause-ok c =
    let pushed = (rw c.unwrap.ensures at c.push.ensures.items) ∙ ap (λ (l : List Edge). l ++ c.args.edge ∷ []) c.reserve.ensures.items in
    AddsNew-absent _ _ _ _ _ (sym c.self.view_is) c.self.invariant (negated _ (sym c.in_ok-insert.ensures.added ∙ c.if-branch.true)) pushed

pub returns-else-branch-clause-ok : goal.returns-else-branch-clause-ok
returns-else-branch-clause-ok c =
    AddsNew-present _ _ _ _ _ (sym c.self.view_is) c.self.invariant (negated_not _ (sym c.in_ok-insert.ensures.added ∙ c.if-branch.false)) c.reserve.ensures.items
