use Rattle.std.proofs.Common.{◌≢◌, [], ◌∷◌, ◌∙◌, ap, subst, sym, List}
use Rattle.std.specs.Prelude.{All, Contains, filter}
use Rattle.std.proofs.lemmas.List.Kept.{AllPairs-filter}
use Rattle.std.proofs.lemmas.List.Sorted.{All-permutation, Contains-permutation}
use Rattle.graph_words.specs.declared.types.Edge.{Edge}
use Rattle.graph_words.specs.declared.types.Rule.{Rule}
use Rattle.graph_words.specs.Reach.{edge, graph_with, Reach}
use Rattle.plain_closing.specs.Joins.{IsOnce, is_named}
use Rattle.plain_closing.proofs.Order.{IsOnce-permutation, IsAscending-from_sort}
use Rattle.plain_closing.proofs.Joined.{closing_reached, closing_has}
use Rattle.plain_closing.proofs.closing.closure.Goals as goal

pub returns-clause-reached : goal.returns-clause-reached
returns-clause-reached c =
    let g = graph_with c.args.vertices c.args.graph.now in
    let begins = rw c.as_slice.ensures at c.in_ok-edges.ensures in
    let reached = closing_reached _ g _ _ (λ u v l known. c.closure_is_reach.ensures g u v l c.requires.graph c.requires.labels known) c.limits.ensures c.requires.labels begins c.in_ok-add_all_joins.ensures.made c.in_ok-add_all_joins.ensures.closed in
    let listed = c.keep_named.ensures ∙ ap (filter is_named) c.into_edges-listed.ensures.items in
    rw c.from_vec.ensures
    (All-permutation (λ (e : Edge). Reach g c.args.grammar.now e.src (e.label ∷ []) e.dst) _ _ c.in_ok-sort.ensures.permutation
    (subst (λ (l : List Edge). All (λ (e : Edge). Reach g c.args.grammar.now e.src (e.label ∷ []) e.dst) l) (sym listed)
    (subst (λ (rs : List Rule). All (λ (e : Edge). Reach g rs e.src (e.label ∷ []) e.dst) (filter is_named c.add_all_joins.new.edges)) c.in_ok-normal.ensures reached)))

pub returns-clause-all : goal.returns-clause-all
returns-clause-all c =
    λ u v a r.
    let g = graph_with c.args.vertices c.args.graph.now in
    let begins = rw c.as_slice.ensures at c.in_ok-edges.ensures in
    let here = subst (λ (rs : List Rule). Reach g rs u (a ∷ []) v) (sym c.in_ok-normal.ensures) r in
    let has = closing_has _ g _ _ (λ u v l known. c.closure_is_reach.ensures g u v l c.requires.graph c.requires.labels known) c.limits.ensures c.requires.labels begins c.in_ok-add_all_joins.ensures.made c.in_ok-add_all_joins.ensures.closed u v a here in
    let listed = c.keep_named.ensures ∙ ap (filter is_named) c.into_edges-listed.ensures.items in
    rw c.from_vec.ensures
    (Contains-permutation _ _ _ c.in_ok-sort.ensures.permutation (subst (λ (l : List Edge). Contains l (edge u a v)) (sym listed) has))

pub returns-clause-ascending : goal.returns-clause-ascending
returns-clause-ascending c =
    let once = subst IsOnce (sym c.keep_named.ensures) (AllPairs-filter (λ x y. x ≢ y) is_named _ c.into_edges-listed.ensures.once) in
    rw c.from_vec.ensures (IsAscending-from_sort _ (IsOnce-permutation _ _ c.in_ok-sort.ensures.permutation once) c.in_ok-sort.ensures.sorted)
