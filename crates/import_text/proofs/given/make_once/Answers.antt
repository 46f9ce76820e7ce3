use Rattle.std.proofs.Common.{sym, subst, List}
use Rattle.std.specs.Prelude.{Contains}
use Rattle.std.proofs.lemmas.List.Sorted.{IsPermutation-sym, Contains-permutation}
use Rattle.std.proofs.lemmas.List.Filters.{dedup_is}
use Rattle.std.proofs.lemmas.List.Kept.{Contains-from_dedup, Contains-dedup, IsStrictlySortedBy-dedup}
use Rattle.graph_words.specs.declared.types.Edge.{Edge}
use Rattle.graph_words.specs.Reach.{IsAscending}
use Rattle.plain_closing.proofs.Order.{edge_cmp_total}
use Rattle.import_text.proofs.SortLemmas.{IsAscending-from_strict, edge_eq_equiv, edge_eq_exact, edge_eq_ties}
use Rattle.import_text.proofs.given.make_once.Goals as goal

pub returns-clause-same : goal.returns-clause-same
returns-clause-same c =
    λ e.
    let old = c.args.edges.now.items in
    let mid = c.sort_unstable.new.self.items in
    let is = dedup_is _ mid _ c.dedup.ensures.filtered in (
      λ m. Contains-permutation mid old e (IsPermutation-sym old mid c.sort_unstable.ensures.permutation) (Contains-from_dedup _ mid e (subst (λ (es : List Edge). Contains es e) is m)),
      λ m. subst (λ (es : List Edge). Contains es e) (sym is) (Contains-dedup edge_eq_equiv edge_eq_exact mid e (Contains-permutation old mid e c.sort_unstable.ensures.permutation m)),
    )

pub returns-clause-ascending : goal.returns-clause-ascending
returns-clause-ascending c =
    let is = dedup_is _ _ _ c.dedup.ensures.filtered in
    subst IsAscending (sym is) (IsAscending-from_strict _ (IsStrictlySortedBy-dedup edge_cmp_total edge_eq_ties c.sort_unstable.new.self.items c.sort_unstable.ensures.sorted))
