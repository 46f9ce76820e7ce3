use Rattle.std.proofs.Common.{◌≡◌, List, ℕ, [], ap, sym, subst}
use Rattle.io_edge.specs.Cuts.{Cutting}
use Rattle.edge_text.specs.Feed.{IsFeeding}
use Rattle.edge_text.proofs.FeedLemmas.{feeds_start}
use Rattle.edge_text.proofs.feed.EdgeReader.new.Goals as goal

pub returns-clause-start : goal.returns-clause-start
returns-clause-start c =
    λ names is.
    let held : c.in_ok-new.field-0.held ≡ [] = ap (λ (s : Cutting). s.held) c.in_ok-new.ensures in
    subst (λ (h : List ℕ). IsFeeding c.args.start names [] h [] 0 c.args.start [] c.args.table) (sym held) (feeds_start c.args.start names c.args.table is c.requires.names)
