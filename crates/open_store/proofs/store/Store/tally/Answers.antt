use Rattle.std.proofs.Common.{ap, subst, List, ℕ, []}
use Rattle.open_store.specs.Store.{OpenStore}
use Rattle.open_store.specs.Stream.{IsTally}
use Rattle.open_store.proofs.store.Store.tally.Goals as goal

pub returns : goal.returns
returns c = subst (λ (l : List ℕ). IsTally l c.args.edges.now c.add_all.new.self.row.items c.add_all.new.self.newest) (ap (λ (x : OpenStore). x.ends) c.self.view_is) (c.add_all.ensures.tally [] c.in_ok-tally.ensures)
