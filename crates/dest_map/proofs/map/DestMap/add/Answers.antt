use Rattle.std.proofs.Common.{◌≡◌, ℕ, List, ap}
use Rattle.dest_map.proofs.TableLemmas.{map_raised}
use Rattle.dest_map.proofs.CountLemmas.{counts_pushed}
use Rattle.dest_map.proofs.map.DestMap.add.Goals as goal

pub returns-clause-entries : goal.returns-clause-entries
returns-clause-entries c = map_raised c.self.inside.size c.args.i c.args.j c.index_mut.result.now c.self.inside.counts.items c.args.self.now c.self.view_is c.self.invariant c.requires.i c.requires.j c.index_mut.ensures.value

pub returns-clause-counts : goal.returns-clause-counts
returns-clause-counts c =
    let size : c.self.inside.size ≡ c.args.self.now.0 = ap (λ (m : ℕ × List ℕ). m.0) c.self.view_is in
    counts_pushed _ _ c.args.i c.args.j size (returns-clause-entries c)
