use Rattle.std.proofs.Common.{ℕ, List, ◌≡◌, ◌+◌, ◌*◌, length, subst, arith, rules}
use Rattle.dest_map.specs.Table.{IsFilled, counts_of, split_count}
use Rattle.dest_map.proofs.TableLemmas.{filled_split}
use Rattle.dest_map.proofs.CountLemmas.{counts_split}
use Rattle.dest_map.proofs.map.DestMap.split.Goals as goal

pub returns-clause-size : goal.returns-clause-size
returns-clause-size c = search rules

pub returns-clause-entries : goal.returns-clause-entries
returns-clause-entries c =
    let m = c.args.self.now in
    let f = split_count c.args.i c.args.low_row.now c.args.low_column.now c.args.corner (counts_of m) in
    let size : c.in_ok-size.size ≡ m.0 + 1 = returns-clause-size c in
    let all : c.loop-a.a ≡ m.0 + 1 = omega arith in
    let long : length m.1 ≡ m.0 * m.0 = subst (λ (m : ℕ × List ℕ). length m.1 ≡ m.0 * m.0) c.self.view_is c.self.invariant in
    let whole = subst (λ (k : ℕ). IsFilled f (m.0 + 1) k 0 c.loop-a.counts.items) all c.loop-a.invariant in
    rw size (filled_split m c.args.i c.args.low_row.now c.args.low_column.now c.args.corner c.loop-a.counts.items long c.requires.number c.requires.part whole)

pub returns-clause-counts : goal.returns-clause-counts
returns-clause-counts c = counts_split _ _ c.args.i c.args.low_row.now c.args.low_column.now c.args.corner (returns-clause-size c) (returns-clause-entries c)
