use Rattle.std.proofs.Common.{ℕ, List, ◌≡◌, ◌<◌, ◌+◌, ap, arith}
use Rattle.dest_map.specs.Table.{counts_of, split_count}
use Rattle.dest_map.proofs.TableLemmas.{filled_more, filled_row}
use Rattle.dest_map.proofs.map.DestMap.push_row.Goals as goal

pub loop-b-preserved : goal.loop-b-preserved
loop-b-preserved c =
    let f = split_count c.args.cut.now.i c.args.cut.now.low_row.now c.args.cut.now.low_column.now c.args.cut.now.corner (counts_of c.args.self.now) in
    let size : c.self.inside.size ≡ c.args.self.now.0 = ap (λ (m : ℕ × List ℕ). m.0) c.self.view_is in
    let lt : c.loop-b.b < c.args.self.now.0 + 1 = omega arith in
    rw c.in_ok-push.ensures.items (filled_more f (c.args.self.now.0 + 1) c.args.a c.loop-b.b _ _ lt c.loop-b.invariant c.split_count.ensures)

pub returns : goal.returns
returns c =
    let f = split_count c.args.cut.now.i c.args.cut.now.low_row.now c.args.cut.now.low_column.now c.args.cut.now.corner (counts_of c.args.self.now) in
    let size : c.self.inside.size ≡ c.args.self.now.0 = ap (λ (m : ℕ × List ℕ). m.0) c.self.view_is in
    let all : c.args.self.now.0 + 1 ≡ c.loop-b.b = omega arith in
    filled_row f (c.args.self.now.0 + 1) c.args.a c.loop-b.b _ all c.loop-b.invariant
