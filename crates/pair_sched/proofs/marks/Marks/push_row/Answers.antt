use Rattle.std.proofs.Common.{ℕ, List, ◌≡◌, ◌<◌, ◌+◌, ap, arith}
use Rattle.closing_machine.specs.Machine.{parent}
use Rattle.pair_sched.specs.Marks.{joined_of}
use Rattle.dest_map.proofs.TableLemmas.{filled_more, filled_row}
use Rattle.pair_sched.proofs.marks.Marks.push_row.Goals as goal

pub loop-b-preserved : goal.loop-b-preserved
loop-b-preserved c =
    let m = c.args.self.now in
    let size : c.self.inside.size ≡ m.0 = ap (λ (m : ℕ × List ℕ × List ℕ). m.0) c.self.view_is in
    let lt : c.loop-b.b < m.0 + 1 = omega arith in
    let is : c.joined.result ≡ joined_of m (parent c.args.i c.args.a) (parent c.args.i c.loop-b.b) = rw (← c.parent_of.ensures, ← c.parent_of-in-loop-b.ensures) c.joined.ensures in
    rw c.in_ok-push.ensures.items (filled_more (λ a b. joined_of m (parent c.args.i a) (parent c.args.i b)) (m.0 + 1) c.args.a c.loop-b.b _ _ lt c.loop-b.invariant is)

pub returns : goal.returns
returns c =
    let m = c.args.self.now in
    let size : c.self.inside.size ≡ m.0 = ap (λ (m : ℕ × List ℕ × List ℕ). m.0) c.self.view_is in
    let all : m.0 + 1 ≡ c.loop-b.b = omega arith in
    filled_row (λ a b. joined_of m (parent c.args.i a) (parent c.args.i b)) (m.0 + 1) c.args.a c.loop-b.b _ all c.loop-b.invariant
