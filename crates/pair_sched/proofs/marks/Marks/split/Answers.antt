use Rattle.std.proofs.Common.{ℕ, List, ◌≡◌, ◌+◌, ◌*◌, length, subst, arith, rules}
use Rattle.closing_machine.specs.Machine.{parent}
use Rattle.dest_map.specs.Table.{IsFilled}
use Rattle.pair_sched.specs.Marks.{joined_of}
use Rattle.pair_sched.proofs.MarkLemmas.{marks_split, newest_split_of}
use Rattle.pair_sched.proofs.marks.Marks.split.Goals as goal

pub returns-clause-size : goal.returns-clause-size
returns-clause-size c = search rules

pub returns-clause-joined : goal.returns-clause-joined
returns-clause-joined c =
    let m = c.args.self.now in
    let size : c.in_ok-size.size ≡ m.0 + 1 = returns-clause-size c in
    let all : c.loop-a.a ≡ m.0 + 1 = omega arith in
    let long : length m.1 ≡ m.0 * m.0 = subst (λ (m : ℕ × List ℕ × List ℕ). length m.1 ≡ m.0 * m.0) c.self.view_is c.self.invariant.0 in
    let whole = subst (λ (k : ℕ). IsFilled (λ a b. joined_of m (parent c.args.i a) (parent c.args.i b)) (m.0 + 1) k 0 c.loop-a.joined.items) all c.loop-a.invariant in
    rw size (marks_split m c.args.i c.loop-a.joined.items long c.requires whole)

pub returns-clause-newest : goal.returns-clause-newest
returns-clause-newest c = newest_split_of c.self.inside.size c.self.inside.joined.items c.self.inside.newest.items c.args.self.now c.args.i c.args.low c.args.high c.insert.new.self.items c.self.view_is c.self.invariant.1 c.requires c.in_ok-insert.ensures.items
