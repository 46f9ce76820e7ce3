use Rattle.std.proofs.Common.{◌<◌, ◌≤◌, rules}
use Rattle.closing_machine.specs.State.{IsDirtyBy}
use Rattle.dest_map.specs.Table.{counts_of}
use Rattle.pair_sched.specs.Marks.{joined_of, newest_of}
use Rattle.pair_sched.proofs.PickLemmas.{best_clean, best_more, best_same}
use Rattle.pair_sched.proofs.choice.better.Goals as goal

pub returns-then-not-is_dirty : goal.returns-then-not-is_dirty
returns-then-not-is_dirty c = best_clean _ _ _ _ c.args.i c.args.j c.args.best c.requires.best (λ d. let e = c.if-not-is_dirty.ensures.1 d in absurd (cc))

pub returns-then-count : goal.returns-then-count
returns-then-count c =
    let dirty : IsDirtyBy (counts_of c.args.map.now) (joined_of c.args.marks.now) (newest_of c.args.marks.now) c.args.i c.args.j = c.if-not-is_dirty.ensures.0 (search rules) in
    let lt : counts_of c.args.map.now c.in-Some.a c.in-Some.b < counts_of c.args.map.now c.args.i c.args.j = rw (← c.count.ensures, ← c.count-in-Some.ensures) c.if-count.true in
    best_more _ _ _ _ c.args.i c.args.j (c.in-Some.a, c.in-Some.b) c.requires.i c.requires.j (rw c.in-Some.is at c.requires.best) dirty lt

pub returns-else-count : goal.returns-else-count
returns-else-count c =
    let le : counts_of c.args.map.now c.args.i c.args.j ≤ counts_of c.args.map.now c.in-Some.a c.in-Some.b = rw (← c.count.ensures, ← c.count-in-Some.ensures) c.if-count.false in
    best_same _ _ _ _ c.args.i c.args.j (c.in-Some.a, c.in-Some.b) (rw c.in-Some.is at c.requires.best) le
