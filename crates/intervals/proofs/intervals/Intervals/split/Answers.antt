use Rattle.intervals.proofs.BoundsLemmas.{cut_inserted}
use Rattle.intervals.proofs.intervals.Intervals.split.Goals as goal

pub invariant_of-self-2 : goal.invariant_of-self-2
invariant_of-self-2 c =
    rw c.in_ok-insert.ensures.items (cut_inserted c.self.inside.ends.items c.args.i c.args.at c.self.invariant (rw c.self.view_is c.requires.number) (rw c.self.view_is c.requires.low) (rw c.self.view_is c.requires.high))
