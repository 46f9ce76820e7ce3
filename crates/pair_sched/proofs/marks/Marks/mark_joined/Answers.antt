use Rattle.pair_sched.proofs.MarkLemmas.{mark_set}
use Rattle.pair_sched.proofs.marks.Marks.mark_joined.Goals as goal

pub returns-clause-joined : goal.returns-clause-joined
returns-clause-joined c = mark_set c.self.inside.size c.args.i c.args.j c.args.round c.self.inside.joined.items c.self.inside.newest.items c.args.self.now c.self.view_is c.self.invariant.0 c.requires.i c.requires.j
