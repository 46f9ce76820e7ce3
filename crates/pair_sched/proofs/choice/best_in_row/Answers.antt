use Rattle.std.proofs.Common.{arith}
use Rattle.pair_sched.proofs.PickLemmas.{best_row}
use Rattle.pair_sched.proofs.choice.best_in_row.Goals as goal

pub returns : goal.returns
returns c = best_row _ _ _ _ c.args.i c.loop-j.j c.loop-j.best (omega arith) c.loop-j.invariant
