use Rattle.intervals.proofs.DegreeLemmas.{one_cut}
use Rattle.intervals.proofs.degrees.one_cut_by_degrees.Goals as goal

pub returns : goal.returns
returns c = one_cut
