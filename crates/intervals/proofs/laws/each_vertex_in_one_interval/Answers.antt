use Rattle.intervals.proofs.BoundsLemmas.{each_vertex_lies, lies_in_its_interval, lies_below}
use Rattle.intervals.proofs.laws.each_vertex_in_one_interval.Goals as goal

pub returns-clause-each : goal.returns-clause-each
returns-clause-each c = each_vertex_lies

pub returns-clause-one : goal.returns-clause-one
returns-clause-one c = lies_in_its_interval

pub returns-clause-below : goal.returns-clause-below
returns-clause-below c = lies_below
