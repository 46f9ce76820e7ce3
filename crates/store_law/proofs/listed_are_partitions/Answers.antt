use Rattle.store_law.proofs.Intervals.{cut_from_cover, listed_partitions}
use Rattle.store_law.proofs.listed_are_partitions.Goals as goal

pub returns-clause-cut : goal.returns-clause-cut
returns-clause-cut c = λ m f. cut_from_cover m.vertices 0 m.parts f.cover

pub returns-clause-parts : goal.returns-clause-parts
returns-clause-parts c = listed_partitions
