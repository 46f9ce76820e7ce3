use Rattle.closer.proofs.Blameless.{never_refused}
use Rattle.closer.proofs.laws.stores_are_not_refused.Goals as goal

pub returns : goal.returns
returns c = never_refused
