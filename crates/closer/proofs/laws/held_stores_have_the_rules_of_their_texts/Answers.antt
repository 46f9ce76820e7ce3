use Rattle.closer.proofs.LawLemmas.{rules_held}
use Rattle.closer.proofs.laws.held_stores_have_the_rules_of_their_texts.Goals as goal

pub returns : goal.returns
returns c = rules_held
