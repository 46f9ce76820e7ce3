use Rattle.source_graph.proofs.NameLemmas.{names_are_names}
use Rattle.source_graph.proofs.laws.declared_names_are_names.Goals as goal

pub returns : goal.returns
returns c = names_are_names c.tokens_stand_in_their_text.ensures
