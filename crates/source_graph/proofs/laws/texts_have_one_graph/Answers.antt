use Rattle.source_graph.proofs.GraphLemmas.{one_graph}
use Rattle.source_graph.proofs.laws.texts_have_one_graph.Goals as goal

pub returns : goal.returns
returns c = one_graph
