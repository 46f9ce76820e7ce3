use Rattle.source_graph.proofs.NameLemmas.{read_back}
use Rattle.source_graph.proofs.laws.graphs_read_back.Goals as goal

pub returns : goal.returns
returns c = read_back c.graphs_keep_rules_and_names.ensures.rules c.graphs_keep_rules_and_names.ensures.names c.declared_names_are_names.ensures c.list_reads_back.ensures
