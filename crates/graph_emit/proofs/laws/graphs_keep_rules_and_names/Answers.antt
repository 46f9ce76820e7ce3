use Rattle.graph_emit.proofs.Programs.{graph_keeps_rules, graph_is_named}
use Rattle.graph_emit.proofs.laws.graphs_keep_rules_and_names.Goals as goal

pub returns-clause-rules : goal.returns-clause-rules
returns-clause-rules c = graph_keeps_rules

pub returns-clause-names : goal.returns-clause-names
returns-clause-names c = graph_is_named
