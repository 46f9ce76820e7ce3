use Rattle.std.proofs.Common.{◌∙◌, ap}
use Rattle.indexmap.specs.IndexSet.{insert_key}
use Rattle.graph_words.specs.Text.{same_name}
use Rattle.label_table.proofs.TableLemmas.{push_new}
use Rattle.label_table.proofs.push_name.Goals as goal

pub returns-clause-ok : goal.returns-clause-ok
returns-clause-ok c = c.in_ok-insert.ensures.keys ∙ ap (insert_key same_name c.args.names.now.keys) c.in_ok-copy.ensures ∙ push_new c.args.names.now.keys c.args.name.now c.requires
