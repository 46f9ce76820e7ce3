use Rattle.std.proofs.Common.{◌≡◌, ◌∙◌, ap, get_or}
use Rattle.indexmap.specs.IndexSet.{insert_key}
use Rattle.graph_words.specs.Text.{same_name}
use Rattle.label_table.proofs.TableLemmas.{copied_next}
use Rattle.label_table.proofs.copy_names.Goals as goal

pub loop-name-preserved : goal.loop-name-preserved
loop-name-preserved c =
    let bytes : c.in_ok-of.field-0 ≡ get_or c.args.names.now c.loop-name.name-index c.name-item.result = c.in_ok-of.ensures ∙ c.as_slice.ensures ∙ c.name-item.is in
    c.in_ok-insert.ensures.keys
    ∙ ap (λ kept. insert_key same_name kept c.in_ok-of.field-0) c.loop-name.invariant
    ∙ ap (insert_key same_name _) bytes
    ∙ copied_next c.args.names.now c.loop-name.name-index c.name-item.result c.requires c.loop-name-test.true
