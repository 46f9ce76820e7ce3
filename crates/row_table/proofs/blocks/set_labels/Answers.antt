use Rattle.normal_law.specs.NormalForm.{normal_form}
use Rattle.row_table.proofs.BlockLemmas.{known_seconds}
use Rattle.row_table.proofs.blocks.set_labels.Goals as goal

pub returns-in-Some : goal.returns-in-Some
returns-in-Some c =
    known_seconds (normal_form c.args.seconds.now.normal.now) c.args.first c.args.seconds.now.rows.now.edges _ _ c.in-Some.known.now c.in_ok-seconds.ensures (rw c.in-Some.is at c.requires) c.keep_known.ensures
