use Rattle.std.proofs.Common.{◌≡◌}
use Rattle.normal_law.specs.NormalForm.{normal_form}
use Rattle.graph_words.specs.declared.types.Born.{Born}
use Rattle.closing_machine.proofs.Members.{All-from_members}
use Rattle.row_table.proofs.BlockLemmas.{second_none, second_run, is_nil}
use Rattle.row_table.proofs.blocks.add_second.Goals as goal

pub returns-then-is_empty : goal.returns-then-is_empty
returns-then-is_empty c =
    second_none (normal_form c.args.normal.now) c.args.first c.args.row.now c.args.label c.args.blocks.now.items c.run_of-run.result.now c.run_of-run.ensures (is_nil c.is_empty.result c.run_of-run.result.now c.is_empty.ensures c.if-is_empty.true)

pub add_run-requires : goal.add_run-requires
add_run-requires c = All-from_members (λ (b : Born). b.edge.label ≡ c.args.label) c.run_of-run.result.now (λ b m. ((c.run_of-run.ensures b).0 m).1)

pub returns : goal.returns
returns c =
    second_run (normal_form c.args.normal.now) c.args.first c.args.row.now c.args.label c.args.blocks.now.items _ c.run_of-run.result.now c.run_of-run.ensures c.in_ok-add_run.ensures
