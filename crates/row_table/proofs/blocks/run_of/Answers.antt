use Rattle.std.proofs.Common.{inl, inr}
use Rattle.row_table.proofs.BlockLemmas.{places_in_order, in_run, no_run}
use Rattle.row_table.proofs.blocks.run_of.Goals as goal

pub part-requires-clause-order : goal.part-requires-clause-order
part-requires-clause-order c =
    places_in_order c.args.row.now c.args.label _ _ (rw c.from-number.ensures at c.label_place-start.ensures) (rw c.from-number.ensures at c.label_place-end.ensures)

pub returns-then-start-row : goal.returns-then-start-row
returns-then-start-row c = no_run c.args.row.now c.args.label _ c.requires (rw c.from-number.ensures at c.label_place-start.ensures) (inl c.if-start-row.true)

pub returns-then-row-start : goal.returns-then-row-start
returns-then-row-start c = no_run c.args.row.now c.args.label _ c.requires (rw c.from-number.ensures at c.label_place-start.ensures) (inr c.if-row-start.true)

pub returns : goal.returns
returns c = λ b.
    rw c.part.ensures (in_run c.args.row.now c.args.label _ _ (rw c.from-number.ensures at c.label_place-start.ensures) (rw c.from-number.ensures at c.label_place-end.ensures) b)
