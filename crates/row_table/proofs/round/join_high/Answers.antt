use Rattle.row_table.proofs.round.join_high.Goals as goal

pub returns-in_ok-join_span-in-Some : goal.returns-in_ok-join_span-in-Some
returns-in_ok-join_span-in-Some c = rw c.in-Some.is c.in_ok-join_span-in-Some.ensures
