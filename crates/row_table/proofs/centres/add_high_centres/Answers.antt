use Rattle.row_table.proofs.centres.add_high_centres.Goals as goal

pub returns-in_ok-add_centres-in-Some : goal.returns-in_ok-add_centres-in-Some
returns-in_ok-add_centres-in-Some c = rw c.in-Some.is c.in_ok-add_centres-in-Some.ensures
