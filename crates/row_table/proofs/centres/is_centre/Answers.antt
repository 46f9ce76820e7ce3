use Rattle.std.proofs.Common.{refl}
use Rattle.row_table.proofs.CentreLemmas.{centre_is, centre_ends, centre_row, some_there, there_some}
use Rattle.row_table.proofs.centres.is_centre.Goals as goal

pub returns-then-has-clause-yes : goal.returns-then-has-clause-yes
returns-then-has-clause-yes c = λ t. centre_is c.args.rows.now.edges c.args.ends.now c.args.vertex c.requires (c.if-has.ensures.0 refl) (some_there c.is_empty.result _ _ c.is_empty.ensures c.row.ensures.row t)

pub returns-then-has-clause-all : goal.returns-then-has-clause-all
returns-then-has-clause-all c = λ x y mx my ex ey. there_some c.is_empty.result _ _ c.is_empty.ensures c.row.ensures.row (centre_row c.args.rows.now.edges c.args.ends.now c.args.vertex c.requires y my ey)

pub returns-else-has-clause-all : goal.returns-else-has-clause-all
returns-else-has-clause-all c = λ x y mx my ex ey. c.has.ensures.1 (centre_ends c.args.rows.now.edges c.args.ends.now c.args.vertex c.requires x mx ex)
