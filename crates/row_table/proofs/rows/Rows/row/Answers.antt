use Rattle.std.proofs.lemmas.Bool.{false≢true}
use Rattle.row_table.proofs.RowLemmas.{no_row_at_none, no_row_at_some}
use Rattle.row_table.proofs.rows.Rows.row.Goals as goal

pub returns-then-not-has-clause-row : goal.returns-then-not-has-clause-row
returns-then-not-has-clause-row c = no_row_at_some _ c.args.self.now c.in-Some.high c.args.vertex c.self.view_is c.self.invariant.loaded c.in-Some.is (λ p. false≢true (c.if-has.ensures.1 p)) (λ p. false≢true (c.if-not-has.ensures.1 p))

pub returns-in-None-clause-row : goal.returns-in-None-clause-row
returns-in-None-clause-row c = no_row_at_none _ c.args.self.now c.args.vertex c.self.view_is c.self.invariant.loaded c.in-None.is (λ p. false≢true (c.if-has.ensures.1 p))
