use Rattle.graspan_top.proofs.RowLemmas.{row_exact, row_left}
use Rattle.graspan_top.proofs.runs_law.runs_in_a_row.Goals as goal

pub returns-clause-left : goal.returns-clause-left
returns-clause-left g c = λ told edges grammar text file tg te. row_left g.D.Disk g.met.D.Disk.honest told edges grammar text file tg te

pub returns-clause-exact : goal.returns-clause-exact
returns-clause-exact g c = λ told edges grammar text file tg te. row_exact g.D.Disk g.met.D.Disk.honest told edges grammar text file tg te
