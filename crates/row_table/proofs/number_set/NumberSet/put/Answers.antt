use Rattle.row_table.proofs.SetLemmas.{put_in}
use Rattle.row_table.proofs.number_set.NumberSet.put.Goals as goal

pub returns-clause-added : goal.returns-clause-added
returns-clause-added c = put_in c.self.inside.marks.items c.self.inside.turn c.args.number c.args.self.now c.self.view_is c.requires
