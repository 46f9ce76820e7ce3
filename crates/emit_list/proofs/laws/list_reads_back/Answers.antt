use Rattle.emit_list.proofs.ReadLemmas.{list_read}
use Rattle.emit_list.proofs.laws.list_reads_back.Goals as goal

pub returns : goal.returns
returns c = list_read c.edges_read_back.ensures.same
