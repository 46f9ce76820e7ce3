use Rattle.edge_text.proofs.AgainLemmas.{reads_again}
use Rattle.edge_text.proofs.laws.files_read_again.Goals as goal

pub returns : goal.returns
returns c = reads_again
