use Rattle.io_edge.proofs.FaultLemmas.{long_text_has_fault}
use Rattle.io_edge.proofs.lines.long_texts_have_faults.Goals as goal

pub returns : goal.returns
returns c = long_text_has_fault
