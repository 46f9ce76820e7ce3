use Rattle.manifest_codec.proofs.LengthLaws.{no_shared_spelling}
use Rattle.manifest_codec.proofs.laws.no_shared_spelling.Goals as goal

pub returns : goal.returns
returns c = no_shared_spelling
