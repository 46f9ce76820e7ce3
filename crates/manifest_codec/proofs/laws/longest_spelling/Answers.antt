use Rattle.manifest_codec.proofs.LengthLaws.{longest_spelling}
use Rattle.manifest_codec.proofs.laws.longest_spelling.Goals as goal

pub returns : goal.returns
returns c = longest_spelling
