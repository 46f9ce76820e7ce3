use Rattle.manifest_codec.proofs.Facts.{spelling_is_read}
use Rattle.manifest_codec.proofs.laws.spelling_is_read.Goals as goal

pub returns : goal.returns
returns c = spelling_is_read
