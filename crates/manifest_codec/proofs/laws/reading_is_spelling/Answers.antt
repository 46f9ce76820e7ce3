use Rattle.manifest_codec.proofs.Facts.{reading_is_spelling}
use Rattle.manifest_codec.proofs.laws.reading_is_spelling.Goals as goal

pub returns : goal.returns
returns c = reading_is_spelling
