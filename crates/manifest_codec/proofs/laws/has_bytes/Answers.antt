use Rattle.manifest_codec.proofs.Facts.{has_bytes}
use Rattle.manifest_codec.proofs.laws.has_bytes.Goals as goal

pub returns : goal.returns
returns c = has_bytes
