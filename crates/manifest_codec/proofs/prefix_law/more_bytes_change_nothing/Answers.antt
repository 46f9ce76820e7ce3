use Rattle.manifest_codec.proofs.PrefixLaws.{settles}
use Rattle.manifest_codec.proofs.prefix_law.more_bytes_change_nothing.Goals as goal

pub returns : goal.returns
returns c = settles
