use Rattle.store_law.proofs.Telling.{one_listing}
use Rattle.store_law.proofs.bytes_tell_what_is_listed.Goals as goal

pub returns : goal.returns
returns c = one_listing
