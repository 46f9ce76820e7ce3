use Rattle.std.proofs.Common.{inr}
use Rattle.store_law.proofs.stores_are_left.Goals as goal

pub returns : goal.returns
returns c = λ t x m parts s. inr (m, parts, s)
