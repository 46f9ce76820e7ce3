use Rattle.std.specs.Prelude.{IsTrue}
use Rattle.normal_law.proofs.ClosedLemmas.{Closure-in_closed, IsClosedOver-closure}
use Rattle.normal_law.proofs.closure_is_least.Goals as goal

pub returns : goal.returns
returns c = record { closed = IsClosedOver-closure; least = λ n g E u v a is h. Closure-in_closed h (λ e. IsTrue (E e)) is }
