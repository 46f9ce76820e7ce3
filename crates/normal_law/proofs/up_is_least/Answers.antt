use Rattle.std.specs.Prelude.{IsTrue}
use Rattle.normal_law.specs.Closure.{itself, above}
use Rattle.normal_law.proofs.ClosedLemmas.{IsUp-in_closed}
use Rattle.normal_law.proofs.up_is_least.Goals as goal

pub returns : goal.returns
returns c =
    record {
      itself = λ rules b. itself;
      closed = λ rules b x a up m. above x up m;
      least = λ rules b P first closed a up. IsUp-in_closed up (λ x. IsTrue (P x)) first closed;
    }
