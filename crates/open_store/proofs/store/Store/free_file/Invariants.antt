use Rattle.std.proofs.Common.{◌≤◌, ◌<◌, ◌-◌, ◌+◌, ℕ, length, map}
use Rattle.std.specs.Prelude.{◌++◌, count_by, nat_lt}
use Rattle.open_store.specs.Free.{IsUsed}
use Rattle.open_store.proofs.store.Store.free_file.Given as goal

abbrev pub invariant-loop-self : goal.invariant-loop-self
invariant-loop-self l =
    record {
      least : 4 ≤ l.file;
      used : (f : ℕ) → 4 ≤ f → f < l.file → IsUsed l.self.manifest.parts l.taken f;
      few : l.file ≤ 4 + count_by (λ f. nat_lt f l.file) (map (λ p. p.file) l.self.manifest.parts ++ l.taken);
    }

abbrev pub decreases-loop-self : goal.decreases-loop-self
decreases-loop-self l = 1024 - l.file
