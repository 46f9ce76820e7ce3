use Rattle.std.proofs.Common.{◌≡◌, [], length}
use Rattle.std.specs.Prelude.{All}
use Rattle.normal_form.proofs.joins.empty_rows.Given as goal

abbrev pub invariant-loop : goal.invariant-loop
invariant-loop l = record { rows : length l.empty.items ≡ l.counter; empty : All (λ r. r ≡ []) l.empty.items }
