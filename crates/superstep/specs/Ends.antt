-- How the rounds of a pair ended.
use Rattle.std.specs.Prelude.{ℕ, Bool, true}
use Rattle.superstep.specs.declared.PairEnd.{PairEnd}
use Rattle.superstep.specs.declared.PairEnd.TheVariants.{Closed}

-- whether a further round would add nothing
abbrev pub is_closed : PairEnd → Bool
is_closed (Closed rounds) = true

-- how many rounds added edges
abbrev pub rounds_of : PairEnd → ℕ
rounds_of (Closed rounds) = rounds
