use Rattle.std.specs.Prelude.{ℕ, ◌+◌, ◌-◌, ◌<◌, ◌≤◌, List, length, take, sum_by}
use Rattle.graph_words.specs.declared.types.LabelId.{LabelId}
use Rattle.graph_words.specs.declared.types.Rule.{Rule}

-- how many fresh labels a rule has of its own: two less than labels on its right, and none where these are at most two
abbrev pub fresh_of : Rule → ℕ
fresh_of r = length r.right - 2

-- how many fresh labels the first i rules have
abbrev pub fresh_before : List Rule → ℕ → ℕ
fresh_before rules i = sum_by fresh_of (take i rules)

-- the label is a fresh one of the rule with this number, counted from 0
pub record IsFreshOf (rules : List Rule) (i : ℕ) (l : LabelId) : Type 0 where
  pub known : i < length rules
  pub low : 1000 + fresh_before rules i ≤ l.0
  pub high : l.0 < 1000 + fresh_before rules (i + 1)
