use Rattle.std.specs.Prelude.{◌≤◌, List, length, All}
use Rattle.graph_words.specs.declared.types.Rule.{Rule}
use Rattle.normal_law.specs.Closure.{IsNamed, HasNamedLabels}

-- the rules are within the limits of a grammar
pub record IsGrammar (rules : List Rule) : Type 0 where
  -- there are at most 1,000
  pub few : length rules ≤ 1000
  -- each has at most 64 labels on the right
  pub short : All (λ r. length r.right ≤ 64) rules
  -- each label is a named one: its number is below 1,000
  pub named : HasNamedLabels rules

-- a rule within the limits
abbrev pub IsWithin : Rule → Type 0
IsWithin r = (length r.right ≤ 64) × IsNamed r.left × All IsNamed r.right
