use Rattle.std.specs.Prelude.{◌≡◌, ◌↔◌, ◌+◌, ◌<◌, List, [], length, slice_index_or, Contains}
use Rattle.graph_words.specs.declared.types.LabelId.{LabelId}
use Rattle.graph_words.specs.declared.types.Rule.{Rule}
use Rattle.normal_law.specs.Closure.{IsEmpty}
use Rattle.normal_law.specs.NormalForm.{fresh_words, all_pairs, normal_form}
use Rattle.normal_form.specs.declared.joins.Join.{Join}
use Rattle.normal_form.specs.Grammar.{IsGrammar}
use Rattle.normal_form.specs.Above.{IsUpRow}
use Rattle.normal_form.specs.Joins.{IsJoinTable}

-- each label below 1,000 stands at its number
pub record AreNamed (named : List LabelId) : Type 0 where
  pub count : length named ≡ 1000
  pub each : (l : LabelId) → l.0 < 1000 → slice_index_or named l.0 l ≡ l

-- the labels above each label stand at its number
pub record AreAbove (rules : List Rule) (above : List (List LabelId)) : Type 0 where
  pub each : (l : LabelId) → l.0 < length above → IsUpRow rules l (slice_index_or above l.0 [])

-- the parts of the normal form of these rules
pub record AreParts (rules : List Rule) (named : List LabelId) (fresh above : List (List LabelId))
    (joins : List (List Join)) (empties : List LabelId) : Type 0 where
  pub grammar_is : IsGrammar rules
  pub named_are : AreNamed named
  pub fresh_are : fresh ≡ fresh_words rules
  pub above_all : length above ≡ 1000 + length fresh
  pub above_are : AreAbove rules above
  pub joins_are : IsJoinTable (all_pairs 0 rules) above joins
  pub empties_are : (a : LabelId) → Contains empties a ↔ IsEmpty (normal_form rules) a
