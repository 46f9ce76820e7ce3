-- What clap is asked: the three options of a run that are numbers.
use Rattle.std.specs.Prelude.{◌≡◌, ◌≤◌, ℕ, List, [], ◌∷◌, ◌++◌, Option, Some, None, All, length, codes}
use Rattle.clap.specs.Matches.{one_text}
use Rattle.clap.specs.Walk.{Rule}
use Rattle.clap.specs.declared.parser.matches.Found.{Found}
use Rattle.graph_words.specs.Text.{IsDigit}
use Rattle.clap.specs.Simple.{App, new_app, new_rule, with_rule}
use Rattle.clap.specs.declared.builder.value_parser.ValueParser.TheVariants as parser

-- an option with this name, whose value is a number from 1 to most
abbrev pub number_rule : List ℕ → List ℕ → ℕ → Rule
number_rule name default most = record (new_rule name) { long = Some name; parser = Some (parser.Unsigned 1 most); defaults = default ∷ [] }

-- the command with the three options
abbrev pub numbers_app : App
numbers_app = with_rule (with_rule (with_rule (new_app (codes "run"))
    (number_rule (codes "workers") (codes "4") 64))
    (number_rule (codes "part-edges") (codes "1000000") 4294967295))
    (number_rule (codes "budget") (codes "16000000") 4294967295)

-- `--name=value`, where the option is given
abbrev pub option_words : List ℕ → Option (List ℕ) → List (List ℕ)
option_words name None = []
option_words name (Some value) = (codes "--" ++ (name ++ (codes "=" ++ value))) ∷ []

-- the words that clap gets, which begin with the command's name
abbrev pub asked : Option (List ℕ) → Option (List ℕ) → Option (List ℕ) → List (List ℕ)
asked workers part_edges budget = codes "run" ∷ (option_words (codes "workers") workers ++ (option_words (codes "part-edges") part_edges ++ option_words (codes "budget") budget))

-- one digit or more
abbrev pub IsDigits : List ℕ → Type 0
IsDigits word = (1 ≤ length word) × All IsDigit word

-- the texts that clap has found under the three names
pub record HasTexts (found : Found) (workers part_edges budget : List ℕ) : Type 0 where
  pub workers_is : one_text found (codes "workers") ≡ Some workers
  pub part_edges_is : one_text found (codes "part-edges") ≡ Some part_edges
  pub budget_is : one_text found (codes "budget") ≡ Some budget
