-- What the words of a command line mean.
use Rattle.std.specs.Prelude.{◌≡◌, ◌≢◌, ℕ, ◌≤◌, List, [], ◌∷◌, Option, Some, None, IfSome, option_map, find, length, codes, All, AllPairs, Contains}
use Rattle.std.specs.Str.Parse.{digits_value}
use Rattle.graph_words.specs.Text.{IsDigit, IsLabel, IsVertexNumber, same_name}
use Rattle.command_words.specs.Words.{GivenOption, Cuts}
use Rattle.closing_options.specs.declared.RunOptions.{RunOptions}
use Rattle.command_words.specs.declared.command.GraphKind.{GraphKind}
use Rattle.command_words.specs.declared.command.GraphKind.TheVariants.{Alias, Null}
use Rattle.command_words.specs.declared.command.Command.{Command}
use Rattle.command_words.specs.declared.command.Command.TheVariants as commands

-- a command, its names as bytes
pub data Said : Type 0 where
  -- the edge file, the grammar file, the numbers of the run, and the label whose answers are printed
  run : (edges grammar : List ℕ) (options : RunOptions) (show : Option (List ℕ)) → Said
  -- the label, the source, and the destination
  query : (label : List ℕ) (from : ℕ) (to : Option ℕ) → Said
  -- what the graph is made for, and the C file
  emit : (kind : GraphKind) (source : List ℕ) → Said
  dump : Said
  parts : Said

-- the names of a run's options
abbrev pub run_options : List (List ℕ)
run_options = codes "workers" ∷ codes "part-edges" ∷ codes "budget" ∷ codes "show" ∷ []

-- each option that is given has one of these names, and none is given twice
pub record AreOptions (names : List (List ℕ)) (options : List GivenOption) : Type 0 where
  pub known : All (λ o. Contains names o.name) options
  pub once : AllPairs (λ o p. o.name ≢ p.name) options

-- the value of the option with this name, where it is given
abbrev pub value_of : List ℕ → List GivenOption → Option (List ℕ)
value_of name options = option_map (λ o. o.value) (find (λ o. same_name o.name name) options)

-- the word writes the number in decimal digits, which may begin with zeros, and it is one from least to most
pub record IsNumber (least most : ℕ) (word : List ℕ) (n : ℕ) : Type 0 where
  pub some : 1 ≤ length word
  pub digits : All IsDigit word
  pub value : digits_value 10 word ≡ n
  pub not_less : least ≤ n
  pub not_more : n ≤ most

-- the number that an option's value writes, or the default where the option isn't given
abbrev pub IsNumberOr : ℕ → ℕ → ℕ → Option (List ℕ) → ℕ → Type 0
IsNumberOr default least most None n = n ≡ default
IsNumberOr default least most (Some word) n = IsNumber least most word n

-- the numbers of a run that these values of options give
pub record GiveNumbers (workers part_edges budget : Option (List ℕ)) (numbers : RunOptions) : Type 0 where
  pub workers_is : IsNumberOr 4 1 64 workers numbers.workers
  pub part_edges_is : IsNumberOr 1000000 1 4294967295 part_edges numbers.part_edges
  pub budget_is : IsNumberOr 16000000 1 4294967295 budget numbers.budget

-- the numbers of a run with these options
abbrev pub AreNumbers : List GivenOption → RunOptions → Type 0
AreNumbers options = GiveNumbers (value_of (codes "workers") options) (value_of (codes "part-edges") options) (value_of (codes "budget") options)

-- what the options of a run give
pub record IsRun (options : List GivenOption) (numbers : RunOptions) (show : Option (List ℕ)) : Type 0 where
  pub options_are : AreOptions run_options options
  pub numbers_are : AreNumbers options numbers
  pub show_is : value_of (codes "show") options ≡ show
  pub label : IfSome show IsLabel

-- a destination that may be left out: no word, or one that writes its number
abbrev pub IsDestination : List (List ℕ) → Option ℕ → Type 0
IsDestination [] None = Unit {0}
IsDestination (word ∷ []) (Some to) = IsVertexNumber word to
IsDestination _ _ = ⊥

-- the plain words LABEL U [V] of a query
pub record IsQuery (plains : List (List ℕ)) (label : List ℕ) (from : ℕ) (to : Option ℕ) : Type 0 where
  pub from_word : List ℕ
  pub to_words : List (List ℕ)
  pub plains_are : plains ≡ label ∷ from_word ∷ to_words
  pub label_is : IsLabel label
  pub from_is : IsVertexNumber from_word from
  pub to_is : IsDestination to_words to

-- the word of a kind of graph
abbrev pub kind_word : GraphKind → List ℕ
kind_word Alias = codes "alias"
kind_word Null = codes "null"

-- what the name of a command says with these options and these plain words: `run EDGES GRAMMAR` with options of a run,
-- `query LABEL U [V]`, `emit KIND SOURCE`, `dump` or `parts`
abbrev pub Says : List ℕ → List GivenOption → List (List ℕ) → Said → Type 0
Says name options plains (run edges grammar numbers show) = (name ≡ codes "run") × (plains ≡ edges ∷ grammar ∷ []) × IsRun options numbers show
Says name options plains (query label from to) = (name ≡ codes "query") × (options ≡ []) × IsQuery plains label from to
Says name options plains (emit kind source) = (name ≡ codes "emit") × (options ≡ []) × (plains ≡ kind_word kind ∷ source ∷ [])
Says name options plains dump = (name ≡ codes "dump") × (options ≡ []) × (plains ≡ [])
Says name options plains parts = (name ≡ codes "parts") × (options ≡ []) × (plains ≡ [])

-- The words mean the command: no word is empty, the first names it, and the others are its options and plain words.
pub record Reading (words : List (List ℕ)) (command : Said) : Type 0 where
  pub name : List ℕ
  pub others : List (List ℕ)
  pub first : words ≡ name ∷ others
  pub full : All (λ word. 1 ≤ length word) words
  pub options : List GivenOption
  pub plains : List (List ℕ)
  pub cut : Cuts others options plains
  pub says : Says name options plains command

-- the numbers of a run lie in their ranges
pub record AreWithin (numbers : RunOptions) : Type 0 where
  pub some_workers : 1 ≤ numbers.workers
  pub few_workers : numbers.workers ≤ 64
  pub some_edges : 1 ≤ numbers.part_edges
  pub few_edges : numbers.part_edges ≤ 4294967295
  pub some_budget : 1 ≤ numbers.budget
  pub small_budget : numbers.budget ≤ 4294967295

-- where the command is a run, its numbers lie in their ranges
abbrev pub RunsWithin : Said → Type 0
RunsWithin (run edges grammar numbers show) = AreWithin numbers
RunsWithin _ = Unit {0}

-- the command that was read, its names as bytes
abbrev pub said : Command → Said
said (commands.Run edges grammar options show) = run edges.now grammar.now options (option_map (λ s. s.now) show)
said (commands.Query label from to) = query label.now from to
said (commands.Emit kind source) = emit kind source.now
said commands.Dump = dump
said commands.Parts = parts
