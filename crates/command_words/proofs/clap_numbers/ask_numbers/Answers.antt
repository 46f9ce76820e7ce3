use Rattle.std.proofs.Common.{rules, ◌≡◌, ◌∙◌, map, string_bytes, ap}
use Rattle.std.specs.Option.{option_copied}
use Rattle.clap.specs.Matches.{found_of}
use Rattle.command_words.specs.ClapNumbers.{asked}
use Rattle.command_words.proofs.AskLemmas.{no_fault_in, numbers_found}
use Rattle.command_words.proofs.clap_numbers.ask_numbers.Goals as goal

pub returns-in_err-matches-clause-words : goal.returns-in_err-matches-clause-words
returns-in_err-matches-clause-words c =
    let are : map string_bytes c.as_slice.result.now ≡ asked (option_copied c.args.workers) (option_copied c.args.part_edges) (option_copied c.args.budget) = ap (map string_bytes) c.as_slice.ensures.value ∙ c.in_ok-words.ensures in
    let none = no_fault_in (option_copied c.args.workers) (option_copied c.args.part_edges) (option_copied c.args.budget) (map string_bytes c.as_slice.result.now) are in
    let why = c.in_err-matches.ensures.words in
    search (rules, none, why)

pub returns-clause-numbers : goal.returns-clause-numbers
returns-clause-numbers c =
    let are : map string_bytes c.as_slice.result.now ≡ asked (option_copied c.args.workers) (option_copied c.args.part_edges) (option_copied c.args.budget) = ap (map string_bytes) c.as_slice.ensures.value ∙ c.in_ok-words.ensures in
    let got = numbers_found (option_copied c.args.workers) (option_copied c.args.part_edges) (option_copied c.args.budget) (found_of c.in_ok-matches.matches) (map string_bytes c.as_slice.result.now) c.numbers_in.result c.requires.workers c.requires.part_edges c.requires.budget are c.in_ok-matches.ensures.rows c.in_ok-matches.ensures.none c.numbers_in.ensures in
    rw (c.ok_or.ensures.value, got.1) got.2

pub returns-clause-words : goal.returns-clause-words
returns-clause-words c =
    let are : map string_bytes c.as_slice.result.now ≡ asked (option_copied c.args.workers) (option_copied c.args.part_edges) (option_copied c.args.budget) = ap (map string_bytes) c.as_slice.ensures.value ∙ c.in_ok-words.ensures in
    let got = numbers_found (option_copied c.args.workers) (option_copied c.args.part_edges) (option_copied c.args.budget) (found_of c.in_ok-matches.matches) (map string_bytes c.as_slice.result.now) c.numbers_in.result c.requires.workers c.requires.part_edges c.requires.budget are c.in_ok-matches.ensures.rows c.in_ok-matches.ensures.none c.numbers_in.ensures in
    rw (c.ok_or.ensures.value, got.1) tt
