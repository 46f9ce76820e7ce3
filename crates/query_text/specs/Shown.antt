-- Printing that is under way.
use Rattle.std.specs.Prelude.{◌≡◌, ℕ, ◌<◌, ◌≤◌, Bool, true, false, List, length, filter, slice_index_or}
use Rattle.std.specs.Prelude.{Option, None, Some, Result, OnOk, IfOk}
use Rattle.std.specs.List.{flat_map}
use Rattle.graph_words.specs.declared.types.Born.{Born}
use Rattle.text_page.specs.Gathered.{Gathers}
use Rattle.closing_machine.specs.Parts.{all_edges}
use Rattle.disk_model.specs.Disk.{Contents}
use Rattle.open_store.specs.Store.{OpenStore}
use Rattle.query_text.specs.Text.{answer_line, dump_line, is_answer, is_named, label_count}
use Rattle.query_text.specs.Answered.{AreRead}
use Rattle.query_text.specs.declared.fault.AnswerFault.{AnswerFault}
use Rattle.query_text.specs.declared.show.Show.{Show}
use Rattle.query_text.specs.declared.show.Show.TheVariants.{Label, Named}

-- whether an edge is shown, and its line
abbrev pub is_shown : Show → List (List ℕ) → Born → Bool
is_shown Named names b = is_named names b
is_shown (Label label from to) names b = is_answer label from to b

abbrev pub line_of : Show → List (List ℕ) → Born → List ℕ
line_of Named names b = dump_line names b
line_of (Label label from to) names b = answer_line b

-- the edges that are shown, and their lines
abbrev pub shown_in : Show → List (List ℕ) → List Born → List Born
shown_in show names edges = filter (is_shown show names) edges

abbrev pub shown_text : Show → List (List ℕ) → List Born → List ℕ
shown_text show names edges = flat_map (line_of show names) (shown_in show names edges)

-- the line of an edge that is shown, and none of one that isn't
abbrev pub IsLineOf : Show → List (List ℕ) → Born → Option (List ℕ) → Type 0
IsLineOf show names b None = is_shown show names b ≡ false
IsLineOf show names b (Some line) = (is_shown show names b ≡ true) × (line ≡ line_of show names b)

-- these partitions were read, at Ok all that are wanted, and the lines of their edges were gathered. At Ok it is the number of the lines.
pub record IsGathered (s : OpenStore) (tells : Bool) (c : Contents) (first wanted : ℕ) (show : Show)
    (before : Option (List ℕ)) (held : List ℕ) (after : Option (List ℕ)) (holds : List ℕ)
    (result : Result ℕ AnswerFault) (read : List (List Born)) : Type 0 where
  pub are_read : AreRead s tells c first read
  pub few : length read ≤ wanted
  pub all : OnOk result (length read ≡ wanted)
  pub gathered : Gathers before held after holds result (shown_text show s.manifest.labels (all_edges read))
  pub number : IfOk result (λ n. n ≡ length (shown_in show s.manifest.labels (all_edges read)))

-- a number for each named label: how many of the edges have it
pub record AreTallied (named : ℕ) (edges : List Born) (counts : List ℕ) : Type 0 where
  pub size : length counts ≡ named
  pub each : (l : ℕ) → l < named → slice_index_or counts l 0 ≡ label_count edges l
