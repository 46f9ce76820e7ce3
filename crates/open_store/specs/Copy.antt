-- The copy of a grammar's text, as a manifest tells of it.
use Rattle.std.specs.Prelude.{◌≡◌, ◌≢◌, ℕ, ◌<◌, ◌≤◌, List, length, take, Some}
use Rattle.graph_words.specs.declared.types.Rule.{Rule}
use Rattle.io_edge.specs.FirstFault.{Fault}
use Rattle.grammar_norm.specs.GrammarText.{ReadsGrammar, grammar_fault}
use Rattle.faults.specs.declared.form_kind.FormKind.{FormKind}
use Rattle.faults.specs.declared.form_kind.FormKind.TheVariants.{BadLabel, BadText, Short}
use Rattle.manifest_codec.specs.declared.types.Manifest.{Manifest}
use Rattle.manifest_codec.specs.Rules.{labels_place, newest_version}
use Rattle.manifest_switch.specs.declared.slot.Slot.{Slot}
use Rattle.manifest_switch.specs.Slots.{file_of}

-- the file begins with a grammar's text, as long as the manifest says, with these rules, and the manifest's labels begin with its names
pub record IsCopyRead (m : Manifest) (file : List ℕ) (rules : List Rule) : Type 0 where
  pub long : m.grammar_len ≤ length file
  pub names : List (List ℕ)
  pub reads : ReadsGrammar (take m.grammar_len file) rules names
  pub begins : take (length names) m.labels ≡ names

-- why it has no such text: a file, a place in it, and what breaks
pub data IsBadCopy (s : Slot) (m : Manifest) (file : List ℕ) : ℕ → ℕ → FormKind → Type 0 where
  -- it is shorter than the manifest says
  short : length file < m.grammar_len → IsBadCopy s m file 2 (length file) Short
  -- it has a fault
  bad : (f : Fault) → m.grammar_len ≤ length file → grammar_fault (take m.grammar_len file) ≡ Some f → IsBadCopy s m file 2 0 BadText
  -- the manifest's labels, whose place the version tells, don't begin with its names
  differ : (rules : List Rule) (names : List (List ℕ)) → m.grammar_len ≤ length file
      → ReadsGrammar (take m.grammar_len file) rules names → take (length names) m.labels ≢ names
      → IsBadCopy s m file (file_of s) (labels_place newest_version) BadLabel
