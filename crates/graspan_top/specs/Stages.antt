-- What the steps of a run answer.
use Rattle.std.specs.Prelude.{◌≡◌, ◌⊎◌, ◌++◌, ℕ, Bool, IsTrue, List, [], ◌∷◌, length, Option, Some, None}
use Rattle.graph_words.specs.declared.types.LabelId.{LabelId}
use Rattle.graph_words.specs.declared.types.Born.{Born}
use Rattle.faults.specs.declared.kinds.InputFile.{InputFile}
use Rattle.faults.specs.declared.kinds.InputFile.TheVariants.{Grammar, Edges}
use Rattle.disk_model.specs.Disk.{Contents}
use Rattle.disk_model.specs.Crash.{LeavesJust}
use Rattle.manifest_codec.specs.declared.types.Manifest.{Manifest}
use Rattle.open_store.specs.Answers.{DiffersFirst, compare_causes, copy_of}
use Rattle.open_store.specs.Store.{IsHeldAlone, OpenStore}
use Rattle.closing_machine.specs.Parts.{all_edges}
use Rattle.query_text.specs.Text.{answers_text, head_text, tally_text}
use Rattle.query_text.specs.Answered.{AreListedIn, IsBlamed}
use Rattle.graspan_top.specs.Given.{Given, WhereTold}
use Rattle.graspan_top.specs.Refusals.{Stage}
use Rattle.graspan_top.specs.Run.{Accepts, AreTold, IsGoodGrammar, IsOpenedAs, done_line, label_stage, printing_stage}

-- a good grammar was read, which is the file where it is told
pub record IsGrammarFile (told : Option (List ℕ)) (text : List ℕ) : Type 0 where
  pub good : IsGoodGrammar text
  pub is_file : WhereTold told (λ file. text ≡ file)

-- the file is the store's copy, where both are told
abbrev pub IsCopied : Option (List ℕ) → Bool → List ℕ → Type 0
IsCopied told tells copy = WhereTold told (λ file. IsTrue tells → file ≡ copy)

-- they differ first at this place
abbrev pub DiffersFrom : Option (List ℕ) → Bool → List ℕ → ℕ → Type 0
DiffersFrom told tells copy place = WhereTold told (λ file. IsTrue tells → DiffersFirst file copy place)

-- The file is the store's copy.
abbrev pub compare_stage : InputFile → Option (List ℕ) → Bool → List ℕ → Type 0 → Type 0 → Stage
compare_stage file told tells copy read_rose disk_rose =
    record {
      refuses = compare_causes read_rose disk_rose
          (λ blamed place. (blamed ≡ file) × DiffersFrom told tells copy place);
      passed = IsCopied told tells copy;
    }

-- the grammar is compared first
abbrev pub compare_stages : Option (List ℕ) → Option (List ℕ) → Bool → Contents → Manifest → Type 0 → Type 0 → Type 0
    → List Stage
compare_stages grammar edges tells seen m grammar_rose edges_rose disk_rose =
    compare_stage Grammar grammar tells (copy_of m Grammar seen) grammar_rose disk_rose
    ∷ compare_stage Edges edges tells (copy_of m Edges seen) edges_rose disk_rose
    ∷ []

-- The store may be closed: it is of the files, alone in each image, and a crash leaves what a read gives.
pub record IsReady (x : Given) (edges grammar : List ℕ) (seen : Contents) (images : Contents → Type 0) (s : OpenStore) : Type 0 where
  pub accepts : Accepts x edges grammar
  pub held : (c : Contents) → images c → IsHeldAlone s c
  pub synced : LeavesJust seen images
  pub opened : IsTrue x.tells → IsOpenedAs x edges grammar seen s

-- the answers of a label that is shown by its number, and nothing where none is
abbrev pub shown_text : Option LabelId → List Born → List ℕ
shown_text None edges = []
shown_text (Some l) edges = answers_text l None None edges

-- the stages of the printing of a run
abbrev pub show_stages : OpenStore → Bool → Contents → Option (List ℕ) → Type 0 → Type 0 → List Stage
show_stages s tells c show disk_rose out_rose =
    label_stage tells c show ∷ printing_stage disk_rose out_rose (IsBlamed s tells c 0 (length s.manifest.parts)) ∷ []

-- what the printing of a run has begun: the lines of vertices and partitions, or all lines
abbrev pub IsShowBegun : OpenStore → Contents → Option LabelId → List ℕ → Type 0
IsShowBegun s c shown text = (text ≡ head_text s.manifest)
    ⊎ ((parts : List (List Born)) × AreListedIn s c parts × AreTold s.manifest parts
    × (text ≡ head_text s.manifest ++ (tally_text s.manifest.labels (all_edges parts)
    ++ (shown_text shown (all_edges parts) ++ done_line))))
