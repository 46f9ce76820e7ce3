-- What an import answers, and what a crash during one leaves.
use Rattle.std.specs.Prelude.{◌≡◌, ◌⊎◌, ℕ, List, [], ◌∷◌, length, Option, Some, Ok}
use Rattle.graph_words.specs.declared.types.Born.{Born}
use Rattle.faults.specs.declared.kinds.InputFile.TheVariants.{Edges}
use Rattle.faults.specs.Reasons.{BlamesText, Causes, no_cause}
use Rattle.edge_text.specs.EdgesText.{edges_fault}
use Rattle.grammar_norm.specs.GrammarText.{ReadsGrammar, grammar_names}
use Rattle.disk_model.specs.Disk.{Contents}
use Rattle.manifest_codec.specs.declared.types.Manifest.{Manifest}
use Rattle.manifest_switch.specs.declared.slot.Slot.{Slot}
use Rattle.manifest_switch.specs.declared.slot.Slot.TheVariants.{Zero}
use Rattle.manifest_switch.specs.declared.slot.Found.TheVariants.{At}
use Rattle.manifest_switch.specs.Slots.{current_of}
use Rattle.store_law.specs.Texts.{AreGood, Texts, graph, names_of}
use Rattle.store_law.specs.Imported.{IsFreshStore, IsImported}
use Rattle.open_store.specs.Store.{IsOpenStore, OpenStore}

-- two texts as those of a store
abbrev pub texts_of : List ℕ → List ℕ → Texts
texts_of grammar edges = record { grammar = grammar; files = edges ∷ [] }

-- The store is in slot 0, keeps its rules, and has the rules of the grammar. Its manifest is one of the grammar and
-- a text without a fault, which is the inputs' file where that is told.
pub record IsNewStore (grammar : List ℕ) (told : Option (List ℕ)) (s : OpenStore) : Type 0 where
  pub slot_is : s.slot ≡ Zero
  pub keeps : IsOpenStore s
  pub names : List (List ℕ)
  pub reads : ReadsGrammar grammar s.rules names
  pub text : List ℕ
  pub is_file : (file : List ℕ) → told ≡ Some file → text ≡ file
  pub good : AreGood (texts_of grammar text)
  pub labels : s.manifest.labels ≡ names_of (texts_of grammar text)
  pub vertices : s.manifest.vertices ≡ (graph (texts_of grammar text)).vertices
  pub grammar_len : s.manifest.grammar_len ≡ length grammar
  pub edges_len : s.manifest.edges_len ≡ length text

-- the contents are a fresh store of the grammar and a text, which is the inputs' file where that is told
pub record IsImportOf (grammar : List ℕ) (told : Option (List ℕ)) (limit : ℕ) (c : Contents) (m : Manifest) : Type 0 where
  pub text : List ℕ
  pub is_file : (file : List ℕ) → told ≡ Some file → text ≡ file
  pub parts : List (List Born)
  pub imported : IsImported (texts_of grammar text) limit c m parts

-- the same, whichever slot is current
pub record HasFreshStore (grammar : List ℕ) (told : Option (List ℕ)) (limit : ℕ) (c : Contents) : Type 0 where
  pub text : List ℕ
  pub is_file : (file : List ℕ) → told ≡ Some file → text ≡ file
  pub slot : Slot
  pub manifest : Manifest
  pub current : current_of c ≡ Ok (At slot manifest)
  pub parts : List (List Born)
  pub fresh : IsFreshStore (texts_of grammar text) limit c manifest parts

-- what an import makes of an image at each moment: what is current stays, so that it is still blank, or it is a whole fresh store
abbrev pub Imports : List ℕ → Option (List ℕ) → ℕ → Contents → Contents → Type 0
Imports grammar told limit old new = (current_of new ≡ current_of old) ⊎ HasFreshStore grammar told limit new

-- why an import has no answer: the input's count of faults rose, or the disk's; or the edge file, where it is told,
-- has this first fault behind the grammar's names. The copy of the edges is blamed only where the disk doesn't tell
-- what it holds.
abbrev pub import_causes : List ℕ → Option (List ℕ) → Type 0 → Type 0 → Type 0 → Causes
import_causes grammar told tells read_rose disk_rose =
    record no_cause {
      reads = read_rose;
      disk = disk_rose;
      text = λ file line kind. (file ≡ Edges) × ((text : List ℕ) → told ≡ Some text
          → edges_fault 0 (grammar_names grammar) text ≡ Some (record { line = line; kind = kind }));
      bad = BlamesText (tells → ⊥) 3;
    }
