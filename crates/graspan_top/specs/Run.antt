-- What a run answers, prints and leaves.
use Rattle.std.specs.Prelude.{◌≡◌, ◌⊎◌, ◌<◌, ℕ, true, Bool, IsTrue, List, [], ◌∷◌}
use Rattle.std.specs.Prelude.{◌++◌, length, slice_get, slice_index_or, Contains, codes, Option, Some, None, Ok, IfSome}
use Rattle.graph_words.specs.declared.types.LabelId.{LabelId}
use Rattle.graph_words.specs.declared.types.Born.{Born}
use Rattle.graph_words.specs.declared.types.Rule.{Rule}
use Rattle.faults.specs.Reasons.{disk_causes, no_cause}
use Rattle.faults.specs.declared.kinds.InputFile.{InputFile}
use Rattle.faults.specs.declared.kinds.InputKind.{InputKind}
use Rattle.faults.specs.declared.kinds.InputFile.TheVariants.{Grammar, Edges}
use Rattle.edge_text.specs.EdgesText.{edges_fault}
use Rattle.grammar_norm.specs.GrammarText.{grammar_fault, grammar_names}
use Rattle.normal_law.specs.NormalForm.{normal_form}
use Rattle.closing_machine.specs.Parts.{all_edges}
use Rattle.disk_model.specs.Disk.{Contents}
use Rattle.faults.specs.declared.form_kind.FormKind.{FormKind}
use Rattle.manifest_codec.specs.declared.types.Manifest.{Manifest}
use Rattle.manifest_switch.specs.declared.slot.Slot.{Slot}
use Rattle.manifest_switch.specs.declared.slot.Found.TheVariants.{At, Blank}
use Rattle.manifest_switch.specs.Slots.{current_of}
use Rattle.manifest_switch.specs.Steps.{Stays}
use Rattle.store_law.specs.Texts.{AreGood, Texts}
use Rattle.store_law.specs.Listed.{AreListed}
use Rattle.store_law.specs.Left.{HasNoWork, IsLeft, IsStoreOf}
use Rattle.open_store.specs.Answers.{DiffersFirst, compare_causes, copy_of}
use Rattle.open_store.specs.Copy.{IsCopyRead}
use Rattle.open_store.specs.Opened.{IsBadStore}
use Rattle.open_store.specs.PartRead.{IsTold}
use Rattle.open_store.specs.Store.{IsHeld, OpenStore}
use Rattle.store.specs.Import.{texts_of}
use Rattle.closer.specs.Answers.{BlamesOnTheWay}
use Rattle.query_text.specs.Text.{answers_text, head_text, tally_text}
use Rattle.query_text.specs.Answered.{IsBlamed, print_causes}
use Rattle.graspan_top.specs.Given.{Given, HasCurrentWith, WhereCurrent, WhereTold}
use Rattle.graspan_top.specs.Refusals.{ArePassed, Rises, Stage, no_rise}

-- ---- what a run prints

-- the manifest's counts and newest births are those of these partitions
abbrev pub AreTold : Manifest → List (List Born) → Type 0
AreTold m parts = (i : ℕ) → i < length m.parts → IsTold m i (slice_index_or parts i [])

-- The contents hold a store without work left, by this manifest and with these partitions, of which it tells.
pub record IsFinishedStore (c : Contents) (m : Manifest) (parts : List (List Born)) : Type 0 where
  pub slot : Slot
  pub current : current_of c ≡ Ok (At slot m)
  pub rules : List Rule
  pub grammar : IsCopyRead m (c 2) rules
  pub listed : AreListed c m (normal_form rules).fresh parts
  pub told : AreTold m parts
  pub done : HasNoWork m

-- the answers of the label that is shown, and nothing where none is
abbrev pub IsShownText : List (List ℕ) → List Born → Option (List ℕ) → List ℕ → Type 0
IsShownText names edges None text = text ≡ []
IsShownText names edges (Some label) text = (l : LabelId) × (slice_get names l.0 ≡ Some label) × (text ≡ answers_text l None None edges)

abbrev pub done_line : List ℕ
done_line = codes "done" ++ 10 ∷ []

-- The text of a run: vertices and partitions, how many edges each label has, the answers of the label that is shown, and that it is done.
pub record IsRunText (c : Contents) (show : Option (List ℕ)) (text : List ℕ) : Type 0 where
  pub manifest : Manifest
  pub parts : List (List Born)
  pub end : IsFinishedStore c manifest parts
  pub shown : List ℕ
  pub shown_is : IsShownText manifest.labels (all_edges parts) show shown
  pub printed : text ≡ head_text manifest ++ (tally_text manifest.labels (all_edges parts) ++ (shown ++ done_line))

-- the lines of vertices and partitions of a store without work left
pub record IsRunFront (c : Contents) (text : List ℕ) : Type 0 where
  pub store : OpenStore
  pub held : IsHeld store c
  pub done : HasNoWork store.manifest
  pub printed : text ≡ head_text store.manifest

-- What a run may have begun to print: its text, or such a front. The lines of labels begin only where all partitions
-- can be read.
abbrev pub IsRunBegun : Contents → Option (List ℕ) → List ℕ → Type 0
IsRunBegun c show text = IsRunFront c text ⊎ IsRunText c show text

-- ---- what a run begins with

-- a grammar's text has no fault
abbrev pub IsGoodGrammar : List ℕ → Type 0
IsGoodGrammar grammar = grammar_fault grammar ≡ None

-- The contents hold the open store. Where the disk held what stopped runs of these files leave, it is a store of them.
pub record IsOpenedAs (x : Given) (edges grammar : List ℕ) (seen : Contents) (s : OpenStore) : Type 0 where
  pub held : IsHeld s seen
  pub left : (g e : List ℕ) → x.told grammar ≡ Some g → x.told edges ≡ Some e → IsLeft (texts_of g e) x.before
      → (parts : List (List Born)) × IsStoreOf (texts_of g e) seen s.manifest parts

-- The closing begins with the contents from before, but for the slots, or with a store that was made of some texts, of
-- which no file is ever blamed.
abbrev pub BeginsWith : Given → Contents → OpenStore → Type 0
BeginsWith x seen s = Stays x.before seen
    ⊎ ((t : Texts) × (parts : List (List Born)) × IsStoreOf t seen s.manifest parts)

-- ---- the order in which a run refuses, stage by stage

-- the grammar file's first fault
abbrev pub HasGrammarFault : Option (List ℕ) → InputFile → ℕ → InputKind → Type 0
HasGrammarFault told Grammar line kind = WhereTold told
    (λ g. grammar_fault g ≡ Some (record { line = line; kind = kind }))
HasGrammarFault told _ line kind = ⊥

-- The grammar file is read, and has no fault.
abbrev pub grammar_stage : Option (List ℕ) → Type 0 → Stage
grammar_stage told read_rose =
    record {
      refuses = record no_cause { reads = read_rose; text = HasGrammarFault told };
      passed = WhereTold told IsGoodGrammar;
    }

-- The disk holds a store, or it is blank.
abbrev pub store_stage : Bool → Contents → Type 0 → Stage
store_stage tells c disk_rose =
    record {
      refuses = disk_causes disk_rose (λ file place kind. IsTrue tells → IsBadStore c file place kind);
      passed = IsTrue tells → (current_of c ≡ Ok Blank) ⊎ ((s : OpenStore) × IsHeld s c);
    }

-- an open store's copy of the file is the file
abbrev pub IsStored : Given → InputFile → Option (List ℕ) → Type 0
IsStored x file told = WhereCurrent x.tells x.before (λ m. WhereTold told (λ text. text ≡ copy_of m file x.before))

-- it differs from the file first at this place
abbrev pub DiffersFromStored : Given → InputFile → Option (List ℕ) → InputFile → ℕ → Type 0
DiffersFromStored x file told blamed place = (blamed ≡ file)
    × HasCurrentWith x.tells x.before (λ m. WhereTold told (λ text. DiffersFirst text (copy_of m file x.before) place))

-- The grammar file is the open store's copy of it.
abbrev pub same_grammar_stage : Given → List ℕ → Type 0 → Type 0 → Stage
same_grammar_stage x grammar read_rose disk_rose =
    record {
      refuses = compare_causes read_rose disk_rose (DiffersFromStored x Grammar (x.told grammar));
      passed = IsStored x Grammar (x.told grammar);
    }

-- where the disk is blank, and tells it
abbrev pub WhereBlank : Given → Type 0 → Type 0
WhereBlank x P = IsTrue x.tells → current_of x.before ≡ Ok Blank → P

-- the first fault of the edge file, behind the names of the grammar: of a file that is taken to a blank disk
abbrev pub HasEdgesFault : Given → List ℕ → List ℕ → InputFile → ℕ → InputKind → Type 0
HasEdgesFault x edges grammar file line kind = (file ≡ Edges) × (IsTrue x.tells → current_of x.before ≡ Ok Blank)
    × WhereTold (x.told grammar) (λ g. WhereTold (x.told edges)
    (λ e. edges_fault 0 (grammar_names g) e ≡ Some (record { line = line; kind = kind })))

-- The edge file is the open store's copy of it, or the disk is blank and it has no fault. The copy that is made of it
-- is blamed only where the disk doesn't tell what it holds.
abbrev pub edges_stage : Given → List ℕ → List ℕ → Type 0 → Type 0 → Stage
edges_stage x edges grammar read_rose disk_rose =
    record {
      refuses =
          record no_cause {
            reads = read_rose;
            disk = disk_rose;
            text = HasEdgesFault x edges grammar;
            other = DiffersFromStored x Edges (x.told edges);
            bad = λ file place kind. IsTrue x.tells → ⊥;
          };
      passed = IsStored x Edges (x.told edges)
          × WhereBlank x (WhereTold (x.told grammar) (λ g. WhereTold (x.told edges) (λ e. AreGood (texts_of g e))));
    }

-- the stages before the closing
abbrev pub ready_stages : Given → List ℕ → List ℕ → Rises → List Stage
ready_stages x edges grammar rose =
    grammar_stage (x.told grammar) (rose.reads grammar)
    ∷ store_stage x.tells x.before rose.disk
    ∷ same_grammar_stage x grammar (rose.reads grammar) rose.disk
    ∷ edges_stage x edges grammar (rose.reads edges) rose.disk
    ∷ []

-- no refusal holds that comes before the closing
abbrev pub Accepts : Given → List ℕ → List ℕ → Type 0
Accepts x edges grammar = ArePassed (ready_stages x edges grammar no_rise)

-- A partition that is loaded for the closing isn't what this file spells: that of a store on the way, from the one that
-- was open before. The file is the one of that store, with its bytes from before.
pub record BlamesClosing (x : Given) (edges grammar : List ℕ) (file place : ℕ) (kind : FormKind) : Type 0 where
  pub seen : Contents
  pub store : OpenStore
  pub stays : Stays x.before seen
  pub opened : IsOpenedAs x edges grammar seen store
  pub blames : BlamesOnTheWay store true seen file place kind

-- The store is closed: it has no work left.
abbrev pub closing_stage : Given → List ℕ → List ℕ → Contents → Type 0 → Stage
closing_stage x edges grammar after disk_rose =
    record {
      refuses = disk_causes disk_rose
          (λ file place kind. IsTrue x.tells → BlamesClosing x edges grammar file place kind);
      passed = IsTrue x.tells → (s : OpenStore) × IsOpenedAs x edges grammar after s × HasNoWork s.manifest;
    }

-- The store has the label that is shown, where one is.
abbrev pub label_stage : Bool → Contents → Option (List ℕ) → Stage
label_stage tells c show =
    record {
      refuses = record no_cause {
        unknown = (label : List ℕ) × (show ≡ Some label) × HasCurrentWith tells c (λ m. Contains m.labels label → ⊥);
      };
      passed = WhereCurrent tells c (λ m. IfSome show (λ label. Contains m.labels label));
    }

-- Everything is printed. What that is, is said by the text of the command.
abbrev pub printing_stage : Type 0 → Type 0 → (ℕ → ℕ → FormKind → Type 0) → Stage
printing_stage disk_rose out_rose bad = record { refuses = print_causes out_rose disk_rose bad; passed = Unit {0} }

-- a partition that is loaded for the printing isn't what this file spells
abbrev pub BlamesPrinting : Given → List ℕ → List ℕ → Contents → ℕ → ℕ → FormKind → Type 0
BlamesPrinting x edges grammar after file place kind = IsTrue x.tells → (s : OpenStore)
    × IsOpenedAs x edges grammar after s × IsBlamed s true after 0 (length s.manifest.parts) file place kind

-- the stages up to a store that is closed
abbrev pub closed_stages : Given → List ℕ → List ℕ → Contents → Rises → List Stage
closed_stages x edges grammar after rose =
    ready_stages x edges grammar rose ++ (closing_stage x edges grammar after rose.disk ∷ [])

-- The stages of a run: up to a store that is closed, the label that is shown, the printing.
abbrev pub run_stages : Given → List ℕ → List ℕ → Option (List ℕ) → Contents → Rises → List Stage
run_stages x edges grammar show after rose =
    closed_stages x edges grammar after rose
    ++ (label_stage x.tells after show
    ∷ printing_stage rose.disk rose.writes (BlamesPrinting x edges grammar after)
    ∷ [])
