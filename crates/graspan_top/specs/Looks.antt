-- What the commands that only read a store answer and print.
use Rattle.std.specs.Prelude.{◌≡◌, ◌⊎◌, ℕ, ◌<◌, true, Bool, IsTrue, List, [], ◌∷◌, ◌++◌, length, slice_get}
use Rattle.std.specs.Prelude.{Contains, codes, decimal, Option, Some, Ok, IfSome}
use Rattle.graph_words.specs.declared.types.LabelId.{LabelId}
use Rattle.graph_words.specs.declared.types.Born.{Born}
use Rattle.graph_words.specs.declared.types.Rule.{Rule}
use Rattle.normal_law.specs.NormalForm.{normal_form}
use Rattle.closing_machine.specs.State.{place}
use Rattle.closing_machine.specs.Parts.{all_edges}
use Rattle.disk_model.specs.Disk.{Contents}
use Rattle.faults.specs.Reasons.{blames_none, no_cause}
use Rattle.faults.specs.declared.form_kind.FormKind.{FormKind}
use Rattle.partition_file.specs.Spelling.{FitsPart, SpellsPart}
use Rattle.dest_map.specs.Table.{counts_of}
use Rattle.pair_sched.specs.Marks.{joined_of, newest_of}
use Rattle.pair_sched.specs.Pick.{IsLeastDirty}
use Rattle.manifest_codec.specs.declared.types.Manifest.{Manifest}
use Rattle.manifest_switch.specs.declared.slot.Found.TheVariants.{Blank}
use Rattle.manifest_switch.specs.Slots.{current_of}
use Rattle.store_law.specs.Listed.{ends_of, expect_of, part_file, part_of}
use Rattle.store_law.specs.Left.{HasNoWork}
use Rattle.open_store.specs.Copy.{IsCopyRead}
use Rattle.open_store.specs.PartRead.{IsTold}
use Rattle.open_store.specs.Store.{IsHeld, OpenStore}
use Rattle.query_text.specs.Text.{IsStateLine, answers_in, answers_text, dump_text, head_text}
use Rattle.query_text.specs.Answered.{AreRead, IsBlamed, first_asked, wanted}
use Rattle.graspan_top.specs.Given.{HasCurrent, HasCurrentWith, WhereCurrent}
use Rattle.graspan_top.specs.Refusals.{Stage}
use Rattle.graspan_top.specs.Run.{IsFinishedStore, printing_stage, store_stage}

-- ---- the stages of the commands that only read

-- There is a store.
abbrev pub some_store_stage : Bool → Contents → Stage
some_store_stage tells c =
    record {
      refuses = record no_cause { none = IsTrue tells → current_of c ≡ Ok Blank };
      passed = IsTrue tells → (s : OpenStore) × IsHeld s c;
    }

-- the manifest has work left, least in this pair
abbrev pub IsUnfinished : Manifest → ℕ → ℕ → Type 0
IsUnfinished m i j = IsLeastDirty (counts_of m.map) (joined_of m.marks) (newest_of m.marks) (length m.parts) i j

-- The store has no work left.
abbrev pub done_stage : Bool → Contents → Stage
done_stage tells c =
    record {
      refuses = record no_cause { left = λ i j. HasCurrentWith tells c (λ m. IsUnfinished m i j) };
      passed = WhereCurrent tells c HasNoWork;
    }

-- the stages up to a store, and up to one without work left
abbrev pub found_stages : Bool → Contents → Type 0 → List Stage
found_stages tells c disk_rose = store_stage tells c disk_rose ∷ some_store_stage tells c ∷ []

abbrev pub finished_stages : Bool → Contents → Type 0 → List Stage
finished_stages tells c disk_rose = found_stages tells c disk_rose ++ (done_stage tells c ∷ [])

-- what is read of a store: partitions from one number on, and how many
pub record Wants : Type 0 where
  pub first : OpenStore → ℕ
  pub number : OpenStore → ℕ

abbrev pub wants_all : Wants
wants_all = record { first = λ s. 0; number = λ s. length s.manifest.parts }

abbrev pub wants_one : ℕ → Wants
wants_one u = record { first = λ s. first_asked s (Some u); number = λ s. wanted s (Some u) }

-- the first of the wanted partitions that is refused isn't what this file spells
abbrev pub BlamesLoading : Bool → Contents → Wants → ℕ → ℕ → FormKind → Type 0
BlamesLoading tells c w file place kind = IsTrue tells → (s : OpenStore)
    × IsHeld s c × IsBlamed s true c (w.first s) (w.number s) file place kind

-- ---- parts

-- the text of the current manifest and its state
pub record IsPartsText (c : Contents) (text : List ℕ) : Type 0 where
  pub manifest : Manifest
  pub current : HasCurrent c manifest
  pub state : List ℕ
  pub state_is : IsStateLine manifest state
  pub printed : text ≡ head_text manifest ++ state

-- it is printed as it is, finished or not
abbrev pub parts_stages : Bool → Contents → Type 0 → Type 0 → List Stage
parts_stages tells c disk_rose out_rose = found_stages tells c disk_rose ++ (printing_stage ⊥ out_rose blames_none ∷ [])

-- ---- dump

-- each listed edge of a store without work left, whose label has a name
pub record IsDumpText (c : Contents) (text : List ℕ) : Type 0 where
  pub manifest : Manifest
  pub parts : List (List Born)
  pub end : IsFinishedStore c manifest parts
  pub printed : text ≡ dump_text manifest.labels (all_edges parts)

-- the lines of the first partitions of a store without work left, as far as these can be read
pub record IsDumpFront (c : Contents) (text : List ℕ) : Type 0 where
  pub store : OpenStore
  pub held : IsHeld store c
  pub done : HasNoWork store.manifest
  pub read : List (List Born)
  pub are_read : AreRead store true c 0 read
  pub printed : text ≡ dump_text store.manifest.labels (all_edges read)

abbrev pub dump_stages : Bool → Contents → Type 0 → Type 0 → List Stage
dump_stages tells c disk_rose out_rose =
    finished_stages tells c disk_rose ++ (printing_stage disk_rose out_rose (BlamesLoading tells c wants_all) ∷ [])

-- ---- query

-- The contents hold a store without work left, and these are the edges of the partition that holds the vertex, of
-- which the manifest tells.
pub record IsPartEnd (c : Contents) (m : Manifest) (u : ℕ) (edges : List Born) : Type 0 where
  pub current : HasCurrent c m
  pub rules : List Rule
  pub grammar : IsCopyRead m (c 2) rules
  pub done : HasNoWork m
  pub spells : SpellsPart (c (part_file m (place (ends_of m) u))) (part_of m (place (ends_of m) u) edges)
  pub fits : FitsPart (expect_of m (normal_form rules).fresh (place (ends_of m) u)) (part_of m (place (ends_of m) u) edges)
  pub told : IsTold m (place (ends_of m) u) edges

abbrev pub count_line : ℕ → List ℕ
count_line n = codes "count " ++ (decimal n ++ 10 ∷ [])

-- The text of a query: the answers of the label from the vertex, and to the other one where it is asked for, and
-- their number. They stand in the partition that holds the vertex.
pub record IsQueryText (c : Contents) (label : List ℕ) (from : ℕ) (to : Option ℕ) (text : List ℕ) : Type 0 where
  pub manifest : Manifest
  pub edges : List Born
  pub end : IsPartEnd c manifest from edges
  pub number : LabelId
  pub is_number : slice_get manifest.labels number.0 ≡ Some label
  pub printed : text ≡ answers_text number (Some from) to edges ++ count_line (length (answers_in number (Some from) to edges))

-- the vertices that are asked for are there
pub record AreVerticesOf (m : Manifest) (from : ℕ) (to : Option ℕ) : Type 0 where
  pub has_from : from < m.vertices
  pub has_to : IfSome to (λ v. v < m.vertices)

-- The store has the label and the vertices that are asked for.
abbrev pub known_stage : Bool → Contents → List ℕ → ℕ → Option ℕ → Stage
known_stage tells c label from to =
    record {
      refuses = record no_cause {
        unknown = HasCurrentWith tells c (λ m. (Contains m.labels label → ⊥) ⊎ (AreVerticesOf m from to → ⊥));
      };
      passed = WhereCurrent tells c (λ m. Contains m.labels label × AreVerticesOf m from to);
    }

abbrev pub query_stages : Bool → Contents → List ℕ → ℕ → Option ℕ → Type 0 → Type 0 → List Stage
query_stages tells c label from to disk_rose out_rose =
    finished_stages tells c disk_rose
    ++ (known_stage tells c label from to
    ∷ printing_stage disk_rose out_rose (BlamesLoading tells c (wants_one from))
    ∷ [])
