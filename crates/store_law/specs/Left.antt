-- What stopped runs may leave, so that a run goes on from there.
use Rattle.std.specs.Prelude.{◌≡◌, ℕ, ◌<◌, ◌⊎◌, List, length, take, Contains, Ok}
use Rattle.graph_words.specs.declared.types.Born.{Born}
use Rattle.closing_machine.specs.State.{IsDirtyBy}
use Rattle.closing_machine.specs.Parts.{all_edges}
use Rattle.closing_machine.specs.Tells.{Tells}
use Rattle.closing_machine.specs.Holds.{IsClosingState}
use Rattle.disk_model.specs.Disk.{Contents}
use Rattle.dest_map.specs.Table.{counts_of}
use Rattle.pair_sched.specs.Marks.{joined_of, newest_of}
use Rattle.manifest_codec.specs.declared.types.Manifest.{Manifest}
use Rattle.manifest_codec.specs.Spelling.{FitsManifest}
use Rattle.manifest_switch.specs.declared.slot.Slot.{Slot}
use Rattle.manifest_switch.specs.declared.slot.Found.TheVariants.{At}
use Rattle.manifest_switch.specs.Slots.{IsBlank, current_of}
use Rattle.store_law.specs.Texts.{AreGood, Texts, edges_text, graph, names_of, normal}
use Rattle.store_law.specs.Listed.{AreListed, state_in}

-- the first so many bytes of a file are the text
pub record IsCopy (text file : List ℕ) (len : ℕ) : Type 0 where
  pub bytes : take len file ≡ text
  pub all : length text ≡ len

-- The manifest is one of the texts, and their copies stand in files 2 and 3.
pub record IsOfTexts (t : Texts) (c : Contents) (m : Manifest) : Type 0 where
  -- both texts can be read, so the names and the graph are those that a run reads
  pub good : AreGood t
  pub fits : FitsManifest m
  -- the copies are the texts, so that a run that goes on can compare them
  pub grammar_copy : IsCopy t.grammar (c 2) m.grammar_len
  pub edges_copy : IsCopy (edges_text t) (c 3) m.edges_len
  -- labels and vertices are those of the texts
  pub labels : m.labels ≡ names_of t
  pub vertices : m.vertices ≡ (graph t).vertices

-- With this manifest as the current one the contents are a store of the texts: its partitions and tables stand for
-- a state that holds of them. No slot is looked at.
pub record IsStoreOf (t : Texts) (c : Contents) (m : Manifest) (parts : List (List Born)) : Type 0 where
  pub texts : IsOfTexts t c m
  -- the partition files can be read
  pub listed : AreListed c m (normal t).fresh parts
  -- no edge is listed that isn't reached or twice, the given edges are there, and what is marked joined is joined
  pub holds : IsClosingState (normal t) (graph t) (state_in m parts)
  -- the tables are exact, so that no dirty pair is overlooked
  pub tells : Tells (counts_of m.map) (joined_of m.marks) (newest_of m.marks) (state_in m parts)

-- The contents are a store of the texts, by the manifest that is current.
pub record IsStore (t : Texts) (c : Contents) (m : Manifest) (parts : List (List Born)) : Type 0 where
  -- a run finds this manifest, and each open slot could be read
  pub slot : Slot
  pub current : current_of c ≡ Ok (At slot m)
  pub rest : IsStoreOf t c m parts

-- the manifest has no pair with work left
abbrev pub HasNoWork : Manifest → Type 0
HasNoWork m = (i j : ℕ) → i < length m.parts → j < length m.parts → IsDirtyBy (counts_of m.map) (joined_of m.marks) (newest_of m.marks) i j → ⊥

-- the contents are a store of the texts
abbrev pub HoldsStore : Texts → Contents → Type 0
HoldsStore t c = (m : Manifest) × (parts : List (List Born)) × IsStore t c m parts

-- and it lists this edge with this birth
abbrev pub ListsBorn : Texts → Born → Contents → Type 0
ListsBorn t b c = (m : Manifest) × (parts : List (List Born)) × IsStore t c m parts × Contains (all_edges parts) b

-- the contents are blank, or a store of the texts
abbrev pub IsLeft : Texts → Contents → Type 0
IsLeft t c = IsBlank c ⊎ HoldsStore t c
