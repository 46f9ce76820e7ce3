-- A copy is read again for one partition.
use Rattle.std.specs.Prelude.{◌≡◌, ℕ, ◌≤◌, ◌↔◌, List, length, Contains}
use Rattle.graph_words.specs.declared.types.Edge.{Edge}
use Rattle.graph_words.specs.Reach.{graph_with}
use Rattle.normal_law.specs.Closure.{Normal}
use Rattle.faults.specs.declared.form_kind.FormKind.TheVariants.{BadText}
use Rattle.edge_text.specs.declared.edges.EdgesFault.{EdgesFault}
use Rattle.edge_text.specs.declared.edges.EdgesFault.TheVariants as edges
use Rattle.edge_text.specs.EdgesText.{ReadsEdges, edges_of, vertex_count_of}
use Rattle.partition_file.specs.declared.types.Expect.{Expect}
use Rattle.partition_file.specs.Spelling.{Part}
use Rattle.store_fault.specs.declared.fault.StoreFault.{StoreFault}
use Rattle.store_fault.specs.declared.fault.StoreFault.TheVariants.{BadStore, DiskFault, NoMemory}
use Rattle.import_text.specs.Given.{AreGiven, IsAboveIn}
use Rattle.import_text.specs.Gathered.{Gathered, GathersEdges}

-- the fault of the copy in this file that was read with this fault
abbrev pub copy_fault : ℕ → EdgesFault → StoreFault
copy_fault file edges.ReadFailed = DiskFault
copy_fault file (edges.Text line kind) = BadStore file 0 BadText
copy_fault file edges.NoMemory = NoMemory

-- A text without a fault was read behind these names, which is the file where that is told. It has this length, and what its edges give was added.
pub record GathersFile (n : Normal) (names : List (List ℕ)) (tells : Type 0) (file : List ℕ) (len : ℕ) (old new : Gathered) : Type 0 where
  pub text : List ℕ
  pub found : List Edge
  pub reads : ReadsEdges 0 names text found new.reader.table
  pub is_file : tells → text ≡ file
  pub len_is : length text ≡ len
  pub gathers : GathersEdges n found old new

-- a text of this length without a fault, whose labels all have numbers and whose vertices are below a number
pub record IsGoodCopy (labels : List (List ℕ)) (len vertices : ℕ) (text : List ℕ) : Type 0 where
  pub reads : ReadsEdges 0 labels text (edges_of labels text) labels
  pub len_is : length text ≡ len
  pub few : vertex_count_of (edges_of labels text) ≤ vertices

-- a good copy was read, which is the file where that is told, and just what it gives in the interval is listed
pub record GathersCopy (n : Normal) (labels : List (List ℕ)) (len vertices lo hi : ℕ) (tells : Type 0)
    (file : List ℕ) (given : List Edge) : Type 0 where
  pub text : List ℕ
  pub good : IsGoodCopy labels len vertices text
  pub is_file : tells → text ≡ file
  pub all : (e : Edge) → Contains given e ↔ IsAboveIn n lo hi (edges_of labels text) e

-- a good copy was read, which is the file where that is told, and the edges are the given ones of the interval
pub record GivesPart (n : Normal) (labels : List (List ℕ)) (len vertices lo hi : ℕ) (tells : Type 0) (file : List ℕ) (p : Part) : Type 0 where
  pub text : List ℕ
  pub good : IsGoodCopy labels len vertices text
  pub is_file : tells → text ≡ file
  pub given : AreGiven n (graph_with vertices (edges_of labels text)) lo hi p.edges

-- what a partition has to keep with which a closing begins
abbrev pub expect_given : ℕ → ℕ → ℕ → ℕ → ℕ → Expect
expect_given lo hi vertices named fresh = record { lo = lo; hi = hi; vertices = vertices; round = 1; named = named; fresh = fresh }
