-- An edge file is checked and copied.
use Rattle.std.specs.Prelude.{◌≡◌, ℕ, ◌<◌, ◌≤◌, ◌^◌, List, length, Option, Some}
use Rattle.std.specs.List.{sum}
use Rattle.graph_words.specs.declared.types.Edge.{Edge}
use Rattle.faults.specs.Reasons.{Causes, no_cause}
use Rattle.faults.specs.declared.kinds.InputFile.TheVariants.{Edges}
use Rattle.edge_text.specs.EdgesText.{ReadsEdges, edges_fault}
use Rattle.disk_model.specs.Disk.{Contents, Sets}
use Rattle.import_text.specs.Degrees.{AreDegrees}
use Rattle.import_text.specs.declared.copy.Copied.{Copied}

-- A text without a fault was read behind these names; it is the file where that is told, and all that the disk's file has where that is told.
-- It has this length, and its edges, by the numbers of the labels, begin so often at each vertex.
pub record CopiesBehind (names : List (List ℕ)) (told : Option (List ℕ)) (tells : Type 0) (file : ℕ)
    (old new : Contents) (len : ℕ) (degrees : List ℕ) (labels : List (List ℕ)) : Type 0 where
  pub text : List ℕ
  pub edges : List Edge
  pub reads : ReadsEdges 0 names text edges labels
  pub is_file : (f : List ℕ) → told ≡ Some f → text ≡ f
  pub stored : tells → Sets file text old new
  pub len_is : len ≡ length text
  pub degrees_are : AreDegrees edges degrees

abbrev pub CopiesFile : List (List ℕ) → Option (List ℕ) → Type 0 → ℕ → Contents → Contents → Copied → Type 0
CopiesFile names told tells file old new c = CopiesBehind names told tells file old new c.len c.degrees.items c.labels

-- there is a degree for each vertex, and their sum stays within 64 bits
pub record AreFew (c : Copied) : Type 0 where
  pub each : length c.degrees.items ≡ c.vertices
  pub vertices : c.vertices ≤ 16777216
  pub all : sum c.degrees.items < 2 ^ 64

-- why an edge file was not copied: the count of its name rose, or the disk's, or the file, where it is told, has
-- this first fault behind the names of which P speaks
abbrev pub copy_causes : Type 0 → Type 0 → (List (List ℕ) → Type 0) → Option (List ℕ) → Causes
copy_causes read_rose disk_rose P told =
    record no_cause {
      reads = read_rose;
      disk = disk_rose;
      text = λ file line kind. (file ≡ Edges) × ((text : List ℕ) (names : List (List ℕ)) → told ≡ Some text → P names
          → edges_fault 0 names text ≡ Some (record { line = line; kind = kind }));
    }
