-- The edges that the contents of a disk list, and when they are exactly the closure.
use Rattle.std.specs.Prelude.{◌≡◌, ℕ, ◌<◌, ◌⊎◌, ◌==◌, ◌&&◌, Bool, List, [], length, map, slice_index_or, filter, Ok}
use Rattle.graph_words.specs.declared.types.Vertex.{Vertex}
use Rattle.graph_words.specs.declared.types.LabelId.{LabelId}
use Rattle.graph_words.specs.declared.types.Edge.{Edge}
use Rattle.graph_words.specs.declared.types.Born.{Born}
use Rattle.graph_words.specs.Reach.{Graph, Reach, edge}
use Rattle.normal_law.specs.Closure.{Normal, IsLabelOf}
use Rattle.closing_machine.specs.State.{State}
use Rattle.closing_machine.specs.Machine.{low, high}
use Rattle.closing_machine.specs.Parts.{all_edges, state_of}
use Rattle.disk_model.specs.Disk.{Contents}
use Rattle.partition_file.specs.declared.types.Expect.{Expect}
use Rattle.partition_file.specs.Spelling.{Part, FitsPart, SpellsPart}
use Rattle.pair_sched.specs.Marks.{joined_of}
use Rattle.manifest_codec.specs.declared.types.Manifest.{Manifest}
use Rattle.manifest_switch.specs.declared.slot.Slot.{Slot}
use Rattle.manifest_switch.specs.declared.slot.Found.TheVariants.{At}
use Rattle.manifest_switch.specs.Slots.{current_of}
use Rattle.store_law.specs.Texts.{Texts, graph, normal}

-- where the partitions of a manifest end
abbrev pub ends_of : Manifest → List ℕ
ends_of m = map (λ p. p.hi) m.parts

-- the file of partition i
abbrev pub part_file : Manifest → ℕ → ℕ
part_file m i = slice_index_or (map (λ p. p.file) m.parts) i 0

-- what the file of partition i has to keep, where the grammar has so many fresh labels
abbrev pub expect_of : Manifest → ℕ → ℕ → Expect
expect_of m fresh i =
    record {
      lo = low (ends_of m) i;
      hi = high (ends_of m) i;
      vertices = m.vertices;
      round = m.round;
      named = length m.labels;
      fresh = fresh;
    }

-- partition i with these edges
abbrev pub part_of : Manifest → ℕ → List Born → Part
part_of m i edges = record { lo = low (ends_of m) i; hi = high (ends_of m) i; edges = edges }

-- the files that the manifest names are these partitions, each in its format
pub record AreListed (c : Contents) (m : Manifest) (fresh : ℕ) (parts : List (List Born)) : Type 0 where
  pub size : length parts ≡ length m.parts
  pub spells : (i : ℕ) → i < length m.parts → SpellsPart (c (part_file m i)) (part_of m i (slice_index_or parts i []))
  pub fits : (i : ℕ) → i < length m.parts → FitsPart (expect_of m fresh i) (part_of m i (slice_index_or parts i []))

-- the state of the closing that a manifest and its partitions stand for
abbrev pub state_in : Manifest → List (List Born) → State
state_in m parts = state_of (ends_of m) parts m.round (joined_of m.marks)

abbrev pub is_same : Edge → Edge → Bool
is_same x y = x.src.0 == y.src.0 && (x.label.0 == y.label.0 && x.dst.0 == y.dst.0)

-- how often the partitions list an edge
abbrev pub times : List (List Born) → Edge → ℕ
times parts e = length (filter (λ b. is_same b.edge e) (all_edges parts))

-- (u, l, v) is listed once if some path from u to v spells a word that l's meaning yields, and else never
abbrev pub Lists : Normal → Graph → List (List Born) → Vertex → LabelId → Vertex → Type 0
Lists n g parts u l v =
    ((times parts (edge u l v) ≡ 1) × IsLabelOf n l × Reach g n.rules u (n.stands l) v)
    ⊎ ((times parts (edge u l v) ≡ 0) × ((IsLabelOf n l × Reach g n.rules u (n.stands l) v) → ⊥))

-- The contents list exactly the closure of the texts, each edge once, in the partition files that the current manifest names.
pub record AreExact (t : Texts) (c : Contents) : Type 0 where
  pub slot : Slot
  pub manifest : Manifest
  pub parts : List (List Born)
  pub current : current_of c ≡ Ok (At slot manifest)
  pub listed : AreListed c manifest (normal t).fresh parts
  pub exact : (u v : Vertex) (l : LabelId) → Lists (normal t) (graph t) parts u l v
