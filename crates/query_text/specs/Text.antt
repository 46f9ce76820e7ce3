-- What is printed of a store, as bytes.
use Rattle.std.specs.Prelude.{ℕ, zero, suc, ◌+◌, ◌==◌, ◌&&◌, nat_lt, Bool, true, List, [], ◌∷◌, ◌++◌, length}
use Rattle.std.specs.Prelude.{filter, count_by, codes, decimal, slice_index_or, Option, None, Some}
use Rattle.std.specs.List.{flat_map}
use Rattle.graph_words.specs.declared.types.LabelId.{LabelId}
use Rattle.graph_words.specs.declared.types.Born.{Born}
use Rattle.edge_text.specs.Print.{edge_bytes}
use Rattle.dest_map.specs.Table.{counts_of}
use Rattle.pair_sched.specs.Marks.{joined_of, newest_of}
use Rattle.pair_sched.specs.Pick.{IsClean, IsLeastDirty}
use Rattle.manifest_codec.specs.declared.types.PartEntry.{PartEntry}
use Rattle.manifest_codec.specs.declared.types.Manifest.{Manifest}

-- ---- the head: vertices and partitions

abbrev pub vertices_line : ℕ → List ℕ
vertices_line n = codes "vertices " ++ (decimal n ++ 10 ∷ [])

-- a partition's number, its first vertex, the vertex behind its last one, and how many edges it has
abbrev pub part_line : ℕ → ℕ → ℕ → ℕ → List ℕ
part_line i lo hi edges = codes "part " ++ (decimal i ++ (32 ∷ (decimal lo ++ (32 ∷ (decimal hi ++ (32 ∷ (decimal edges ++ 10 ∷ [])))))))

-- f 0 + .. + f (k - 1)
abbrev pub sum_below : (ℕ → ℕ) → ℕ → ℕ
sum_below f zero = 0
sum_below f (suc k) = sum_below f k + f k

-- how many edges the manifest counts in partition i, into any partition
abbrev pub edges_in : Manifest → ℕ → ℕ
edges_in m i = sum_below (counts_of m.map i) (length m.parts)

-- a line for each of these partitions, of which the first is number i and begins at vertex lo
abbrev pub part_lines : Manifest → ℕ → ℕ → List PartEntry → List ℕ
part_lines m i lo [] = []
part_lines m i lo (p ∷ parts) = part_line i lo p.hi (edges_in m i) ++ part_lines m (suc i) p.hi parts

-- the vertices, and each partition
abbrev pub head_text : Manifest → List ℕ
head_text m = vertices_line m.vertices ++ part_lines m 0 0 m.parts

-- ---- the state

abbrev pub finished_line : List ℕ
finished_line = codes "finished" ++ 10 ∷ []

abbrev pub unfinished_line : ℕ → ℕ → List ℕ
unfinished_line i j = codes "unfinished " ++ (decimal i ++ (32 ∷ (decimal j ++ 10 ∷ [])))

-- the line of the manifest's state: no pair of partitions has work left, or which is the least that has
pub data IsStateLine (m : Manifest) : List ℕ → Type 0 where
  finished : IsClean (counts_of m.map) (joined_of m.marks) (newest_of m.marks) (length m.parts) → IsStateLine m finished_line
  unfinished : (i j : ℕ) → IsLeastDirty (counts_of m.map) (joined_of m.marks) (newest_of m.marks)
      (length m.parts) i j → IsStateLine m (unfinished_line i j)

-- ---- how many edges each label has

abbrev pub label_line : List ℕ → ℕ → List ℕ
label_line name count = codes "label " ++ (name ++ (32 ∷ (decimal count ++ 10 ∷ [])))

-- how many of the edges have label number l
abbrev pub label_count : List Born → ℕ → ℕ
label_count edges l = count_by (λ b. b.edge.label.0 == l) edges

-- a line for each of these names, of which the first has number l
abbrev pub label_lines : ℕ → List (List ℕ) → List Born → List ℕ
label_lines l [] edges = []
label_lines l (name ∷ names) edges = label_line name (label_count edges l) ++ label_lines (suc l) names edges

-- each named label, by its number
abbrev pub tally_text : List (List ℕ) → List Born → List ℕ
tally_text names edges = label_lines 0 names edges

-- ---- edges

-- a vertex is the one that is asked for, if one is
abbrev pub is_asked : Option ℕ → ℕ → Bool
is_asked None v = true
is_asked (Some u) v = v == u

-- the edge has the label, and the ends that are asked for
abbrev pub is_answer : LabelId → Option ℕ → Option ℕ → Born → Bool
is_answer label from to b = b.edge.label.0 == label.0 && (is_asked from b.edge.src.0 && is_asked to b.edge.dst.0)

abbrev pub answer_line : Born → List ℕ
answer_line b = codes "answer " ++ (decimal b.edge.src.0 ++ (32 ∷ (decimal b.edge.dst.0 ++ 10 ∷ [])))

-- the answers among the edges, in the order of these: of one label that is by source, then by destination
abbrev pub answers_in : LabelId → Option ℕ → Option ℕ → List Born → List Born
answers_in label from to edges = filter (is_answer label from to) edges

abbrev pub answers_text : LabelId → Option ℕ → Option ℕ → List Born → List ℕ
answers_text label from to edges = flat_map answer_line (answers_in label from to edges)

-- the label of the edge has a name
abbrev pub is_named : List (List ℕ) → Born → Bool
is_named names b = nat_lt b.edge.label.0 (length names)

-- source, destination, and the name of the label
abbrev pub dump_line : List (List ℕ) → Born → List ℕ
dump_line names b = edge_bytes b.edge.src.0 b.edge.dst.0 (slice_index_or names b.edge.label.0 [])

-- each edge whose label has a name, in the order of the edges: by source, label number and destination
abbrev pub dump_text : List (List ℕ) → List Born → List ℕ
dump_text names edges = flat_map (dump_line names) (filter (is_named names) edges)
