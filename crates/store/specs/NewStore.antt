-- How an import makes a store: the texts are copied, and then the partitions are put, one after the other.
use Rattle.std.specs.Prelude.{◌≡◌, ℕ, ◌+◌, ◌*◌, ◌<◌, ◌≤◌, List, [], length, map, take, Option, Some, All, slice_index_or}
use Rattle.graph_words.specs.declared.types.Born.{Born}
use Rattle.graph_words.specs.declared.types.Edge.{Edge}
use Rattle.graph_words.specs.Reach.{Graph, graph_with}
use Rattle.edge_text.specs.EdgesText.{ReadsEdges, edges_of}
use Rattle.grammar_norm.specs.GrammarText.{ReadsGrammar, grammar_names}
use Rattle.normal_law.specs.NormalForm.{normal_form}
use Rattle.closing_machine.specs.Machine.{high, low}
use Rattle.closing_machine.specs.Parts.{all_edges}
use Rattle.disk_model.specs.Disk.{Contents}
use Rattle.intervals.specs.Bounds.{IsCut, LiesIn, vertices_of}
use Rattle.partition_file.specs.Spelling.{newest_format, FitsPart, Part, spelling}
use Rattle.dest_map.specs.Counts.{IsCountsOf}
use Rattle.dest_map.specs.Table.{counts_of}
use Rattle.import_text.specs.Copy.{AreFew}
use Rattle.import_text.specs.Degrees.{AreDegrees}
use Rattle.import_text.specs.Given.{AreGiven}
use Rattle.import_text.specs.GivenPart.{IsGoodCopy, expect_given}
use Rattle.label_table.specs.Names.{IsTable}
use Rattle.pair_sched.specs.Marks.{joined_of, newest_of}
use Rattle.partition_file.specs.declared.types.Expect.{Expect}
use Rattle.manifest_codec.specs.declared.types.Manifest.{Manifest}
use Rattle.manifest_codec.specs.Spelling.{AreMarks, FitsManifest}
use Rattle.store_law.specs.Texts.{AreGood, graph, names_of}
use Rattle.store_law.specs.Imported.{IsFreshStore}
use Rattle.store_law.specs.Listed.{ends_of}
use Rattle.store.specs.Import.{texts_of}
use Rattle.store.specs.declared.prepared.Prepared.{Prepared}
use Rattle.store.specs.declared.source.Source.{Source}
use Rattle.store.specs.declared.tables.Tables.{Tables}

-- a step that leaves both slots as they were
pub record IsBeside (old new : Contents) : Type 0 where
  pub first : new 0 ≡ old 0
  pub second : new 1 ≡ old 1

-- Both texts were read. That of the edges is the inputs' file where that is told, and both stand in files 2 and 3 where the disk tells its contents.
pub record IsSource (grammar : List ℕ) (told : Option (List ℕ)) (tells : Type 0) (c : Contents) (s : Source) : Type 0 where
  pub names : List (List ℕ)
  pub grammar_reads : ReadsGrammar grammar s.normal names
  pub grammar_len : s.grammar_len ≡ length grammar
  pub text : List ℕ
  pub edges : List Edge
  pub reads : ReadsEdges 0 (grammar_names grammar) text edges s.copied.labels
  pub is_file : (file : List ℕ) → told ≡ Some file → text ≡ file
  pub len_is : s.copied.len ≡ length text
  pub copy_file : s.copied.file ≡ 3
  pub degrees_are : AreDegrees edges s.copied.degrees.items
  pub few : AreFew s.copied
  pub grammar_copy : tells → c 2 ≡ grammar
  pub edges_copy : tells → c 3 ≡ text

-- The intervals cut the vertices of the texts, and the copy of the edges is still the one that was made.
pub record MayPutFirst (s : Source) (ends : List ℕ) (tells : Type 0) (c : Contents) : Type 0 where
  pub copy_file : s.copied.file ≡ 3
  pub vertices : s.copied.vertices ≤ 16777216
  pub rules : All (λ r. r.left.0 < length s.copied.labels) s.normal
  pub good : tells → IsGoodCopy s.copied.labels s.copied.len s.copied.vertices (c 3)
  pub cut : IsCut ends
  pub whole : vertices_of ends ≡ s.copied.vertices
  pub few : length ends ≤ 256

-- the copies of the texts are as before
pub record SameTexts (old new : Contents) : Type 0 where
  pub grammar : new 2 ≡ old 2
  pub edges : new 3 ≡ old 3

-- partition i with these edges
abbrev pub part_at : List ℕ → ℕ → List Born → Part
part_at ends i edges = record { lo = low ends i; hi = high ends i; edges = edges }

-- what the file of partition i has to keep
abbrev pub expect_at : Source → List ℕ → ℕ → Expect
expect_at s ends i = expect_given (low ends i) (high ends i) s.copied.vertices (length s.copied.labels) (normal_form s.normal).fresh

-- the graph of the copy
abbrev pub graph_in : Source → Contents → Graph
graph_in s c = graph_with s.copied.vertices (edges_of s.copied.labels (c 3))

-- the file of partition i spells these edges, and they are just the given ones of the interval
pub record IsPut (s : Source) (ends : List ℕ) (c : Contents) (i : ℕ) (edges : List Born) : Type 0 where
  pub spelled : c (4 + i) ≡ spelling newest_format (part_at ends i edges)
  pub given : AreGiven (normal_form s.normal) (graph_in s c) (low ends i) (high ends i) edges

-- The first i partitions were made and put: the tables list them with their files and tell their counts, and have no count for the others yet.
pub record IsBuilt (s : Source) (ends : List ℕ) (tells : Type 0) (c : Contents) (i : ℕ) (t : Tables) : Type 0 where
  pub parts : List (List Born)
  pub made : length parts ≡ i
  pub size : length t.parts ≡ i
  pub his : (k : ℕ) → k < i → slice_index_or (map (λ p. p.hi) t.parts) k 0 ≡ high ends k
  pub files : (k : ℕ) → k < i → slice_index_or (map (λ p. p.file) t.parts) k 0 ≡ 4 + k
  pub fits : (k : ℕ) → k < i → FitsPart (expect_at s ends k) (part_at ends k (slice_index_or parts k []))
  pub counts : IsCountsOf ends (all_edges parts) t.map
  pub no_more : (a b : ℕ) → i ≤ a → counts_of t.map a b ≡ 0
  pub put : tells → (k : ℕ) → k < i → IsPut s ends c k (slice_index_or parts k [])

-- the first manifest, of these tables
pub record IsFirst (s : Source) (t : Tables) (m : Manifest) : Type 0 where
  pub generation : m.generation ≡ 0
  pub round : m.round ≡ 1
  pub vertices : m.vertices ≡ s.copied.vertices
  pub grammar_len : m.grammar_len ≡ s.grammar_len
  pub edges_len : m.edges_len ≡ s.copied.len
  pub first_len : m.first_len ≡ s.copied.len
  pub labels : m.labels ≡ s.copied.labels
  pub table : IsTable m.labels
  pub parts : m.parts ≡ t.parts
  pub map_is : m.map ≡ t.map
  pub rows : length t.map.1 ≡ t.map.0 * t.map.0
  pub marks : AreMarks t.map.0 m.marks
  pub joined : (i j : ℕ) → joined_of m.marks i j ≡ 0
  pub newest : (i : ℕ) → newest_of m.marks i ≡ 0

-- All is on the disk but the manifest: it keeps the rules of its format, and with it the contents are a fresh store
-- of the texts, where the disk tells them.
pub record IsPrepared (grammar : List ℕ) (told : Option (List ℕ)) (limit : ℕ) (tells : Type 0) (c : Contents) (p : Prepared) : Type 0 where
  pub fits : FitsManifest p.manifest
  pub first : p.manifest.generation ≡ 0
  pub names : List (List ℕ)
  pub reads : ReadsGrammar grammar p.normal names
  pub begins : take (length names) p.manifest.labels ≡ names
  pub grammar_len : p.manifest.grammar_len ≡ length grammar
  pub grammar_copy : tells → c 2 ≡ grammar
  pub ends : p.intervals ≡ ends_of p.manifest
  pub text : List ℕ
  pub is_file : (file : List ℕ) → told ≡ Some file → text ≡ file
  pub good : AreGood (texts_of grammar text)
  pub labels : p.manifest.labels ≡ names_of (texts_of grammar text)
  pub vertices : p.manifest.vertices ≡ (graph (texts_of grammar text)).vertices
  pub edges_len : p.manifest.edges_len ≡ length text
  pub parts : List (List Born)
  pub fresh : tells → IsFreshStore (texts_of grammar text) limit c p.manifest parts

-- an edge from interval i to some interval
pub record IsCounted (ends : List ℕ) (i : ℕ) (b : Born) : Type 0 where
  pub source : LiesIn ends i b.edge.src.0
  pub destination : b.edge.dst.0 < vertices_of ends
