-- Which manifests keep the rules, and their spellings, one in each version.
use Rattle.std.specs.Prelude.{◌≡◌, ◌≢◌, ℕ, ◌+◌, ◌*◌, ◌^◌, ◌<◌, ◌≤◌, take, List, [], ◌∷◌, ◌++◌, length, sum, slice_index_or, All, AllPairs}
use Rattle.std.specs.List.{flat_map}
use Rattle.byteorder.specs.Endian.{little_bytes}
use Rattle.label_table.specs.Names.{IsTable}
use Rattle.dest_map.specs.Table.{counts_of}
use Rattle.pair_sched.specs.Marks.{joined_of, newest_of}
use Rattle.manifest_codec.specs.declared.types.PartEntry.{PartEntry}
use Rattle.manifest_codec.specs.declared.types.Version.{Version}
use Rattle.manifest_codec.specs.declared.types.Version.TheVariants.{First}
use Rattle.graph_words.specs.declared.limits.TheConstants.{MOST_LABEL_BYTES}
use Rattle.manifest_codec.specs.declared.types.Head.{Head}
use Rattle.manifest_codec.specs.declared.types.Manifest.{Manifest}
use Rattle.manifest_codec.specs.Rules.{widths, magic_of}

-- the numbers in front
abbrev pub head_of : Manifest → Head
head_of m = record {
  generation = m.generation;
  round = m.round;
  vertices = m.vertices;
  grammar_len = m.grammar_len;
  edges_len = m.edges_len;
  first_len = m.first_len;
}

-- the greatest birth of each partition
abbrev pub newest_in : Manifest → List ℕ
newest_in m = m.marks.2

-- ---- the spelling

-- in the first version the edges are one file's
abbrev pub head_bytes : Version → Head → List ℕ
head_bytes First h = little_bytes 4 (magic_of First) ++ little_bytes 1 h.generation ++ little_bytes 8 h.round
    ++ little_bytes 4 h.vertices ++ little_bytes 8 h.grammar_len ++ little_bytes 8 h.edges_len

-- a length, and as many bytes
abbrev pub label_bytes : List ℕ → List ℕ
label_bytes name = length name ∷ name

abbrev pub part_bytes : PartEntry → ℕ → List ℕ
part_bytes p newest = little_bytes 4 p.hi ++ little_bytes 4 p.file ++ little_bytes 8 newest

-- each partition with its newest birth
abbrev pub parts_bytes : List PartEntry → List ℕ → List ℕ
parts_bytes (p ∷ parts) (n ∷ newest) = part_bytes p n ++ parts_bytes parts newest
parts_bytes _ _ = []

-- the one spelling of a manifest in a version
abbrev pub spelling : Version → Manifest → List ℕ
spelling v m =
    head_bytes v (head_of m)
    ++ little_bytes 2 (length m.labels) ++ flat_map label_bytes m.labels
    ++ little_bytes 2 (length m.parts) ++ parts_bytes m.parts (newest_in m)
    ++ flat_map (little_bytes 8) m.map.1
    ++ flat_map (little_bytes 8) m.marks.1

-- the first n bytes are the spelling of the manifest in some version
abbrev pub SpellsManifest : List ℕ → Manifest → ℕ → Type 0
SpellsManifest bytes m n = (v : Version) × (n ≤ length bytes) × (take n bytes ≡ spelling v m)

-- how many bytes a spelling has at the most
abbrev pub longest : ℕ
longest = 1052709 + 1000 * (1 + MOST_LABEL_BYTES)

-- ---- the rules

-- from low on the partitions cover the vertices below top, one behind the other, and none is empty
abbrev pub Cover : ℕ → ℕ → List PartEntry → Type 0
Cover top low [] = low ≡ top
Cover top low (p ∷ parts) = (low < p.hi) × Cover top p.hi parts

-- how many vertices partition i has
abbrev pub width : Manifest → ℕ → ℕ
width m i = slice_index_or (widths 0 m.parts) i 0

-- a map of k partitions: k rows of k counts
pub record IsMap (k : ℕ) (map : ℕ × List ℕ) : Type 0 where
  pub size : map.0 ≡ k
  pub rows : length map.1 ≡ k * k

-- marks of k partitions: k rows of k joined marks, and k newest births
pub record AreMarks (k : ℕ) (marks : ℕ × List ℕ × List ℕ) : Type 0 where
  pub size : marks.0 ≡ k
  pub rows : length marks.1 ≡ k * k
  pub births : length marks.2 ≡ k

-- a manifest keeps the rules
pub record FitsManifest (m : Manifest) : Type 0 where
  pub generation : m.generation ≤ 2
  pub round : 1 ≤ m.round
  pub rounds : m.round < 2 ^ 64
  pub vertices : m.vertices ≤ 16777216
  pub grammar_len : m.grammar_len ≤ 16777216
  pub edges_len : m.edges_len ≤ 1099511627776
  -- the newest version can tell only this
  pub first_len : m.first_len ≡ m.edges_len
  pub labels : IsTable m.labels
  pub few : length m.parts ≤ 256
  pub cover : Cover m.vertices 0 m.parts
  pub files : All (λ p. (4 ≤ p.file) × (p.file ≤ 1023)) m.parts
  pub files_once : AllPairs (λ p q. p.file ≢ q.file) m.parts
  pub map : IsMap (length m.parts) m.map
  pub counts : (i j : ℕ) → i < length m.parts → j < length m.parts → counts_of m.map i j ≤ width m i * width m j * 63000
  pub reached : m.round ≤ 1 + sum m.map.1
  pub marks : AreMarks (length m.parts) m.marks
  pub newest : (i : ℕ) → i < length m.parts → newest_of m.marks i < m.round
  pub joined : (i j : ℕ) → i < length m.parts → j < length m.parts → joined_of m.marks i j ≤ m.round
