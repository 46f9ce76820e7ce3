-- How a step makes the next manifest: a pair is loaded, run and marked, and what changed of it is put.
use Rattle.std.specs.Prelude.{◌≡◌, ◌≢◌, ◌⊎◌, ◌^◌, ◌*◌, ◌==◌, slice_set, slice_index_or, ◌&&◌, ◌+◌, ◌<◌, ◌≤◌, ℕ}
use Rattle.std.specs.Prelude.{Bool, true, IsTrue, List, length, map, All, AllPairs, Option, Some, None}
use Rattle.std.specs.Prelude.{if◌then◌else◌}
use Rattle.graph_words.specs.declared.types.Born.{Born}
use Rattle.normal_law.specs.Closure.{Normal}
use Rattle.normal_law.specs.NormalForm.{normal_form}
use Rattle.closing_machine.specs.State.{greatest_birth}
use Rattle.closing_machine.specs.Machine.{is_among}
use Rattle.closing_machine.specs.PairRun.{IsPairRun}
use Rattle.disk_model.specs.Disk.{Contents}
use Rattle.faults.specs.declared.form_kind.FormKind.{FormKind}
use Rattle.partition_file.specs.Spelling.{FitsPart, IsPart, Part, SpellsPart}
use Rattle.dest_map.specs.Table.{counts_of}
use Rattle.pair_sched.specs.Marks.{joined_of, newest_of}
use Rattle.manifest_codec.specs.declared.types.Manifest.{Manifest}
use Rattle.manifest_codec.specs.declared.types.PartEntry.{PartEntry}
use Rattle.manifest_codec.specs.Spelling.{AreMarks, IsMap}
use Rattle.manifest_codec.specs.Same.{AreOfSameTexts}
use Rattle.manifest_switch.specs.Slots.{next_generation}
use Rattle.store_law.specs.Listed.{ends_of, part_file, part_of}
use Rattle.row_table.specs.Loaded.{loaded_of}
use Rattle.superstep.specs.Room.{IsInFormat}
use Rattle.open_store.specs.PartRead.{IsRefused, IsTold, count_into}
use Rattle.open_store.specs.Store.{OpenStore, expect_in}

-- p is a partition a of the store: it keeps the rules of its format, and the manifest tells of it
pub record IsPartIn (s : OpenStore) (a : ℕ) (p : Part) : Type 0 where
  pub there : a < length s.manifest.parts
  pub part_is : p ≡ part_of s.manifest a p.edges
  pub fits : FitsPart (expect_in s a) (part_of s.manifest a p.edges)
  pub told : IsTold s.manifest a p.edges

-- the mark is the least of the ordered pairs among partitions i and j of which an edge leads from the one to the other, as the manifest tells
pub record IsLeastMarkIn (m : Manifest) (i j mark : ℕ) : Type 0 where
  pub first : ℕ
  pub second : ℕ
  pub first_among : is_among i j first ≡ true
  pub second_among : is_among i j second ≡ true
  pub some : 0 < counts_of m.map first second
  pub is : mark ≡ joined_of m.marks first second
  pub least : (a b : ℕ) → is_among i j a ≡ true → is_among i j b ≡ true → 0 < counts_of m.map a b → mark ≤ joined_of m.marks a b

-- the one partition, or the two of which the first is the low one
abbrev pub ArePairIn : OpenStore → ℕ → ℕ → Part → Option Part → Type 0
ArePairIn s low high p None = (low ≡ high) × IsPartIn s low p
ArePairIn s low high p (Some q) = (low < high) × IsPartIn s low p × IsPartIn s high q

-- and their files spell them
abbrev pub AreSpelled : OpenStore → Contents → ℕ → ℕ → Part → Option Part → Type 0
AreSpelled s c low high p None = SpellsPart (c (part_file s.manifest low)) p
AreSpelled s c low high p (Some q) = SpellsPart (c (part_file s.manifest low)) p × SpellsPart (c (part_file s.manifest high)) q

abbrev pub IfHigh : Option Part → (Part → Type 0) → Type 0
IfHigh None P = Unit {0}
IfHigh (Some q) P = P q

-- k rounds on the partitions p and q made p' and q', and a further one adds nothing. The first goes over joins of
-- which an edge is born at or after since
pub record AreRun (n : Normal) (since round : ℕ) (p : Part) (q : Option Part) (p' : Part) (q' : Option Part) (k : ℕ) : Type 0 where
  pub low_is : (loaded_of p' q').low ≡ (loaded_of p q).low
  pub high_is : (loaded_of p' q').high ≡ (loaded_of p q).high
  pub low_part : IsPart p'
  pub high_part : IfHigh q' IsPart
  pub run : (budget : ℕ) → length (loaded_of p' q').edges ≤ budget
      → IsPairRun n (loaded_of p q).edges since round budget true k (loaded_of p' q').edges
  pub format : All IsInFormat (loaded_of p' q').edges
  pub room : round + k < 2 ^ 64

-- the manifest with the next generation and a later round, in which the pairs among i and j are marked with it
pub record IsMarked (m : Manifest) (i j k : ℕ) (next : Manifest) : Type 0 where
  pub generation : next.generation ≡ next_generation m.generation
  pub round : next.round ≡ m.round + k
  pub same : AreOfSameTexts m next
  pub parts : next.parts ≡ m.parts
  pub map_is : next.map ≡ m.map
  pub size : next.marks.0 ≡ m.marks.0
  pub rows : length next.marks.1 ≡ next.marks.0 * next.marks.0
  pub joined : (a b : ℕ) → joined_of next.marks a b ≡ (if is_among i j a && is_among i j b then m.round + k else joined_of m.marks a b)
  pub newest : next.marks.2 ≡ m.marks.2

-- partition i has another file
pub record Refiles (i file : ℕ) (before after : List PartEntry) : Type 0 where
  pub his : map (λ p. p.hi) after ≡ map (λ p. p.hi) before
  pub files : map (λ p. p.file) after ≡ slice_set (map (λ p. p.file) before) i file

-- partition i or j is blamed, whose file, as read, is no file of it
pub record BlamesPair (s : OpenStore) (tells : Bool) (seen : Contents) (i j file place : ℕ) (kind : FormKind) : Type 0 where
  pub partition : ℕ
  pub among : is_among i j partition ≡ true
  pub file_is : file ≡ part_file s.manifest partition
  pub refused : IsTrue tells → IsRefused s partition (seen file) place kind

-- the tables have a row for each partition, and no file is named twice
pub record IsWell (m : Manifest) : Type 0 where
  pub few : length m.parts ≤ 256
  pub files : All (λ p. (4 ≤ p.file) × (p.file ≤ 1023)) m.parts
  pub once : AllPairs (λ p q. p.file ≢ q.file) m.parts
  pub map : IsMap (length m.parts) m.map
  pub marks : AreMarks (length m.parts) m.marks

-- in the manifest that is made partition a is in another file, with another row of counts and another newest birth
pub record Replaces (before : Manifest) (a file : ℕ) (row : List ℕ) (newest : ℕ) (after : Manifest) : Type 0 where
  pub generation : after.generation ≡ before.generation
  pub round_is : after.round ≡ before.round
  pub same : AreOfSameTexts before after
  pub refiles : Refiles a file before.parts after.parts
  pub map_size : after.map.0 ≡ before.map.0
  pub map_rows : length after.map.1 ≡ before.map.0 * before.map.0
  pub counts : (b : ℕ) → b < before.map.0 → counts_of after.map a b ≡ slice_index_or row b 0
  pub other_counts : (x b : ℕ) → x ≢ a → counts_of after.map x b ≡ counts_of before.map x b
  pub marks_size : after.marks.0 ≡ before.marks.0
  pub joined : after.marks.1 ≡ before.marks.1
  pub births : length after.marks.2 ≡ length before.marks.2
  pub newest_is : (x : ℕ) → newest_of after.marks x ≡ (if x == a then newest else newest_of before.marks x)

-- the slots, the copies of the texts, and the files that the manifest names are as before
pub record Spares (m : Manifest) (old new : Contents) : Type 0 where
  pub below : (f : ℕ) → f < 4 → new f ≡ old f
  pub parts : (i : ℕ) → i < length m.parts → new (part_file m i) ≡ old (part_file m i)

-- in the manifest that is made partition a has other edges, and all others are as before
pub record TakesOn (round a : ℕ) (edges : List Born) (before after : Manifest) : Type 0 where
  pub generation : after.generation ≡ before.generation
  pub round_is : after.round ≡ before.round
  pub same : AreOfSameTexts before after
  pub ends : ends_of after ≡ ends_of before
  pub well : IsWell after
  pub joined : (x y : ℕ) → joined_of after.marks x y ≡ joined_of before.marks x y
  pub counts : (b : ℕ) → b < length before.parts → counts_of after.map a b ≡ count_into (ends_of before) edges b
  pub newest : newest_of after.marks a ≡ greatest_birth edges
  pub other_counts : (x b : ℕ) → x ≢ a → counts_of after.map x b ≡ counts_of before.map x b
  pub other_newest : (x : ℕ) → x ≢ a → newest_of after.marks x ≡ newest_of before.marks x
  pub other_files : (x : ℕ) → x ≢ a → part_file after x ≡ part_file before x
  -- nothing changes where no edge is new
  pub kept : All (λ b. b.birth < round) edges → after ≡ before

-- and on the disk its file spells it, and no other partition's file changes
pub record Puts (m : Manifest) (a : ℕ) (p : Part) (before after : Manifest) (old new : Contents) : Type 0 where
  pub spares : Spares m old new
  pub spelled : SpellsPart (new (part_file after a)) p
  pub others : (x : ℕ) → x < length before.parts → x ≢ a → new (part_file before x) ≡ old (part_file before x)

-- the partition may be put: it is one of the store's intervals, and where no edge of it is new, the manifest that
-- is made tells of it already and its file spells it
pub record MayPutPart (s : OpenStore) (tells : Bool) (c : Contents) (a : ℕ) (p : Part) (next : Manifest) : Type 0 where
  pub there : a < length next.parts
  pub part_is : p ≡ part_of s.manifest a p.edges
  pub ends : ends_of next ≡ ends_of s.manifest
  pub well : IsWell next
  pub older : newest_of next.marks a < s.manifest.round
  pub told : All (λ b. b.birth < s.manifest.round) p.edges → IsTold next a p.edges
  pub same : IsTrue tells → All (λ b. b.birth < s.manifest.round) p.edges → SpellsPart (c (part_file next a)) p

-- the one partition may be put, or both
abbrev pub MayPutPair : OpenStore → Bool → Contents → ℕ → ℕ → Part → Option Part → Manifest → Type 0
MayPutPair s tells c low high p None next = MayPutPart s tells c low p next
MayPutPair s tells c low high p (Some q) next = (low < high) × MayPutPart s tells c low p next × MayPutPart s tells c high q next

-- both partitions were put, the low one first
pub record ArePut2 (m : Manifest) (tells : Bool) (low high : ℕ) (p q : Part) (before : Manifest) (old : Contents)
    (after : Manifest) (new : Contents) : Type 0 where
  pub mid : Manifest
  pub between : Contents
  pub low_takes : TakesOn m.round low p.edges before mid
  pub low_puts : IsTrue tells → Puts m low p before mid old between
  pub high_takes : TakesOn m.round high q.edges mid after
  pub high_puts : IsTrue tells → Puts m high q mid after between new

-- the one partition was put, or both
abbrev pub ArePut : Manifest → Bool → ℕ → ℕ → Part → Option Part → Manifest → Contents → Manifest → Contents → Type 0
ArePut m tells low high p None before old after new = TakesOn m.round low p.edges before after × (IsTrue tells → Puts m low p before after old new)
ArePut m tells low high p (Some q) before old after new = ArePut2 m tells low high p q before old after new

-- the pair in order
abbrev pub IsOrderedPair : ℕ → ℕ → ℕ → ℕ → Type 0
IsOrderedPair i j low high = (low ≤ high) × (((low ≡ i) × (high ≡ j)) ⊎ ((low ≡ j) × (high ≡ i)))

-- the manifest after a step on partitions i and j: p and q were loaded, and became p' and q' by k rounds
pub record IsNextManifest (s : OpenStore) (tells : Bool) (old new : Contents) (i j : ℕ) (next : Manifest) : Type 0 where
  pub low : ℕ
  pub high : ℕ
  pub in_order : IsOrderedPair i j low high
  pub p : Part
  pub q : Option Part
  pub p' : Part
  pub q' : Option Part
  pub k : ℕ
  pub start : Manifest
  pub since : ℕ
  pub least : IsLeastMarkIn s.manifest i j since
  pub loaded : ArePairIn s low high p q
  pub spelled : IsTrue tells → AreSpelled s old low high p q
  pub run : AreRun (normal_form s.rules) since s.manifest.round p q p' q' k
  pub marked : IsMarked s.manifest i j k start
  pub put : ArePut s.manifest tells low high p' q' start old next new
