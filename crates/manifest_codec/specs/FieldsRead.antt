-- Reading a manifest's body field by field, from left to right, up to the first field that breaks its rule.
use Rattle.std.specs.Prelude.{◌≡◌, ℕ, zero, suc, ◌+◌, ◌-◌, ◌*◌, Bool, not, nat_lt, if◌then◌else◌, List, [], ◌∷◌}
use Rattle.std.specs.Prelude.{◌++◌, length, drop, take, replicate, Option, Some, None, Result, Ok, Err}
use Rattle.byteorder.specs.Endian.{little_number}
use Rattle.faults.specs.declared.form_kind.FormKind.{FormKind}
use Rattle.faults.specs.declared.form_kind.FormKind.TheVariants.{BadMagic, Short, BadNumber, BadLabel}
use Rattle.faults.specs.declared.form_kind.FormKind.TheVariants.{RepeatedLabel, BadParts, BadFile, BadCount}
use Rattle.faults.specs.declared.form_kind.FormKind.TheVariants.{BadMark}
use Rattle.graph_words.specs.Text.{is_label_word}
use Rattle.label_table.specs.Names.{has_name}
use Rattle.manifest_codec.specs.declared.types.PartEntry.{PartEntry}
use Rattle.manifest_codec.specs.declared.types.Version.{Version}
use Rattle.manifest_codec.specs.declared.types.Version.TheVariants.{First}
use Rattle.manifest_codec.specs.declared.types.Head.{Head}
use Rattle.manifest_codec.specs.declared.types.Manifest.{Manifest}
use Rattle.manifest_codec.specs.declared.types.Broken.{Broken}
use Rattle.manifest_codec.specs.declared.types.FieldError.{FieldError}
use Rattle.manifest_codec.specs.declared.types.FieldError.TheVariants as errors
use Rattle.manifest_codec.specs.declared.types.ManifestFault.{ManifestFault}
use Rattle.manifest_codec.specs.declared.types.ManifestError.{ManifestError}
use Rattle.manifest_codec.specs.declared.types.ManifestError.TheVariants as faults
use Rattle.manifest_codec.specs.Rules.{newest_version, is_magic, is_generation, is_round, is_vertices}
use Rattle.manifest_codec.specs.Rules.{is_grammar_len, is_edges_len, is_label_count, is_part_count, is_end, is_file}
use Rattle.manifest_codec.specs.Rules.{is_newest, at_most, widths, count_limits, is_reached}

infixl 10 ◌>>=◌
abbrev pub ◌>>=◌ : {A B : Type 0} → Result A Broken → (A → Result B Broken) → Result B Broken
(Ok x) >>= f = f x
(Err e) >>= f = Err e

-- a value, and the bytes behind its fields; or the first field that breaks its rule
abbrev pub Read : Type 0 → Type 0
Read A = Result (A × List ℕ) Broken

-- the field that begins here breaks its rule
abbrev pub broken : List ℕ → FormKind → Broken
broken bytes kind = record { left = length bytes; kind = kind }

-- a number of w bytes
abbrev pub number_at : ℕ → List ℕ → Read ℕ
number_at w bytes = if nat_lt (length bytes) w then Err (broken bytes Short) else Ok (little_number w bytes, drop w bytes)

-- a number of w bytes that keeps a rule
abbrev pub field_at : ℕ → (ℕ → Bool) → FormKind → List ℕ → Read ℕ
field_at w rule kind bytes = do
  n ← number_at w bytes
  if rule n.0 then Ok n else Err (broken bytes kind)

-- the version whose magic the bytes begin with, and the newest where they begin with none
abbrev pub version_in : List ℕ → Version
version_in bytes = newest_version

-- the magic of a version, and the numbers behind it. In the first version the edges are one file's.
unfoldable pub head_at : Version → List ℕ → Read Head
head_at First bytes = do
  magic ← field_at 4 (is_magic First) BadMagic bytes
  generation ← field_at 1 is_generation BadNumber magic.1
  round ← field_at 8 is_round BadNumber generation.1
  vertices ← field_at 4 is_vertices BadNumber round.1
  grammar ← field_at 8 is_grammar_len BadNumber vertices.1
  edges ← field_at 8 is_edges_len BadNumber grammar.1
  Ok (
    record {
      generation = generation.0;
      round = round.0;
      vertices = vertices.0;
      grammar_len = grammar.0;
      edges_len = edges.0;
      first_len = edges.0;
    },
    edges.1,
  )

-- a label behind those before: a length, and as many bytes, are one field
unfoldable pub label_at : List (List ℕ) → List ℕ → Read (List (List ℕ))
label_at before [] = Err (broken [] Short)
label_at before (n ∷ bytes) =
    if nat_lt (length bytes) n then Err (broken (n ∷ bytes) Short) else
    if not (is_label_word (take n bytes)) then Err (broken (n ∷ bytes) BadLabel) else
    if has_name before (take n bytes) then Err (broken (n ∷ bytes) RepeatedLabel) else Ok (before ++ take n bytes ∷ [], drop n bytes)

-- labels that are left, behind those before
unfoldable pub labels_at : ℕ → List (List ℕ) → List ℕ → Read (List (List ℕ))
labels_at zero before bytes = Ok (before, bytes)
labels_at (suc n) before bytes = do
  labels ← label_at before bytes
  labels_at n labels.0 labels.1

-- a partition and its newest birth, with `left` more partitions behind it and these before it, which end at low
unfoldable pub part_at : Head → ℕ → ℕ → List PartEntry → List ℕ → Read (PartEntry × ℕ)
part_at h left low before bytes = do
  hi ← field_at 4 (is_end h.vertices left low) BadParts bytes
  file ← field_at 4 (is_file before) BadFile hi.1
  newest ← field_at 8 (is_newest h.round) BadMark file.1
  Ok ((record { hi = hi.0; file = file.0 }, newest.0), newest.1)

-- partitions that are left, behind those before, and the newest births likewise
unfoldable pub parts_at : Head → ℕ → ℕ → List PartEntry → List ℕ → List ℕ → Read (List PartEntry × List ℕ)
parts_at h zero low before newest bytes = Ok ((before, newest), bytes)
parts_at h (suc n) low before newest bytes = do
  part ← part_at h n low before bytes
  parts_at h n part.0.0.hi (before ++ part.0.0 ∷ []) (newest ++ part.0.1 ∷ []) part.1

-- numbers of 8 bytes, each with its limit
unfoldable pub cells_at : FormKind → List ℕ → List ℕ → List ℕ → Read (List ℕ)
cells_at kind [] before bytes = Ok (before, bytes)
cells_at kind (limit ∷ limits) before bytes = do
  n ← field_at 8 (at_most limit) kind bytes
  cells_at kind limits (before ++ n.0 ∷ []) n.1

-- the head and the labels
unfoldable pub front_at : List ℕ → Read (Head × List (List ℕ))
front_at bytes = do
  h ← head_at (version_in bytes) bytes
  n ← field_at 2 is_label_count BadNumber h.1
  labels ← labels_at n.0 [] n.1
  Ok ((h.0, labels.0), labels.1)

-- the number of partitions, and each of them
unfoldable pub table_at : Head → List ℕ → Read (List PartEntry × List ℕ)
table_at h bytes = do
  k ← field_at 2 (is_part_count h.vertices) BadParts bytes
  parts_at h k.0 0 [] [] k.1

-- a manifest of what its parts read
abbrev pub manifest_of : Head → List (List ℕ) → List PartEntry × List ℕ → List ℕ → List ℕ → Manifest
manifest_of h labels parts counts joined = record {
  generation = h.generation;
  round = h.round;
  vertices = h.vertices;
  grammar_len = h.grammar_len;
  edges_len = h.edges_len;
  first_len = h.first_len;
  labels = labels;
  parts = parts.0;
  map = (length parts.0, counts);
  marks = (length parts.0, joined, parts.1);
}

-- the whole body. The last rule is on the round, whose field begins behind 5 bytes.
unfoldable pub body_at : List ℕ → Read Manifest
body_at bytes = do
  front ← front_at bytes
  parts ← table_at front.0.0 front.1
  counts ← cells_at BadCount (count_limits (widths 0 parts.0.0)) [] parts.1
  joined ← cells_at BadMark (replicate (length parts.0.0 * length parts.0.0) front.0.0.round) [] counts.1
  if is_reached front.0.0.round counts.0 then Ok
      (manifest_of front.0.0 front.0.1 parts.0 counts.0 joined.0, joined.1)
      else Err (record { left = length bytes - 5; kind = BadNumber })

-- how far it got, counted from the front: how many bytes the fields have, or the place of the field that breaks its rule.
-- The byte before the body, the gate, is at place 0.
abbrev pub counted : ℕ → Read Manifest → Result (Manifest × ℕ) ManifestFault
counted all (Ok x) = Ok (x.0, all - length x.1)
counted all (Err b) = Err (record { place = 1 + (all - b.left); kind = b.kind })

-- the manifest that the bytes begin with and how many of them spell it, or the first field that breaks its rule
abbrev pub reading : List ℕ → Result (Manifest × ℕ) ManifestFault
reading bytes = counted (length bytes) (body_at bytes)

-- the manifest that the bytes begin with
abbrev pub manifest_in : List ℕ → Option Manifest
manifest_in bytes = found (reading bytes)
  where
    found : Result (Manifest × ℕ) ManifestFault → Option Manifest
    found (Ok x) = Some x.0
    found (Err f) = None

-- ---- what a function answers

-- what a reader returned, seen by view, is what reading gives, unless memory ran out
abbrev pub Fails : {Y : Type 0} → FieldError → Result Y Broken → Type 0
Fails (errors.Broken b) read = read ≡ Err b
Fails errors.NoMemory read = Unit {0}

abbrev pub GivesField : {X Y : Type 0} → (X → Y) → Result X FieldError → Result Y Broken → Type 0
GivesField view (Ok x) read = read ≡ Ok (view x)
GivesField view (Err e) read = Fails e read

-- a decoder's answer is what reading gives, unless memory ran out
abbrev pub DecodesManifest : Result (Manifest × ℕ) ManifestError → Result (Manifest × ℕ) ManifestFault → Type 0
DecodesManifest (Ok x) read = read ≡ Ok x
DecodesManifest (Err (faults.Fault f)) read = read ≡ Err f
DecodesManifest (Err faults.NoMemory) read = Unit {0}

-- the answer is this manifest with so many bytes, unless memory ran out
abbrev pub AnswersManifest : Result (Manifest × ℕ) ManifestError → Manifest → ℕ → Type 0
AnswersManifest (Ok x) m n = (x.0 ≡ m) × (x.1 ≡ n)
AnswersManifest (Err (faults.Fault f)) m n = ⊥
AnswersManifest (Err faults.NoMemory) m n = Unit {0}
