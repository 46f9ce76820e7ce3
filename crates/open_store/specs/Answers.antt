-- What the calls of a store answer, and why.
use Rattle.std.specs.Prelude.{◌≡◌, ◌≢◌, ℕ, List, take, slice_get}
use Rattle.faults.specs.declared.kinds.InputFile.{InputFile}
use Rattle.faults.specs.declared.kinds.InputFile.TheVariants.{Grammar}
use Rattle.faults.specs.Reasons.{Causes, no_cause}
use Rattle.disk_model.specs.Disk.{Contents}
use Rattle.manifest_codec.specs.declared.types.Manifest.{Manifest}

-- two texts differ first at this place. The end of one of them counts as a difference.
pub record DiffersFirst (text copy : List ℕ) (place : ℕ) : Type 0 where
  pub same : take place text ≡ take place copy
  pub differ : slice_get text place ≢ slice_get copy place

-- why two texts were not found to be the same: the input's count rose, or the disk's, or they differ, of which this is
-- said
abbrev pub compare_causes : Type 0 → Type 0 → (InputFile → ℕ → Type 0) → Causes
compare_causes read_rose disk_rose differ = record no_cause { reads = read_rose; disk = disk_rose; other = differ }

-- the file of the copy of a text, and how long the manifest says that it is
abbrev pub copy_file : InputFile → ℕ
copy_file Grammar = 2
copy_file _ = 3

abbrev pub copy_len : Manifest → InputFile → ℕ
copy_len m Grammar = m.grammar_len
copy_len m _ = m.edges_len

-- the copy: the first bytes of its file, or the whole file where it is shorter
abbrev pub copy_of : Manifest → InputFile → Contents → List ℕ
copy_of m file c = take (copy_len m file) (c (copy_file file))
