-- Files in memory, and the count of the calls that read them.
use Rattle.std.specs.Prelude.{ℕ, Bool, ◌-◌, min, List, [], length, Option, Some, None, find, if◌then◌else◌}
use Rattle.std.specs.Option.{option_map}
use Rattle.faults.specs.Counts.{one_more}
use Rattle.std.specs.Str.{bytes_eq}

-- a name, and the bytes of its file
pub record NamedFile : Type 0 where
  pub name : List ℕ
  pub bytes : List ℕ

-- the bytes of the first file of a name
abbrev pub first_named : List NamedFile → List ℕ → Option (List ℕ)
first_named files name = option_map (λ file. file.bytes) (find (λ file. bytes_eq file.name name) files)

-- the bytes, and none where nothing is there
abbrev pub bytes_or_none : Option (List ℕ) → List ℕ
bytes_or_none None = []
bytes_or_none (Some bytes) = bytes

-- where no read fails, each name has its first file, or else an empty one
abbrev pub sure_bytes : List NamedFile → List ℕ → Option (List ℕ)
sure_bytes files name = Some (bytes_or_none (first_named files name))

-- files, the numbers of the calls that fail, and how many calls there were and how many of them failed
pub record FilesRead : Type 0 where
  pub files : List NamedFile
  pub failing : List ℕ
  pub calls : ℕ
  pub faults : ℕ

-- what a call leaves that answered well, or failed
abbrev pub after_read : FilesRead → Bool → FilesRead
after_read before well = record before { calls = one_more before.calls; faults = if well then before.faults else one_more before.faults }

-- how many bytes a read at a place gives: those that are there, but no more than fit
abbrev pub read_len : List ℕ → ℕ → ℕ → ℕ
read_len file at room = min room (length file - at)
