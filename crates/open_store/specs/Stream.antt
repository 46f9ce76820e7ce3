-- A partition's file that is read in pieces.
use Rattle.std.specs.Prelude.{◌≡◌, ℕ, ◌≤◌, ◌<◌, ◌^◌, Bool, IsTrue, List, ◌++◌, length, take, slice_index_or}
use Rattle.graph_words.specs.declared.types.Born.{Born}
use Rattle.closing_machine.specs.State.{greatest_birth}
use Rattle.partition_file.specs.declared.types.Expect.{Expect}
use Rattle.partition_file.specs.Reader.{Reader, prepend, rest_of, taken}
use Rattle.partition_file.specs.FieldsRead.{reading}
use Rattle.partition_file.specs.Spelling.{IsBytes, found}
use Rattle.open_store.specs.declared.stream.PartStream.{PartStream}
use Rattle.open_store.specs.PartRead.{count_into}

-- the reader was given these bytes, and gave these edges
pub record HasRead (e : Expect) (bytes : List ℕ) (edges : List Born) (r : Reader) : Type 0 where
  pub are_bytes : IsBytes bytes
  pub taken_within : taken r ≤ length bytes
  pub few : length edges ≤ length bytes
  pub gives : (more : List ℕ) → prepend edges (rest_of r more) ≡ reading e (bytes ++ more)

-- the numbers are how many of the edges end in each interval, and the greatest birth among them
pub record IsTally (ends : List ℕ) (edges : List Born) (row : List ℕ) (newest : ℕ) : Type 0 where
  pub size : length row ≡ length ends
  pub counts : (j : ℕ) → j < length ends → slice_index_or row j 0 ≡ count_into ends edges j
  pub newest_is : newest ≡ greatest_birth edges

-- there is such a file, it was read no further than its end, and there is room for a piece
pub record IsStream (s : PartStream) : Type 0 where
  pub file : s.file < 1024
  pub within : s.place ≤ s.len
  pub small : s.len < 2 ^ 64
  pub taken_within : taken s.reader ≤ s.place
  pub room : 0 < length s.piece.items

-- the stream gave these bytes to its reader, which gave these edges; where the file is known, the bytes are its first
pub record IsAt (e : Expect) (tells : Bool) (file : List ℕ) (bytes : List ℕ) (edges : List Born) (s : PartStream) : Type 0 where
  pub read : HasRead e bytes edges s.reader
  pub place_is : length bytes ≡ s.place
  pub front : IsTrue tells → bytes ≡ take s.place file
  pub whole : IsTrue tells → s.len ≡ length file

-- the file was read to its end: no field is missing, and these are its edges
pub record StreamEnds (e : Expect) (tells : Bool) (file bytes : List ℕ) (edges : List Born) : Type 0 where
  pub are_bytes : IsBytes bytes
  pub few : length edges < 2 ^ 64
  pub gives : reading e bytes ≡ found edges
  pub front : IsTrue tells → bytes ≡ file
