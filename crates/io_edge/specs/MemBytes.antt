-- Printed bytes in memory, and the count of the calls that print them.
use Rattle.std.specs.Prelude.{ℕ, Bool, List, ◌++◌, if◌then◌else◌}
use Rattle.faults.specs.Counts.{one_more}

-- the bytes taken, the numbers of the calls that fail, and how many calls there were and how many of them failed
pub record BytesTaken : Type 0 where
  pub bytes : List ℕ
  pub failing : List ℕ
  pub calls : ℕ
  pub faults : ℕ

-- what a call leaves that took the whole piece, or failed and took nothing of it
abbrev pub after_write : BytesTaken → Bool → List ℕ → BytesTaken
after_write before well piece = record before {
  bytes = if well then before.bytes ++ piece else before.bytes;
  calls = one_more before.calls;
  faults = if well then before.faults else one_more before.faults;
}
