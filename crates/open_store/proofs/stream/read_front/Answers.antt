use Rattle.std.proofs.Common.{◌≡◌, ◌≤◌, ◌<◌, ℕ, List, ◌++◌, length, get_or, take, drop, ◌∙◌, arith, length-append, length-take, take-take, inl, inr}
use Rattle.std.specs.Prelude.{Result, Ok, Err, IfOk}
use Rattle.std.proofs.lemmas.Bool.{cases_lt}
use Rattle.std.proofs.lemmas.List.{take-append-le, get_or-take, get_or_past}
use Rattle.disk_model.specs.Disk.{ReadsBytes}
use Rattle.disk_model.specs.Run.{if_ok}
use Rattle.partition_file.specs.Spelling.{IsBytes}
use Rattle.open_store.proofs.stream.read_front.Goals as goal

bytes_front : (n : ℕ) (xs : List ℕ) → n ≤ length xs → ((i d : ℕ) → i < length xs → get_or xs i d < 256) → IsBytes (take n xs)
bytes_front n xs within each i = elim (cases_lt i n) [
  | inl low ↦ rw (get_or-take n xs i 0 low) (each i 0 (omega (arith, low, within)))
  | inr past ↦ rw (get_or_past (take n xs) i 0 (omega (arith, past, length-take n xs))) (omega arith)
]
