-- The crash model: what a list of calls makes of the files of a disk, and what a crash then may leave of them.
use Rattle.std.specs.Prelude.{◌≡◌, ℕ, ◌+◌, ◌<◌, ◌≤◌, min, max, Bool, true, false, ◌&&◌, ◌||◌, if◌then◌else◌, ◌==◌}
use Rattle.std.specs.Prelude.{nat_le, nat_lt, List, [], ◌∷◌, ◌++◌, length, take, slice_index}
use Rattle.disk_model.specs.Disk.{Contents, written}

-- a call that changes a disk: a write of bytes to a file at a place, a cut of a file to a length, or a sync; and whether it succeeded
pub data Call : Type 0 where
  write : ℕ → ℕ → List ℕ → Bool → Call
  cut : ℕ → ℕ → Bool → Call
  sync : Bool → Call

-- a file: what a read gives; its bytes at the last sync that succeeded, its least and greatest length since then,
-- that length included, and the ranges written since
pub record FileState : Type 0 where
  pub seen : List ℕ
  pub base : List ℕ
  pub keep : ℕ
  pub longest : ℕ
  pub ranges : List (ℕ × ℕ)

abbrev pub States : Type 0
States = ℕ → FileState

-- just synced
abbrev pub synced : List ℕ → FileState
synced bytes = record { seen = bytes; base = bytes; keep = length bytes; longest = length bytes; ranges = [] }

-- after a write. One that failed isn't seen, and counts as made for the images.
abbrev pub after_write : ℕ → List ℕ → Bool → FileState → FileState
after_write at bytes made s =
    record {
      seen = if made then written s.seen at bytes else s.seen;
      base = s.base;
      keep = min s.keep (length (written s.seen at bytes));
      longest = max s.longest (length (written s.seen at bytes));
      ranges = s.ranges ++ (at, length bytes) ∷ [];
    }

-- after a cut, which counts for the images in the same way
abbrev pub after_cut : ℕ → Bool → FileState → FileState
after_cut len made s =
    record {
      seen = if made then take len s.seen else s.seen;
      base = s.base;
      keep = min s.keep (length (take len s.seen));
      longest = max s.longest (length (take len s.seen));
      ranges = s.ranges;
    }

-- the same states, but for this file
abbrev pub at_file : ℕ → FileState → States → States
at_file file x s = λ g. if g == file then x else s g

-- after one call. A sync that failed is no sync.
unfoldable pub after : Call → States → States
after (write file at bytes made) s = at_file file (after_write at bytes made (s file)) s
after (cut file len made) s = at_file file (after_cut len made (s file)) s
after (sync true) s = λ g. synced (s g).seen
after (sync false) s = s

-- after these calls, the first of them first
unfoldable pub replay : States → List Call → States
replay s [] = s
replay s (e ∷ calls) = replay (after e s) calls

-- some range has this place
unfoldable pub touched : List (ℕ × ℕ) → ℕ → Bool
touched [] i = false
touched (r ∷ ranges) i = (nat_le r.0 i && nat_lt i (r.0 + r.1)) || touched ranges i

-- what a crash may leave of a file: a length from the least to the greatest, and base's byte where it is below the
-- least and nothing was written since
pub record IsFileImage (s : FileState) (c : List ℕ) : Type 0 where
  pub no_shorter : s.keep ≤ length c
  pub no_longer : length c ≤ s.longest
  pub kept : (i : ℕ) → i < s.keep → touched s.ranges i ≡ false → slice_index c i ≡ slice_index s.base i

-- what a crash may leave of a disk
abbrev pub IsImage : States → Contents → Type 0
IsImage s c = (f : ℕ) → IsFileImage (s f) (c f)

-- what a read gives
abbrev pub contents : States → Contents
contents s = λ f. (s f).seen

-- all files synced, with these contents
abbrev pub synced_all : Contents → States
synced_all base = λ f. synced (base f)

-- what a crash at a moment since t may have left: after so many of the calls, t or more
abbrev pub LeftSince : States → List Call → ℕ → Contents → Type 0
LeftSince s calls t c = (k : ℕ) × (t ≤ k) × (k ≤ length calls) × IsImage (replay s (take k calls)) c
