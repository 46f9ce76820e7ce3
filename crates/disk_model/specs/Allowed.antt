-- What the clauses of `Disk` allow a crash to leave after a list of calls, beside the definition by base, least and
-- greatest length and written ranges.
use Rattle.std.specs.Prelude.{◌≡◌, ℕ, true, false, if◌then◌else◌, ◌==◌, List, [], ◌∷◌, length, take}
use Rattle.disk_model.specs.Disk.{Contents, written, TornIn, ShortenedIn}
use Rattle.disk_model.specs.Crash.{From}
use Rattle.disk_model.specs.Calls.{Call, write, cut, sync, synced_all, replay, IsImage}

-- what a read gives after a call. One that failed changes nothing here.
unfoldable pub seen_after : Call → Contents → Contents
seen_after (write file at bytes true) seen = λ g. if g == file then written (seen file) at bytes else seen g
seen_after (cut file len true) seen = λ g. if g == file then take len (seen file) else seen g
seen_after _ seen = seen

-- what a call leaves possible, where a read gives `seen` and a crash might leave `images`: a torn write and a cut
-- that stopped anywhere, also where the call failed, and what a read gives after a sync
unfoldable pub allowed_after : Call → Contents → (Contents → Type 0) → Contents → Type 0
allowed_after (write file at bytes made) seen images c = From images (TornIn file at (length bytes)) c
allowed_after (cut file len made) seen images c = From images (ShortenedIn file len) c
allowed_after (sync true) seen images c = images c × ((f : ℕ) → c f ≡ seen f)
allowed_after (sync false) seen images c = images c

-- the same of these calls, the first of them first
unfoldable pub allowed : Contents → (Contents → Type 0) → List Call → Contents → Type 0
allowed seen images [] c = images c
allowed seen images (e ∷ calls) c = allowed (seen_after e seen) (allowed_after e seen images) calls c

-- what the clauses allow after these calls on a disk that was synced with these contents
abbrev pub IsAllowed : Contents → List Call → Contents → Type 0
IsAllowed base calls c = allowed base (λ d. (f : ℕ) → d f ≡ base f) calls c

-- the clauses allow just the images of the definition
pub record SameImages (base : Contents) (calls : List Call) (c : Contents) : Type 0 where
  pub within : IsAllowed base calls c → IsImage (replay (synced_all base) calls) c
  pub reached : IsImage (replay (synced_all base) calls) c → IsAllowed base calls c
