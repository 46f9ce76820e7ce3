-- Steps of a disk that touch one file.
use Rattle.std.specs.Prelude.{◌≡◌, ◌≢◌, ℕ, List}
use Rattle.std.proofs.Common.{refl, ◌∙◌}
use Rattle.disk_model.specs.Disk.{Contents, Sets, TornIn, ShortenedIn}

-- all files but this one are as before
pub record OnlyFile (file : ℕ) (old new : Contents) : Type 0 where
  pub others : (f : ℕ) → f ≢ file → new f ≡ old f

-- no step is such a step, and so are two of them
pub only_refl : (file : ℕ) (c : Contents) → OnlyFile file c c
only_refl file c = record { others = λ f apart. refl }

pub only_trans : (file : ℕ) (d m c : Contents) → OnlyFile file d m → OnlyFile file m c → OnlyFile file d c
only_trans file d m c a b = record { others = λ f apart. b.others f apart ∙ a.others f apart }

-- a write or a cut that a crash cuts short, and one that is done
pub only_torn : (file at n : ℕ) (m c : Contents) → TornIn file at n m c → OnlyFile file m c
only_torn file at n m c torn = record { others = torn.others }

pub only_shortened : (file n : ℕ) (m c : Contents) → ShortenedIn file n m c → OnlyFile file m c
only_shortened file n m c short = record { others = short.others }

pub only_set : (file : ℕ) (bytes : List ℕ) (m c : Contents) → Sets file bytes m c → OnlyFile file m c
only_set file bytes m c sets = record { others = sets.others }
