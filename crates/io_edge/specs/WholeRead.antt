-- What it is to have read a file up to a limit.
use Rattle.std.specs.Prelude.{◌≡◌, ◌⊎◌, ℕ, ◌<◌, List, length, take}

-- the bytes are those with which the file begins, and there are more of them than the limit
pub record PassesLimit (limit : ℕ) (file value : List ℕ) : Type 0 where
  pub front : value ≡ take (length value) file
  pub past : limit < length value

-- the bytes are the whole file, or its front up to somewhere past the limit
abbrev pub ReadsWhole : ℕ → List ℕ → List ℕ → Type 0
ReadsWhole limit file value = (value ≡ file) ⊎ PassesLimit limit file value
