-- Steps that stores survive.
use Rattle.std.specs.Prelude.{◌≡◌, ◌≢◌, ℕ, ◌<◌, ◌≤◌, All, length, take}
use Rattle.disk_model.specs.Disk.{Contents}
use Rattle.manifest_codec.specs.declared.types.Manifest.{Manifest}
use Rattle.store_law.specs.Listed.{part_file}

-- the file is neither a slot nor a copy of a text, and the manifest names it for no partition
pub record IsFree (m : Manifest) (f : ℕ) : Type 0 where
  pub above : 4 ≤ f
  pub unnamed : All (λ p. p.file ≢ f) m.parts

-- the copies of the texts are as they were, as far as the manifest says
pub record KeepsCopies (m : Manifest) (old new : Contents) : Type 0 where
  pub grammar : take m.grammar_len (new 2) ≡ take m.grammar_len (old 2)
  pub edges : take m.edges_len (new 3) ≡ take m.edges_len (old 3)

-- and so are the files of its partitions
pub record KeepsFiles (m : Manifest) (old new : Contents) : Type 0 where
  pub copies : KeepsCopies m old new
  pub parts : (i : ℕ) → i < length m.parts → new (part_file m i) ≡ old (part_file m i)
