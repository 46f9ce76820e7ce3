-- Files that hold something.
use Rattle.std.specs.Prelude.{◌≡◌, ◌⊎◌, ℕ, List, Contains}
use Rattle.manifest_codec.specs.declared.types.PartEntry.{PartEntry}

-- the file is that of some partition, or it is taken
abbrev pub IsUsed : List PartEntry → List ℕ → ℕ → Type 0
IsUsed parts taken file = ((p : PartEntry) × Contains parts p × (p.file ≡ file)) ⊎ Contains taken file
