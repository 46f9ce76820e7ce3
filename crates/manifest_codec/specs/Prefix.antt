-- What bytes say is settled once they don't end within a field.
use Rattle.std.specs.Prelude.{◌≡◌, ◌⊎◌, ℕ, List, ◌++◌, Result, Ok, Err}
use Rattle.faults.specs.declared.form_kind.FormKind.TheVariants.{Short}
use Rattle.manifest_codec.specs.declared.types.Manifest.{Manifest}
use Rattle.manifest_codec.specs.declared.types.ManifestFault.{ManifestFault}
use Rattle.manifest_codec.specs.FieldsRead.{reading}

-- the bytes end within a field
abbrev pub EndsInField : Result (Manifest × ℕ) ManifestFault → Type 0
EndsInField (Ok x) = ⊥
EndsInField (Err f) = f.kind ≡ Short

-- the bytes end within a field, or whatever stands behind them changes nothing
abbrev pub Settles : List ℕ → List ℕ → Type 0
Settles bytes behind = EndsInField (reading bytes) ⊎ (reading (bytes ++ behind) ≡ reading bytes)
