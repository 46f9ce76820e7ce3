-- A store that is open.
use Rattle.std.specs.Prelude.{◌≡◌, ℕ, List, Ok}
use Rattle.graph_words.specs.declared.types.Rule.{Rule}
use Rattle.normal_law.specs.NormalForm.{normal_form}
use Rattle.normal_form.specs.Grammar.{IsGrammar}
use Rattle.disk_model.specs.Disk.{Contents}
use Rattle.partition_file.specs.declared.types.Expect.{Expect}
use Rattle.manifest_codec.specs.declared.types.Manifest.{Manifest}
use Rattle.manifest_codec.specs.Spelling.{FitsManifest}
use Rattle.manifest_switch.specs.declared.slot.Slot.{Slot}
use Rattle.manifest_switch.specs.declared.slot.Found.TheVariants.{At}
use Rattle.manifest_switch.specs.Slots.{HasOnly, current_of}
use Rattle.store_law.specs.Listed.{ends_of, expect_of}
use Rattle.open_store.specs.Copy.{IsCopyRead}

-- a store that is open: the slot of its manifest, the manifest, the rules of its grammar, and where its intervals end
pub record OpenStore : Type 0 where
  pub slot : Slot
  pub manifest : Manifest
  pub rules : List Rule
  pub ends : List ℕ

-- the manifest keeps the rules of its format, the grammar is within its limits, and the intervals are those of the manifest's partitions
pub record IsOpenStore (s : OpenStore) : Type 0 where
  pub fits : FitsManifest s.manifest
  pub grammar : IsGrammar s.rules
  pub ends_are : s.ends ≡ ends_of s.manifest

-- what the file of partition i has to keep
abbrev pub expect_in : OpenStore → ℕ → Expect
expect_in s i = expect_of s.manifest (normal_form s.rules).fresh i

-- the contents hold the store: its manifest is current, and the copy of the grammar has its rules
pub record IsHeld (s : OpenStore) (c : Contents) : Type 0 where
  pub current : current_of c ≡ Ok (At s.slot s.manifest)
  pub grammar : IsCopyRead s.manifest (c 2) s.rules

-- and besides, no other slot is open, so that the store may change
pub record IsHeldAlone (s : OpenStore) (c : Contents) : Type 0 where
  pub only : HasOnly s.slot s.manifest c
  pub grammar : IsCopyRead s.manifest (c 2) s.rules
