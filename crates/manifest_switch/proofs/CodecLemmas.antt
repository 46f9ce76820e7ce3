-- What is used of the manifest's format: a body is read behind the gate alone, what stands behind it changes nothing, and no bytes say nothing.
use Rattle.std.proofs.Common.{◌≡◌, inl, inr, ℕ, suc, ◌+◌, ◌<◌, ◌≤◌, List, [], ◌∷◌, ◌++◌, length, take, drop, slice_index, refl, sym, ◌∙◌, ap, subst, arith, length-drop, length-append}
use Rattle.std.specs.Prelude.{Result, Ok, Err}
use Rattle.std.proofs.lemmas.List.{ext_get_or, take_all, take-append-le, take-append-drop}
use Rattle.disk_model.specs.Disk.{written}
use Rattle.manifest_codec.specs.declared.types.Manifest.{Manifest}
use Rattle.manifest_codec.specs.declared.types.ManifestFault.{ManifestFault}
use Rattle.manifest_codec.specs.FieldsRead.{reading, body_at, front_at, head_at}
use Rattle.manifest_codec.specs.Rules.{newest_version}
use Rattle.manifest_codec.specs.Spelling.{FitsManifest, SpellsManifest, spelling}
use Rattle.manifest_codec.specs.Prefix.{EndsInField, Settles}
use Rattle.manifest_switch.specs.Slots.{body, value_of}
use Rattle.manifest_switch.specs.Answers.{IsCutShort}

-- two lists that differ at place 0 alone
pub drop-same : (d c : List ℕ) → length c ≡ length d → ((i : ℕ) → i < length d → 1 ≤ i → slice_index c i ≡ slice_index d i) → drop 1 c ≡ drop 1 d
drop-same [] [] len same = refl
drop-same [] (a ∷ c) len same = absurd (omega (arith, len))
drop-same (a ∷ d) [] len same = absurd (omega (arith, len))
drop-same (a ∷ d) (b ∷ c) len same = ext_get_or 0 c d (omega (arith, len)) (λ i low. same (suc i) (omega (arith, low, len)) (omega arith))

pub body-same : (d c : List ℕ) → length c ≡ length d → ((i : ℕ) → i < length d → 1 ≤ i → slice_index c i ≡ slice_index d i) → body c ≡ body d
unfolding body
body-same d c len same = ap (λ (bytes : List ℕ). value_of (reading bytes)) (drop-same d c len same)

-- no bytes spell a manifest
reading-nothing : (x : Manifest × ℕ) → reading [] ≡ Ok x → ⊥
unfolding body_at front_at head_at
reading-nothing x is = cc is

value-nothing : (r : Result (Manifest × ℕ) ManifestFault) (m : Manifest) → ((x : Manifest × ℕ) → r ≡ Ok x → ⊥) → value_of r ≡ Ok m → ⊥
value-nothing (Ok x) m none is = none x refl
value-nothing (Err f) m none is = cc is

pub body-long : (file : List ℕ) (m : Manifest) → body file ≡ Ok m → 1 < length file
unfolding body
body-long [] m is = absurd (value-nothing (reading []) m reading-nothing is)
body-long (a ∷ []) m is = absurd (value-nothing (reading []) m reading-nothing is)
body-long (a ∷ b ∷ file) m is = omega arith

-- bytes that spell a manifest, whatever stands behind them
abbrev pub Says : List ℕ → Manifest → Type 0
Says bytes m = (more : List ℕ) → reading (bytes ++ more) ≡ Ok (m, length bytes)

drop-written : (file bytes : List ℕ) → 0 < length file → drop 1 (written file 1 bytes) ≡ bytes ++ drop (1 + length bytes) file
unfolding written
drop-written [] bytes some = absurd (omega (arith, some))
drop-written (a ∷ file) [] some = refl
drop-written (a ∷ file) (b ∷ bytes) some = refl

-- a body behind a gate
pub staged-body : (file bytes : List ℕ) (m : Manifest) → 0 < length file → Says bytes m → body (written file 1 bytes) ≡ Ok m
unfolding body
staged-body file bytes m some says = ap (λ (l : List ℕ). value_of (reading l)) (drop-written file bytes some) ∙ ap value_of (says (drop (1 + length bytes) file))

-- what the codec's law says of bytes that are a spelling
pub says : (bytes : List ℕ) (m : Manifest) → ((m : Manifest) (bytes : List ℕ) (n : ℕ) → FitsManifest m → SpellsManifest bytes m n → reading bytes ≡ Ok (m, n)) → FitsManifest m → bytes ≡ spelling newest_version m → Says bytes m
says bytes m law fits is more = law m (bytes ++ more) (length bytes) fits (newest_version, omega (arith, length-append bytes more), take-append-le (length bytes) bytes more (omega arith) ∙ take_all (length bytes) bytes (omega arith) ∙ is)

-- ---- the first bytes of a body

cut-value : (r : Result (Manifest × ℕ) ManifestFault) → EndsInField r → IsCutShort (value_of r)
cut-value (Ok x) cut = cut
cut-value (Err f) cut = cut

-- what the first bytes say is what the body says, where they don't end within a field
pub settled : (file : List ℕ) (size : ℕ) (said : Result Manifest ManifestFault) → ((bytes behind : List ℕ) → Settles bytes behind) → said ≡ value_of (reading (take size (drop 1 file))) → (IsCutShort said → ⊥) → said ≡ body file
unfolding body
settled file size said law is whole = elim (law (take size (drop 1 file)) (drop size (drop 1 file))) [
  | inl cut ↦ absurd (whole (subst (λ (r : Result Manifest ManifestFault). IsCutShort r) (sym is) (cut-value (reading (take size (drop 1 file))) cut)))
  | inr same ↦ is ∙ ap value_of (sym same) ∙ ap (λ (l : List ℕ). value_of (reading l)) (take-append-drop size (drop 1 file))
]

-- and where they are all bytes
pub whole_body : (file : List ℕ) (all : ℕ) (said : Result Manifest ManifestFault) → length file ≡ 1 + all → said ≡ value_of (reading (take all (drop 1 file))) → said ≡ body file
unfolding body
whole_body file all said len is = is ∙ ap (λ (l : List ℕ). value_of (reading l)) (take_all all (drop 1 file) (omega (arith, length-drop 1 file, len)))
