-- What is read is what is spelled, whatever stands behind it.
use Rattle.std.proofs.Common.{◌≡◌, ℕ, ◌-◌, ◌<◌, List, [], ◌∷◌, length, drop, Result, Ok, Err, Some, refl, ap, subst, ◌∙◌, arith, inl, inr, All}
use Rattle.std.proofs.lemmas.Bool.{cases_lt}
use Rattle.std.proofs.lemmas.List.{length-drop, get_or_past}
use Rattle.manifest_codec.specs.declared.types.Manifest.{Manifest}
use Rattle.manifest_codec.specs.declared.types.ManifestFault.{ManifestFault}
use Rattle.manifest_codec.specs.Spelling.{FitsManifest, SpellsManifest}
use Rattle.manifest_codec.specs.FieldsRead.{Read, head_at, front_at, body_at, counted, reading, manifest_in}
use Rattle.manifest_codec.proofs.FieldLaws.{IsBytes}
use Rattle.manifest_codec.proofs.BodyLaws.{again_at, ok_found, ok_only, err_only}
use Rattle.manifest_codec.proofs.Words.{kept_from_words, words_from_kept}
use Rattle.manifest_codec.specs.declared.types.Broken.{Broken}

abbrev Counted : Type 0
Counted = Result (Manifest × ℕ) ManifestFault

abbrev done : Manifest × ℕ → Counted
done x = Ok x

ok_is : (x y : Manifest × ℕ) → done x ≡ done y → x ≡ y
ok_is x y e = cc

-- what was counted was read
record ReadsBody (all : ℕ) (read : Read Manifest) (x : Manifest × ℕ) : Type 0 where
  pub body : Manifest × List ℕ
  pub is : read ≡ Ok body
  pub count : (body.0, all - length body.1) ≡ x

counted_ok : (all : ℕ) (read : Read Manifest) (x : Manifest × ℕ) → counted all read ≡ Ok x → ReadsBody all read x
counted_ok all (Ok y) x e = record { body = y; is = refl; count = ok_is (y.0, all - length y.1) x e }
counted_ok all (Err b) x e = absurd cc

pub bytes_from_all : (bytes : List ℕ) → All (λ b. b < 256) bytes → IsBytes bytes
bytes_from_all bytes all i =
    elim (cases_lt i (length bytes)) [
      | inl lt ↦ all i 0 lt
      | inr le ↦ rw (get_or_past bytes i 0 le) (omega arith)
    ]

pub spelling_is_read : (m : Manifest) (bytes : List ℕ) (n : ℕ) → FitsManifest m → SpellsManifest bytes m n → reading bytes ≡ Ok (m, n)
spelling_is_read m bytes n fits spells =
    let left : length bytes - length (drop n bytes) ≡ n = omega (arith, length-drop n bytes, spells.1) in
    ap (counted (length bytes)) (again_at bytes m n (kept_from_words m fits) spells) ∙ ap (λ (k : ℕ). done (m, k)) left

-- what a reader found
pub found : (bytes : List ℕ) (x : Manifest × List ℕ) → IsBytes bytes → body_at bytes ≡ Ok x → FitsManifest x.0 × SpellsManifest bytes x.0 (length bytes - length x.1)
found bytes x fits e =
    let f = ok_found bytes x fits e in
    (words_from_kept x.0 f.0, f.1)

pub found_only : (bytes : List ℕ) (x : Manifest × List ℕ) (m : Manifest) (n : ℕ) → body_at bytes ≡ Ok x → FitsManifest m → SpellsManifest bytes m n → (x.0 ≡ m) × (length bytes - length x.1 ≡ n)
found_only bytes x m n e fits spells = ok_only bytes x m n e (kept_from_words m fits) spells

pub broken_only : (bytes : List ℕ) (d : Broken) (m : Manifest) (n : ℕ) → body_at bytes ≡ Err d → FitsManifest m → SpellsManifest bytes m n → ⊥
broken_only bytes d m n e fits spells = err_only bytes d m n e (kept_from_words m fits) spells

pub reading_is_spelling : (bytes : List ℕ) (x : Manifest × ℕ) → All (λ b. b < 256) bytes → reading bytes ≡ Ok x → FitsManifest x.0 × SpellsManifest bytes x.0 x.1
reading_is_spelling bytes x all e =
    let s = counted_ok (length bytes) (body_at bytes) x e in
    subst (λ (y : Manifest × ℕ). FitsManifest y.0 × SpellsManifest bytes y.0 y.1) s.count (found bytes s.body (bytes_from_all bytes all) s.is)

pub has_bytes : (file : List ℕ) (m : Manifest) → manifest_in (drop 1 file) ≡ Some m → 1 < length file
unfolding body_at front_at head_at
has_bytes [] m e = absurd cc
has_bytes (a ∷ []) m e = absurd cc
has_bytes (a ∷ b ∷ file) m e = omega arith
