-- Bytes tell the partitions that they list.
use Rattle.std.proofs.Common.{◌≡◌, ℕ, zero, suc, ◌<◌, ◌≤◌, List, [], ◌∷◌, length, sym, ◌∙◌, ap, arith}
use Rattle.std.specs.Prelude.{slice_index_or}
use Rattle.std.proofs.lemmas.List.{ext_get_or}
use Rattle.graph_words.specs.declared.types.Born.{Born}
use Rattle.closing_machine.specs.State.{EndsCut}
use Rattle.disk_model.specs.Disk.{Contents}
use Rattle.partition_file.specs.Spelling.{IsExpect, Part}
use Rattle.partition_file.proofs.FileLaws.{one_part}
use Rattle.manifest_codec.specs.declared.types.Manifest.{Manifest}
use Rattle.manifest_codec.specs.Spelling.{FitsManifest}
use Rattle.store_law.specs.Listed.{AreListed, ends_of, expect_of, part_of}
use Rattle.store_law.proofs.Intervals.{cut_from_cover}

-- no interval reaches past the last vertex
ends_within : (from top : ℕ) (ends : List ℕ) (i : ℕ) → EndsCut from ends top → from ≤ top × slice_index_or (from ∷ ends) i 0 ≤ top × slice_index_or ends i 0 ≤ top
ends_within from top [] zero cut = (omega arith, omega arith, omega arith)
ends_within from top [] (suc i) cut = (omega arith, omega arith, omega arith)
ends_within from top (e ∷ es) zero cut = let later = ends_within e top es zero cut.1 in (omega (arith, cut.0, later.0), omega (arith, cut.0, later.0), later.0)
ends_within from top (e ∷ es) (suc i) cut = let later = ends_within e top es i cut.1 in (omega (arith, cut.0, later.0), later.1, later.2)

expected : (m : Manifest) (fresh i : ℕ) → FitsManifest m → IsExpect (expect_of m fresh i)
expected m fresh i fits =
    let within = ends_within 0 m.vertices (ends_of m) i (cut_from_cover m.vertices 0 m.parts fits.cover) in
    record {
      lo = omega (arith, within.1, fits.vertices);
      hi = omega (arith, within.2, fits.vertices);
      vertices = omega (arith, fits.vertices);
      round = fits.rounds;
    }

pub one_listing : (c : Contents) (m : Manifest) (fresh : ℕ) (xs ys : List (List Born)) → FitsManifest m → AreListed c m fresh xs → AreListed c m fresh ys → xs ≡ ys
one_listing c m fresh xs ys fits a b =
    ext_get_or [] xs ys (a.size ∙ sym b.size) (λ i lt.
    let below : i < length m.parts = omega (arith, lt, a.size) in
    ap (λ (p : Part). p.edges) (one_part (expect_of m fresh i) _ (part_of m i (slice_index_or xs i [])) (part_of m i (slice_index_or ys i [])) (expected m fresh i fits) (a.fits i below) (b.fits i below) (a.spells i below) (b.spells i below)))
