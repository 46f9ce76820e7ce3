-- How long a spelling is, and that no two manifests share one.
use Rattle.std.proofs.Common.{◌≡◌, ℕ, ◌+◌, ◌*◌, ◌≤◌, List, [], ◌∷◌, ◌++◌, length, sym, ap, ◌∙◌, arith}
use Rattle.std.specs.List.{flat_map, AllByRecursion}
use Rattle.std.proofs.Math.Nat.{mul-le-mul}
use Rattle.std.proofs.lemmas.List.{length-append}
use Rattle.std.proofs.lemmas.List.Concat.{flat_map-cons}
use Rattle.byteorder.specs.Endian.{little_bytes}
use Rattle.manifest_codec.specs.declared.types.Manifest.{Manifest}
use Rattle.manifest_codec.specs.declared.types.PartEntry.{PartEntry}
use Rattle.manifest_codec.specs.declared.types.Version.{Version}
use Rattle.manifest_codec.specs.declared.types.Version.TheVariants.{First}
use Rattle.graph_words.specs.declared.limits.TheConstants.{MOST_LABEL_BYTES}
use Rattle.manifest_codec.specs.Spelling.{FitsManifest, longest, spelling, head_of, newest_in, head_bytes, label_bytes, part_bytes, parts_bytes}
use Rattle.manifest_codec.specs.FieldsRead.{body_at}
use Rattle.manifest_codec.proofs.FieldLaws.{ok_is}
use Rattle.manifest_codec.proofs.BodyLaws.{body_again}
use Rattle.manifest_codec.proofs.Words.{kept_from_words, labels_short}

labels_length : (labels : List (List ℕ)) → AllByRecursion (λ name. length name ≤ MOST_LABEL_BYTES) labels → length (flat_map label_bytes labels) ≤ (1 + MOST_LABEL_BYTES) * length labels
labels_length [] short = omega arith
labels_length (l ∷ labels) short = omega (arith, ap length (flat_map-cons label_bytes l labels), length-append (label_bytes l) (flat_map label_bytes labels), short.0, labels_length labels short.1)

parts_length : (parts : List PartEntry) (newest : List ℕ) → length (parts_bytes parts newest) ≤ 16 * length parts
parts_length [] newest = omega arith
parts_length (p ∷ parts) [] = omega arith
parts_length (p ∷ parts) (n ∷ newest) = omega (arith, length-append (part_bytes p n) (parts_bytes parts newest), parts_length parts newest)

numbers_length : (numbers : List ℕ) → length (flat_map (little_bytes 8) numbers) ≡ 8 * length numbers
numbers_length [] = omega arith
numbers_length (n ∷ numbers) = omega (arith, ap length (flat_map-cons (little_bytes 8) n numbers), length-append (little_bytes 8 n) (flat_map (little_bytes 8) numbers), numbers_length numbers)

seven : (a b c d e f g : List ℕ) → length (a ++ b ++ c ++ d ++ e ++ f ++ g) ≡ length a + length b + length c + length d + length e + length f + length g
seven a b c d e f g = omega (arith, length-append (a ++ b ++ c ++ d ++ e ++ f) g, length-append (a ++ b ++ c ++ d ++ e) f, length-append (a ++ b ++ c ++ d) e, length-append (a ++ b ++ c) d, length-append (a ++ b) c, length-append a b)

pub longest_spelling : (v : Version) (m : Manifest) → FitsManifest m → length (spelling v m) ≤ longest
longest_spelling First m f =
    let whole = seven (head_bytes First (head_of m)) (little_bytes 2 (length m.labels)) (flat_map label_bytes m.labels) (little_bytes 2 (length m.parts)) (parts_bytes m.parts (newest_in m)) (flat_map (little_bytes 8) m.map.1) (flat_map (little_bytes 8) m.marks.1) in
    let square : length m.parts * length m.parts ≤ 256 * 256 = mul-le-mul f.few f.few in
    omega (arith, whole, square, labels_length m.labels (labels_short m f), f.labels.short, parts_length m.parts (newest_in m), f.few, numbers_length m.map.1, f.map.rows, numbers_length m.marks.1, f.marks.rows)

pub no_shared_spelling : (v : Version) (m other : Manifest) → FitsManifest m → FitsManifest other → spelling v m ≡ spelling v other → m ≡ other
no_shared_spelling First m other f g same =
    ap (λ (x : Manifest × List ℕ). x.0) (ok_is (m, []) (other, []) (sym (body_again m [] (kept_from_words m f)) ∙ ap (λ (t : List ℕ). body_at (t ++ [])) same ∙ body_again other [] (kept_from_words other g)))
