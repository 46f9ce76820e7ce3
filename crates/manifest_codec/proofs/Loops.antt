-- Items that are read one after the other, as a loop does.
use Rattle.std.proofs.Common.{◌≡◌, ℕ, suc, ◌-◌, ◌+◌, ◌≤◌, ◌<◌, List, [], ◌∷◌, ◌++◌, length, drop, get_or, Ok, Err, refl, sym, ap, ◌∙◌, append_assoc, arith}
use Rattle.std.proofs.Math.Seq.{drop-cons}
use Rattle.std.proofs.lemmas.List.{drop_all}
use Rattle.std.proofs.lemmas.Bool.{lt-ltb, le-ltb}
use Rattle.faults.specs.declared.form_kind.FormKind.{FormKind}
use Rattle.manifest_codec.specs.declared.types.Head.{Head}
use Rattle.manifest_codec.specs.declared.types.PartEntry.{PartEntry}
use Rattle.manifest_codec.specs.declared.types.FieldError.{FieldError}
use Rattle.manifest_codec.specs.declared.types.FieldError.TheVariants as errors
use Rattle.manifest_codec.specs.Spelling.{part_bytes, parts_bytes}
use Rattle.manifest_codec.specs.FieldsRead.{Read, Fails, number_at, broken, label_at, labels_at, part_at, parts_at, cells_at}

pub labels_go_on : (count i : ℕ) (before : List (List ℕ)) (bytes : List ℕ) (after : List (List ℕ)) (behind : List ℕ) (total : Read (List (List ℕ))) → i < count → label_at before bytes ≡ Ok (after, behind) → labels_at (count - i) before bytes ≡ total → labels_at (count - (i + 1)) after behind ≡ total
unfolding labels_at
labels_go_on count i before bytes after behind total lt here so_far =
    let k : count - i ≡ suc (count - (i + 1)) = omega arith in
    let one : labels_at (count - i) before bytes ≡ labels_at (count - (i + 1)) after behind = rw (k, here) refl in
    sym one ∙ so_far

pub labels_end : (e : FieldError) (count i : ℕ) (before : List (List ℕ)) (bytes : List ℕ) (total : Read (List (List ℕ))) → i < count → Fails e (label_at before bytes) → labels_at (count - i) before bytes ≡ total → Fails e total
unfolding labels_at
labels_end (errors.Broken b) count i before bytes total lt here so_far =
    let k : count - i ≡ suc (count - (i + 1)) = omega arith in
    let one : labels_at (count - i) before bytes ≡ Err b = rw (k, here) refl in
    sym so_far ∙ one
labels_end errors.NoMemory count i before bytes total lt here so_far = tt

pub labels_done : (count i : ℕ) (before : List (List ℕ)) (bytes : List ℕ) (total : Read (List (List ℕ))) → count ≤ i → labels_at (count - i) before bytes ≡ total → total ≡ Ok (before, bytes)
unfolding labels_at
labels_done count i before bytes total le so_far =
    let k : count - i ≡ 0 = omega arith in
    let one : labels_at (count - i) before bytes ≡ Ok (before, bytes) = rw k refl in
    sym so_far ∙ one

pub parts_go_on : (h : Head) (count i low : ℕ) (before : List PartEntry) (newest bytes : List ℕ) (part : PartEntry × ℕ) (behind : List ℕ) (total : Read (List PartEntry × List ℕ)) → i < count → part_at h (count - 1 - i) low before bytes ≡ Ok (part, behind) → parts_at h (count - i) low before newest bytes ≡ total → parts_at h (count - (i + 1)) part.0.hi (before ++ part.0 ∷ []) (newest ++ part.1 ∷ []) behind ≡ total
unfolding parts_at
parts_go_on h count i low before newest bytes part behind total lt here so_far =
    let k : count - i ≡ suc (count - 1 - i) = omega arith in
    let m : count - (i + 1) ≡ count - 1 - i = omega arith in
    let one : parts_at h (count - i) low before newest bytes ≡ parts_at h (count - 1 - i) part.0.hi (before ++ part.0 ∷ []) (newest ++ part.1 ∷ []) behind = rw (k, here) refl in
    rw m (sym one ∙ so_far)

pub parts_end : (e : FieldError) (h : Head) (count i low : ℕ) (before : List PartEntry) (newest bytes : List ℕ) (total : Read (List PartEntry × List ℕ)) → i < count → Fails e (part_at h (count - 1 - i) low before bytes) → parts_at h (count - i) low before newest bytes ≡ total → Fails e total
unfolding parts_at
parts_end (errors.Broken b) h count i low before newest bytes total lt here so_far =
    let k : count - i ≡ suc (count - 1 - i) = omega arith in
    let one : parts_at h (count - i) low before newest bytes ≡ Err b = rw (k, here) refl in
    sym so_far ∙ one
parts_end errors.NoMemory h count i low before newest bytes total lt here so_far = tt

pub parts_done : (h : Head) (count i low : ℕ) (before : List PartEntry) (newest bytes : List ℕ) (total : Read (List PartEntry × List ℕ)) → count ≤ i → parts_at h (count - i) low before newest bytes ≡ total → total ≡ Ok ((before, newest), bytes)
unfolding parts_at
parts_done h count i low before newest bytes total le so_far =
    let k : count - i ≡ 0 = omega arith in
    let one : parts_at h (count - i) low before newest bytes ≡ Ok ((before, newest), bytes) = rw k refl in
    sym so_far ∙ one

cells_step : (kind : FormKind) (limit : ℕ) (limits before bytes : List ℕ) (n : ℕ) (behind : List ℕ) → n ≤ limit → number_at 8 bytes ≡ Ok (n, behind) → cells_at kind (limit ∷ limits) before bytes ≡ cells_at kind limits (before ++ n ∷ []) behind
unfolding cells_at
cells_step kind limit limits before bytes n behind le here = rw (here, le-ltb limit n le) refl

pub cells_go_on : (kind : FormKind) (limits : List ℕ) (i : ℕ) (before bytes : List ℕ) (n : ℕ) (behind : List ℕ) (total : Read (List ℕ)) → i < length limits → n ≤ get_or limits i 0 → number_at 8 bytes ≡ Ok (n, behind) → cells_at kind (drop i limits) before bytes ≡ total → cells_at kind (drop (i + 1) limits) (before ++ n ∷ []) behind ≡ total
cells_go_on kind limits i before bytes n behind total lt le here so_far =
    let next : i + 1 ≡ suc i = omega arith in
    rw next (sym (ap (λ (x : List ℕ). cells_at kind x before bytes) (drop-cons limits i 0 lt) ∙ cells_step kind (get_or limits i 0) (drop (suc i) limits) before bytes n behind le here) ∙ so_far)

cells_fail : (e : FieldError) (kind : FormKind) (limit : ℕ) (limits before bytes : List ℕ) → Fails e (number_at 8 bytes) → Fails e (cells_at kind (limit ∷ limits) before bytes)
unfolding cells_at
cells_fail (errors.Broken b) kind limit limits before bytes here = rw here refl
cells_fail errors.NoMemory kind limit limits before bytes here = tt

pub cells_end : (e : FieldError) (kind : FormKind) (limits : List ℕ) (i : ℕ) (before bytes : List ℕ) (total : Read (List ℕ)) → i < length limits → Fails e (number_at 8 bytes) → cells_at kind (drop i limits) before bytes ≡ total → Fails e total
cells_end e kind limits i before bytes total lt here so_far =
    rw (← so_far, drop-cons limits i 0 lt) (cells_fail e kind (get_or limits i 0) (drop (suc i) limits) before bytes here)

pub cells_break : (kind : FormKind) (limits : List ℕ) (i : ℕ) (before bytes : List ℕ) (n : ℕ) (behind : List ℕ) (total : Read (List ℕ)) → i < length limits → get_or limits i 0 < n → number_at 8 bytes ≡ Ok (n, behind) → cells_at kind (drop i limits) before bytes ≡ total → total ≡ Err (broken bytes kind)
unfolding cells_at
cells_break kind limits i before bytes n behind total lt gt here so_far =
    let one : cells_at kind (get_or limits i 0 ∷ drop (suc i) limits) before bytes ≡ Err (broken bytes kind) = rw (here, lt-ltb (get_or limits i 0) n gt) refl in
    sym so_far ∙ ap (λ (x : List ℕ). cells_at kind x before bytes) (drop-cons limits i 0 lt) ∙ one

pub cells_done : (kind : FormKind) (limits : List ℕ) (i : ℕ) (before bytes : List ℕ) (total : Read (List ℕ)) → length limits ≤ i → cells_at kind (drop i limits) before bytes ≡ total → total ≡ Ok (before, bytes)
unfolding cells_at
cells_done kind limits i before bytes total le so_far =
    sym so_far ∙ ap (λ (x : List ℕ). cells_at kind x before bytes) (drop_all i limits le)

-- the partition that comes next, and those behind it
pub parts_bytes_next : (parts : List PartEntry) (newest : List ℕ) (i : ℕ) (d : PartEntry) → i < length parts → i < length newest → parts_bytes (drop i parts) (drop i newest) ≡ part_bytes (get_or parts i d) (get_or newest i 0) ++ parts_bytes (drop (i + 1) parts) (drop (i + 1) newest)
parts_bytes_next parts newest i d a b =
    let next : i + 1 ≡ suc i = omega arith in
    rw (next, drop-cons parts i d a, drop-cons newest i 0 b) refl

pub parts_bytes_step : (out more all : List ℕ) (parts : List PartEntry) (newest : List ℕ) (i : ℕ) (d : PartEntry) → i < length parts → i < length newest → more ≡ out ++ part_bytes (get_or parts i d) (get_or newest i 0) → out ++ parts_bytes (drop i parts) (drop i newest) ≡ all → more ++ parts_bytes (drop (i + 1) parts) (drop (i + 1) newest) ≡ all
parts_bytes_step out more all parts newest i d a b e so_far =
    let rest : List ℕ = parts_bytes (drop (i + 1) parts) (drop (i + 1) newest) in
    ap (λ (t : List ℕ). t ++ rest) e ∙ append_assoc out (part_bytes (get_or parts i d) (get_or newest i 0)) rest ∙ sym (ap (λ (t : List ℕ). out ++ t) (parts_bytes_next parts newest i d a b)) ∙ so_far
