-- Labels, partitions and cells that are read are those that were written, and what was written is read again.
use Rattle.std.proofs.Common.{◌≡◌, ℕ, zero, suc, ◌+◌, ◌^◌, ◌<◌, ◌≤◌, Bool, true, false, not, cond, ltb, List, [], ◌∷◌, ◌++◌, length, take, drop, Ok, Err, refl, sym, ap, subst, ◌∙◌, append_assoc, arith}
use Rattle.std.specs.List.{flat_map}
use Rattle.std.proofs.lemmas.Bool.{ltb-false, le-ltb}
use Rattle.std.proofs.lemmas.List.{length_push, append-nil, take_at, drop_at, take-append-drop, length-append, length-take}
use Rattle.std.proofs.lemmas.List.Concat.{flat_map-cons}
use Rattle.byteorder.specs.Endian.{little_bytes}
use Rattle.faults.specs.declared.form_kind.FormKind.{FormKind}
use Rattle.faults.specs.declared.form_kind.FormKind.TheVariants.{Short, BadLabel, RepeatedLabel}
use Rattle.manifest_codec.specs.declared.types.Head.{Head}
use Rattle.manifest_codec.specs.declared.types.PartEntry.{PartEntry}
use Rattle.graph_words.specs.Text.{is_label_word}
use Rattle.label_table.specs.Names.{has_name}
use Rattle.manifest_codec.specs.Rules.{at_most, is_end}
use Rattle.manifest_codec.specs.FieldsRead.{◌>>=◌, Read, field_at, broken, label_at, labels_at, part_at, parts_at, cells_at}
use Rattle.manifest_codec.specs.Spelling.{label_bytes, part_bytes, parts_bytes}
use Rattle.manifest_codec.proofs.Kept.{LabelsFit, PartsFit, CellsFit}
use Rattle.manifest_codec.proofs.FieldLaws.{IsBytes, IsBytes-drop, Takes, Takes-then, wide8, step_ok, ok_is, guard_ok, field_takes, field_again, part_takes, part_again}

-- ---- labels

-- a label was read behind those before
record ReadsLabel (before : List (List ℕ)) (bytes : List ℕ) (all : List (List ℕ)) (rest : List ℕ) : Type 0 where
  pub name : List ℕ
  pub is : all ≡ before ++ name ∷ []
  pub takes : Takes bytes (label_bytes name) rest
  pub label : is_label_word name ≡ true
  pub new : not (has_name before name) ≡ true

label_takes : (before : List (List ℕ)) (bytes : List ℕ) (x : List (List ℕ) × List ℕ) → IsBytes bytes → label_at before bytes ≡ Ok x → ReadsLabel before bytes x.0 x.1
unfolding label_at
label_takes before [] x fits e = absurd cc
label_takes before (n ∷ bytes) x fits e =
    let name : List ℕ = take n bytes in
    let last : Read (List (List ℕ)) = Ok (before ++ name ∷ [], drop n bytes) in
    let third : Read (List (List ℕ)) = cond (has_name before name) (Err (broken (n ∷ bytes) RepeatedLabel)) last in
    let second : Read (List (List ℕ)) = cond (not (is_label_word name)) (Err (broken (n ∷ bytes) BadLabel)) third in
    let a = guard_ok (ltb (length bytes) n) (broken (n ∷ bytes) Short) second x e in
    let b = guard_ok (not (is_label_word name)) (broken (n ∷ bytes) BadLabel) third x a.1 in
    let c = guard_ok (has_name before name) (broken (n ∷ bytes) RepeatedLabel) last x b.1 in
    let long : n ≤ length bytes = ltb-false _ _ a.0 in
    let len : length name ≡ n = omega (arith, length-take n bytes) in
    let text : n ∷ bytes ≡ label_bytes name ++ drop n bytes = rw len (ap (λ (t : List ℕ). n ∷ t) (sym (take-append-drop n bytes))) in
    let made : List (List ℕ) × List ℕ = (before ++ name ∷ [], drop n bytes) in
    subst (λ (y : List (List ℕ) × List ℕ). ReadsLabel before (n ∷ bytes) y.0 y.1) (ok_is made x c.1)
    (record { name = name; is = refl; takes = record { parts = text; rest_fits = IsBytes-drop n bytes (λ i. fits (suc i)) }; label = is_true (is_label_word name) b.0; new = ap not c.0 })
  where
    is_true : (b : Bool) → not b ≡ false → b ≡ true
    is_true true e = refl
    is_true false e = absurd cc

-- a label more
pub label_adds : (before : List (List ℕ)) (bytes : List ℕ) (x : List (List ℕ) × List ℕ) → label_at before bytes ≡ Ok x → length x.0 ≡ length before + 1
unfolding label_at
label_adds before [] x e = absurd cc
label_adds before (n ∷ bytes) x e =
    let name : List ℕ = take n bytes in
    let last : Read (List (List ℕ)) = Ok (before ++ name ∷ [], drop n bytes) in
    let third : Read (List (List ℕ)) = cond (has_name before name) (Err (broken (n ∷ bytes) RepeatedLabel)) last in
    let second : Read (List (List ℕ)) = cond (not (is_label_word name)) (Err (broken (n ∷ bytes) BadLabel)) third in
    let a = guard_ok (ltb (length bytes) n) (broken (n ∷ bytes) Short) second x e in
    let b = guard_ok (not (is_label_word name)) (broken (n ∷ bytes) BadLabel) third x a.1 in
    let c = guard_ok (has_name before name) (broken (n ∷ bytes) RepeatedLabel) last x b.1 in
    let made : List (List ℕ) × List ℕ = (before ++ name ∷ [], drop n bytes) in
    ap (λ (y : List (List ℕ) × List ℕ). length y.0) (sym (ok_is made x c.1)) ∙ length_push before name

label_again : (before : List (List ℕ)) (name rest : List ℕ) → is_label_word name ≡ true → not (has_name before name) ≡ true → label_at before (label_bytes name ++ rest) ≡ Ok (before ++ name ∷ [], rest)
unfolding label_at
label_again before name rest ok new =
    let long : ltb (length (name ++ rest)) (length name) ≡ false = le-ltb _ _ (omega (arith, length-append name rest)) in
    let absent : has_name before name ≡ false = is_false (has_name before name) new in
    rw (long, take_at name rest (length name) refl, drop_at name rest (length name) refl, ok, absent) refl
  where
    is_false : (b : Bool) → not b ≡ true → b ≡ false
    is_false true e = absurd cc
    is_false false e = refl

-- labels were read behind those before
pub record ReadsLabels (n : ℕ) (before : List (List ℕ)) (bytes : List ℕ) (all : List (List ℕ)) (rest : List ℕ) : Type 0 where
  pub labels : List (List ℕ)
  pub is : all ≡ before ++ labels
  pub len : length labels ≡ n
  pub takes : Takes bytes (flat_map label_bytes labels) rest
  pub fits : LabelsFit before labels

pub labels_take : (n : ℕ) (before : List (List ℕ)) (bytes : List ℕ) (x : List (List ℕ) × List ℕ) → IsBytes bytes → labels_at n before bytes ≡ Ok x → ReadsLabels n before bytes x.0 x.1
unfolding labels_at
labels_take zero before bytes x fits e =
    subst (λ (y : List (List ℕ) × List ℕ). ReadsLabels 0 before bytes y.0 y.1) (ok_is (before, bytes) x e) (record { labels = []; is = sym (append-nil before); len = refl; takes = record { parts = refl; rest_fits = fits }; fits = tt })
labels_take (suc n) before bytes x fits e =
    let a = step_ok (label_at before bytes) (λ labels. labels_at n labels.0 labels.1) x e in
    let one = label_takes before bytes a.x fits a.is in
    let more = labels_take n a.x.0 a.x.1 x one.takes.rest_fits a.leads in
    record {
      labels = one.name ∷ more.labels;
      is = more.is ∙ ap (λ (t : List (List ℕ)). t ++ more.labels) one.is ∙ append_assoc before (one.name ∷ []) more.labels;
      len = ap suc more.len;
      takes = rw (flat_map-cons label_bytes one.name more.labels) (Takes-then bytes (label_bytes one.name) a.x.1 (flat_map label_bytes more.labels) x.1 one.takes more.takes);
      fits = (one.label, one.new, subst (λ (t : List (List ℕ)). LabelsFit t more.labels) one.is more.fits);
    }

pub labels_again : (labels before : List (List ℕ)) (rest : List ℕ) → LabelsFit before labels → labels_at (length labels) before (flat_map label_bytes labels ++ rest) ≡ Ok (before ++ labels, rest)
unfolding labels_at
labels_again [] before rest fits = ap (λ (x : List (List ℕ)). Ok (x, rest)) (sym (append-nil before))
labels_again (l ∷ labels) before rest fits =
    let regrouped : flat_map label_bytes (l ∷ labels) ++ rest ≡ label_bytes l ++ (flat_map label_bytes labels ++ rest) = ap (λ (x : List ℕ). x ++ rest) (flat_map-cons label_bytes l labels) ∙ append_assoc (label_bytes l) (flat_map label_bytes labels) rest in
    ap (λ (x : List ℕ). label_at before x >>= λ all. labels_at (length labels) all.0 all.1) regrouped
    ∙ ap (λ (r : Read (List (List ℕ))). r >>= λ all. labels_at (length labels) all.0 all.1) (label_again before l (flat_map label_bytes labels ++ rest) fits.0 fits.1)
    ∙ labels_again labels (before ++ l ∷ []) rest fits.2
    ∙ ap (λ (x : List (List ℕ)). Ok (x, rest)) (append_assoc before (l ∷ []) labels)

-- ---- partitions

abbrev both : List PartEntry → List ℕ → List PartEntry × List ℕ
both parts newest = (parts, newest)

both_are : {a b : List PartEntry} {c d : List ℕ} → a ≡ b → c ≡ d → both a c ≡ both b d
both_are p q = cc

-- partitions were read behind those before, and newest births likewise
pub record ReadsParts (h : Head) (n low : ℕ) (before : List PartEntry) (births bytes : List ℕ) (all : List PartEntry × List ℕ) (rest : List ℕ) : Type 0 where
  pub parts : List PartEntry
  pub newest : List ℕ
  pub is : all ≡ (before ++ parts, births ++ newest)
  pub len : length parts ≡ n
  pub takes : Takes bytes (parts_bytes parts newest) rest
  pub fits : PartsFit h low before parts newest

pub parts_take : (h : Head) (n low : ℕ) (before : List PartEntry) (births bytes : List ℕ) (x : (List PartEntry × List ℕ) × List ℕ) → IsBytes bytes → parts_at h n low before births bytes ≡ Ok x → ReadsParts h n low before births bytes x.0 x.1
unfolding parts_at
parts_take h zero low before births bytes x fits e =
    let is : both before births ≡ both (before ++ []) (births ++ []) = both_are (sym (append-nil before)) (sym (append-nil births)) in
    subst (λ (y : (List PartEntry × List ℕ) × List ℕ). ReadsParts h 0 low before births bytes y.0 y.1) (ok_is ((before, births), bytes) x e) (record { parts = []; newest = []; is = is; len = refl; takes = record { parts = refl; rest_fits = fits }; fits = tt })
parts_take h (suc n) low before births bytes x fits e =
    let a = step_ok (part_at h n low before bytes) (λ part. parts_at h n part.0.0.hi (before ++ part.0.0 ∷ []) (births ++ part.0.1 ∷ []) part.1) x e in
    let one = part_takes h n low before bytes a.x fits a.is in
    let more = parts_take h n a.x.0.0.hi (before ++ a.x.0.0 ∷ []) (births ++ a.x.0.1 ∷ []) a.x.1 x one.0.rest_fits a.leads in
    record {
      parts = a.x.0.0 ∷ more.parts;
      newest = a.x.0.1 ∷ more.newest;
      is = more.is ∙ both_are (append_assoc before (a.x.0.0 ∷ []) more.parts) (append_assoc births (a.x.0.1 ∷ []) more.newest);
      len = ap suc more.len;
      takes = Takes-then bytes (part_bytes a.x.0.0 a.x.0.1) a.x.1 (parts_bytes more.parts more.newest) x.1 one.0 more.takes;
      fits = (ap (λ (k : ℕ). is_end h.vertices k low a.x.0.0.hi) more.len ∙ one.1, one.2, one.3, more.fits);
    }

pub parts_again : (h : Head) (parts : List PartEntry) (newest : List ℕ) (low : ℕ) (before : List PartEntry) (births rest : List ℕ) → h.vertices < 2 ^ 32 → h.round < 2 ^ 64 → PartsFit h low before parts newest → parts_at h (length parts) low before births (parts_bytes parts newest ++ rest) ≡ Ok ((before ++ parts, births ++ newest), rest)
unfolding parts_at
parts_again h [] [] low before births rest vertices round fits = ap (λ (x : List PartEntry × List ℕ). Ok (x, rest)) (both_are (sym (append-nil before)) (sym (append-nil births)))
parts_again h [] (n ∷ newest) low before births rest vertices round fits = absurd fits
parts_again h (p ∷ parts) [] low before births rest vertices round fits = absurd fits
parts_again h (p ∷ parts) (n ∷ newest) low before births rest vertices round fits =
    let regrouped : parts_bytes (p ∷ parts) (n ∷ newest) ++ rest ≡ part_bytes p n ++ (parts_bytes parts newest ++ rest) = append_assoc (part_bytes p n) (parts_bytes parts newest) rest in
    ap (λ (x : List ℕ). part_at h (length parts) low before x >>= λ part. parts_at h (length parts) part.0.0.hi (before ++ part.0.0 ∷ []) (births ++ part.0.1 ∷ []) part.1) regrouped
    ∙ ap (λ (r : Read (PartEntry × ℕ)). r >>= λ part. parts_at h (length parts) part.0.0.hi (before ++ part.0.0 ∷ []) (births ++ part.0.1 ∷ []) part.1) (part_again h (length parts) low before p n (parts_bytes parts newest ++ rest) vertices round fits.0 fits.1 fits.2)
    ∙ parts_again h parts newest p.hi (before ++ p ∷ []) (births ++ n ∷ []) rest vertices round fits.3
    ∙ ap (λ (x : List PartEntry × List ℕ). Ok (x, rest)) (both_are (append_assoc before (p ∷ []) parts) (append_assoc births (n ∷ []) newest))

-- as many births as partitions
pub parts_paired : (h : Head) (low : ℕ) (before parts : List PartEntry) (newest : List ℕ) → PartsFit h low before parts newest → length parts ≡ length newest
parts_paired h low before [] [] fits = refl
parts_paired h low before [] (n ∷ newest) fits = absurd fits
parts_paired h low before (p ∷ parts) [] fits = absurd fits
parts_paired h low before (p ∷ parts) (n ∷ newest) fits = ap suc (parts_paired h p.hi (before ++ p ∷ []) parts newest fits.3)

-- ---- cells

pub record ReadsCells (bytes limits before all rest : List ℕ) : Type 0 where
  pub cells : List ℕ
  pub is : all ≡ before ++ cells
  pub takes : Takes bytes (flat_map (little_bytes 8) cells) rest
  pub fits : CellsFit limits cells

pub cells_take : (kind : FormKind) (limits before bytes : List ℕ) (x : List ℕ × List ℕ) → IsBytes bytes → cells_at kind limits before bytes ≡ Ok x → ReadsCells bytes limits before x.0 x.1
unfolding cells_at
cells_take kind [] before bytes x fits e =
    subst (λ (y : List ℕ × List ℕ). ReadsCells bytes [] before y.0 y.1) (ok_is (before, bytes) x e) (record { cells = []; is = sym (append-nil before); takes = record { parts = refl; rest_fits = fits }; fits = tt })
cells_take kind (limit ∷ limits) before bytes x fits e =
    let a = step_ok (field_at 8 (at_most limit) kind bytes) (λ n. cells_at kind limits (before ++ n.0 ∷ []) n.1) x e in
    let one = field_takes 8 wide8 (at_most limit) kind bytes a.x fits a.is in
    let more = cells_take kind limits (before ++ a.x.0 ∷ []) a.x.1 x one.takes.rest_fits a.leads in
    record {
      cells = a.x.0 ∷ more.cells;
      is = more.is ∙ append_assoc before (a.x.0 ∷ []) more.cells;
      takes = rw (flat_map-cons (little_bytes 8) a.x.0 more.cells) (Takes-then bytes (little_bytes 8 a.x.0) a.x.1 (flat_map (little_bytes 8) more.cells) x.1 one.takes more.takes);
      fits = (one.kept, one.below, more.fits);
    }

pub cells_again : (kind : FormKind) (limits cells before rest : List ℕ) → CellsFit limits cells → cells_at kind limits before (flat_map (little_bytes 8) cells ++ rest) ≡ Ok (before ++ cells, rest)
unfolding cells_at
cells_again kind [] [] before rest fits = ap (λ (x : List ℕ). Ok (x, rest)) (sym (append-nil before))
cells_again kind [] (n ∷ cells) before rest fits = absurd fits
cells_again kind (limit ∷ limits) [] before rest fits = absurd fits
cells_again kind (limit ∷ limits) (n ∷ cells) before rest fits =
    let regrouped : flat_map (little_bytes 8) (n ∷ cells) ++ rest ≡ little_bytes 8 n ++ (flat_map (little_bytes 8) cells ++ rest) = ap (λ (x : List ℕ). x ++ rest) (flat_map-cons (little_bytes 8) n cells) ∙ append_assoc (little_bytes 8 n) (flat_map (little_bytes 8) cells) rest in
    ap (λ (x : List ℕ). field_at 8 (at_most limit) kind x >>= λ m. cells_at kind limits (before ++ m.0 ∷ []) m.1) regrouped
    ∙ ap (λ (r : Read ℕ). r >>= λ m. cells_at kind limits (before ++ m.0 ∷ []) m.1) (field_again 8 (at_most limit) kind n (flat_map (little_bytes 8) cells ++ rest) fits.1 fits.0)
    ∙ cells_again kind limits cells (before ++ n ∷ []) rest fits.2
    ∙ ap (λ (x : List ℕ). Ok (x, rest)) (append_assoc before (n ∷ []) cells)

-- as many numbers as limits
pub cells_paired : (limits cells : List ℕ) → CellsFit limits cells → length cells ≡ length limits
cells_paired [] [] fits = refl
cells_paired [] (n ∷ cells) fits = absurd fits
cells_paired (limit ∷ limits) [] fits = absurd fits
cells_paired (limit ∷ limits) (n ∷ cells) fits = ap suc (cells_paired limits cells fits.2)
