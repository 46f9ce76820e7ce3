-- What bytes that don't end within a field say, is said whatever stands behind them.
use Rattle.std.proofs.Common.{◌≡◌, ◌⊎◌, ℕ, zero, suc, ◌+◌, ◌-◌, ◌<◌, ◌≤◌, Bool, true, false, not, List, [], ◌∷◌, ◌++◌, length, take, drop, Result, Ok, Err, refl, sym, ap, subst, ◌∙◌, arith, inl, inr}
use Rattle.std.specs.Prelude.{if◌then◌else◌, nat_lt}
use Rattle.std.proofs.lemmas.Bool.{cases_lt}
use Rattle.std.proofs.lemmas.Bool.Decides.{nat_tests}
use Rattle.std.proofs.lemmas.List.{length-append, length-drop, take-append-le, drop-append-le}
use Rattle.byteorder.specs.Endian.{little_number}
use Rattle.byteorder.specs.Numbers.{little_from-append}
use Rattle.faults.specs.declared.form_kind.FormKind.{FormKind}
use Rattle.faults.specs.declared.form_kind.FormKind.TheVariants.{Short, BadMagic, BadNumber, BadLabel, RepeatedLabel}
use Rattle.graph_words.specs.Text.{is_label_word}
use Rattle.label_table.specs.Names.{has_name}
use Rattle.manifest_codec.specs.declared.types.Broken.{Broken}
use Rattle.manifest_codec.specs.declared.types.Head.{Head}
use Rattle.manifest_codec.specs.declared.types.PartEntry.{PartEntry}
use Rattle.manifest_codec.specs.declared.types.Manifest.{Manifest}
use Rattle.manifest_codec.specs.declared.types.ManifestFault.{ManifestFault}
use Rattle.manifest_codec.specs.FieldsRead.{◌>>=◌, Read, broken, number_at, field_at, head_at, label_at, labels_at, part_at, parts_at, cells_at, front_at, table_at, body_at, counted}
use Rattle.manifest_codec.specs.Rules.{newest_version, is_magic, is_generation}
use Rattle.manifest_codec.proofs.FieldLaws.{step_ok, test_ok, ok_is}
use Rattle.manifest_codec.specs.Prefix.{EndsInField, Settles}
use Rattle.manifest_codec.specs.declared.types.Version.{Version}
use Rattle.manifest_codec.specs.declared.types.Version.TheVariants.{First}

-- the field that breaks its rule has so many bytes more behind it
abbrev longer : Broken → List ℕ → Broken
longer b more = record { left = b.left + length more; kind = b.kind }

-- with more bytes behind, the same is read and these are left too, unless the bytes ended within a field
abbrev Goes : {A : Type 0} → List ℕ → Read A → Read A → Type 0
Goes more (Ok x) later = later ≡ Ok (x.0, x.1 ++ more)
Goes more (Err b) later = (b.kind ≡ Short) ⊎ (later ≡ Err (longer b more))

-- a step, and what it leads to
step : {A B : Type 0} (more : List ℕ) (now later : Read A) (k l : A × List ℕ → Read B) → Goes more now later → ((x : A × List ℕ) → now ≡ Ok x → Goes more (k x) (l (x.0, x.1 ++ more))) → Goes more (now >>= k) (later >>= l)
step {A} {B} more (Ok x) later k l goes next = subst (λ (y : Read A). Goes more (k x) (y >>= l)) (sym goes) (next x refl)
step more (Err b) later k l (inl short) next = inl short
step {A} {B} more (Err b) later k l (inr is) next = inr (ap (λ (y : Read A). y >>= l) is)

-- a rule that doesn't ask what stands behind
rule_goes : {A : Type 0} (ok : Bool) (x : A) (rest more : List ℕ) (at now : List ℕ) (kind : FormKind) → now ≡ at ++ more → Goes more (if ok then Ok (x, rest) else Err (broken at kind)) (if ok then Ok (x, rest ++ more) else Err (broken now kind))
rule_goes true x rest more at now kind is = refl
rule_goes {A} false x rest more at now kind is = inr (ap (λ (n : ℕ). err A (record { left = n; kind = kind })) (ap (λ (l : List ℕ). length l) is ∙ length-append at more))
  where
    err : (A : Type 0) → Broken → Read A
    err A b = Err b

rule_goes_else : {A : Type 0} (bad : Bool) (x : A) (rest more : List ℕ) (at now : List ℕ) (kind : FormKind) → now ≡ at ++ more → Goes more (if bad then Err (broken at kind) else Ok (x, rest)) (if bad then Err (broken now kind) else Ok (x, rest ++ more))
rule_goes_else true x rest more at now kind is = rule_goes false x rest more at now kind is
rule_goes_else false x rest more at now kind is = refl

number-short : (w : ℕ) (bytes : List ℕ) → length bytes < w → number_at w bytes ≡ Err (broken bytes Short)
number-short w bytes short = grind (arith, nat_tests)

number-long : (w : ℕ) (bytes : List ℕ) → w ≤ length bytes → number_at w bytes ≡ Ok (little_number w bytes, drop w bytes)
number-long w bytes long = grind (arith, nat_tests)

number_goes : (w : ℕ) (bytes more : List ℕ) → Goes more (number_at w bytes) (number_at w (bytes ++ more))
number_goes w bytes more = elim (cases_lt (length bytes) w) [
  | inl short ↦ subst (λ (r : Read ℕ). Goes more r (number_at w (bytes ++ more))) (sym (number-short w bytes short)) (inl refl)
  | inr long ↦
      let all : w ≤ length (bytes ++ more) = omega (arith, length-append bytes more, long) in
      let value : little_number w (bytes ++ more) ≡ little_number w bytes = little_from-append w bytes more long in
      let rest : drop w (bytes ++ more) ≡ drop w bytes ++ more = drop-append-le w bytes more long in
      let later : number_at w (bytes ++ more) ≡ Ok (little_number w bytes, drop w bytes ++ more) = number-long w (bytes ++ more) all ∙ (λ i. Ok (value i, rest i)) in
      subst (λ (r : Read ℕ). Goes more r (number_at w (bytes ++ more))) (sym (number-long w bytes long)) later
]

field_goes : (w : ℕ) (rule : ℕ → Bool) (kind : FormKind) (bytes more : List ℕ) → Goes more (field_at w rule kind bytes) (field_at w rule kind (bytes ++ more))
field_goes w rule kind bytes more =
    step more (number_at w bytes) (number_at w (bytes ++ more)) (λ n. if rule n.0 then Ok n else Err (broken bytes kind)) (λ n. if rule n.0 then Ok n else Err (broken (bytes ++ more) kind)) (number_goes w bytes more)
    (λ x is. rule_goes (rule x.0) x.0 x.1 more bytes (bytes ++ more) kind refl)

head_goes : (v : Version) (bytes more : List ℕ) → Goes more (head_at v bytes) (head_at v (bytes ++ more))
unfolding head_at
head_goes First bytes more =
    step more _ _ _ _ (field_goes 4 _ _ bytes more) (λ magic is.
    step more _ _ _ _ (field_goes 1 _ _ magic.1 more) (λ generation is.
    step more _ _ _ _ (field_goes 8 _ _ generation.1 more) (λ round is.
    step more _ _ _ _ (field_goes 4 _ _ round.1 more) (λ vertices is.
    step more _ _ _ _ (field_goes 8 _ _ vertices.1 more) (λ grammar is.
    step more _ _ _ _ (field_goes 8 _ _ grammar.1 more) (λ edges is. refl))))))

-- the rules of a label's bytes
abbrev label_rules : List (List ℕ) → List ℕ → List ℕ → List ℕ → Read (List (List ℕ))
label_rules before field name rest =
    if not (is_label_word name) then Err (broken field BadLabel) else
    if has_name before name then Err (broken field RepeatedLabel) else Ok (before ++ name ∷ [], rest)

label-short : (before : List (List ℕ)) (n : ℕ) (bytes : List ℕ) → length bytes < n → label_at before (n ∷ bytes) ≡ Err (broken (n ∷ bytes) Short)
unfolding label_at
label-short before n bytes short = grind (arith, nat_tests)

label-long : (before : List (List ℕ)) (n : ℕ) (bytes : List ℕ) → n ≤ length bytes → label_at before (n ∷ bytes) ≡ label_rules before (n ∷ bytes) (take n bytes) (drop n bytes)
unfolding label_at
label-long before n bytes long = rw (at_least n bytes long) refl
  where
    at_least : (n : ℕ) (bytes : List ℕ) → n ≤ length bytes → nat_lt (length bytes) n ≡ false
    at_least n bytes long = grind (arith, nat_tests)

label_rules_go : (word known : Bool) (before : List (List ℕ)) (field name rest more : List ℕ)
    → Goes more (if not word then Err (broken field BadLabel) else if known then Err (broken field RepeatedLabel) else Ok (before ++ name ∷ [], rest))
    (if not word then Err (broken (field ++ more) BadLabel) else if known then Err (broken (field ++ more) RepeatedLabel) else Ok (before ++ name ∷ [], rest ++ more))
label_rules_go true known before field name rest more = rule_goes_else known (before ++ name ∷ []) rest more field (field ++ more) RepeatedLabel refl
label_rules_go false known before field name rest more = rule_goes false (before ++ name ∷ []) rest more field (field ++ more) BadLabel refl

label_goes : (before : List (List ℕ)) (bytes more : List ℕ) → Goes more (label_at before bytes) (label_at before (bytes ++ more))
unfolding label_at
label_goes before [] more = inl refl
label_goes before (n ∷ bytes) more = elim (cases_lt (length bytes) n) [
  | inl short ↦ subst (λ (r : Read (List (List ℕ))). Goes more r (label_at before (n ∷ bytes ++ more))) (sym (label-short before n bytes short)) (inl refl)
  | inr long ↦
      let all : n ≤ length (bytes ++ more) = omega (arith, length-append bytes more, long) in
      let name : take n (bytes ++ more) ≡ take n bytes = take-append-le n bytes more long in
      let rest : drop n (bytes ++ more) ≡ drop n bytes ++ more = drop-append-le n bytes more long in
      let later : label_at before (n ∷ bytes ++ more) ≡ label_rules before (n ∷ bytes ++ more) (take n bytes) (drop n bytes ++ more) =
      label-long before n (bytes ++ more) all ∙ (λ i. label_rules before (n ∷ bytes ++ more) (name i) (rest i)) in
      let goes = label_rules_go (is_label_word (take n bytes)) (has_name before (take n bytes)) before (n ∷ bytes) (take n bytes) (drop n bytes) more in
      subst (λ (r : Read (List (List ℕ))). Goes more r (label_at before (n ∷ bytes ++ more))) (sym (label-long before n bytes long))
      (subst (λ (r : Read (List (List ℕ))). Goes more (label_rules before (n ∷ bytes) (take n bytes) (drop n bytes)) r) (sym later) goes)
]

labels_go : (n : ℕ) (before : List (List ℕ)) (bytes more : List ℕ) → Goes more (labels_at n before bytes) (labels_at n before (bytes ++ more))
unfolding labels_at
labels_go zero before bytes more = refl
labels_go (suc n) before bytes more = step more _ _ _ _ (label_goes before bytes more) (λ x is. labels_go n x.0 x.1 more)

part_goes : (h : Head) (left low : ℕ) (before : List PartEntry) (bytes more : List ℕ) → Goes more (part_at h left low before bytes) (part_at h left low before (bytes ++ more))
unfolding part_at
part_goes h left low before bytes more =
    step more _ _ _ _ (field_goes 4 _ _ bytes more) (λ hi is.
    step more _ _ _ _ (field_goes 4 _ _ hi.1 more) (λ file is.
    step more _ _ _ _ (field_goes 8 _ _ file.1 more) (λ newest is. refl)))

parts_go : (h : Head) (n low : ℕ) (before : List PartEntry) (newest bytes more : List ℕ) → Goes more (parts_at h n low before newest bytes) (parts_at h n low before newest (bytes ++ more))
unfolding parts_at
parts_go h zero low before newest bytes more = refl
parts_go h (suc n) low before newest bytes more = step more _ _ _ _ (part_goes h n low before bytes more) (λ x is. parts_go h n x.0.0.hi (before ++ x.0.0 ∷ []) (newest ++ x.0.1 ∷ []) x.1 more)

cells_go : (kind : FormKind) (limits before bytes more : List ℕ) → Goes more (cells_at kind limits before bytes) (cells_at kind limits before (bytes ++ more))
unfolding cells_at
cells_go kind [] before bytes more = refl
cells_go kind (limit ∷ limits) before bytes more = step more _ _ _ _ (field_goes 8 _ _ bytes more) (λ x is. cells_go kind limits (before ++ x.0 ∷ []) x.1 more)

front_goes : (bytes more : List ℕ) → Goes more (front_at bytes) (front_at (bytes ++ more))
unfolding front_at
front_goes bytes more =
    step more _ _ _ _ (head_goes newest_version bytes more) (λ h is.
    step more _ _ _ _ (field_goes 2 _ _ h.1 more) (λ n is.
    step more _ _ _ _ (labels_go n.0 [] n.1 more) (λ labels is. refl)))

table_goes : (h : Head) (bytes more : List ℕ) → Goes more (table_at h bytes) (table_at h (bytes ++ more))
unfolding table_at
table_goes h bytes more = step more _ _ _ _ (field_goes 2 _ _ bytes more) (λ k is. parts_go h k.0 0 [] [] k.1 more)

-- the last rule is on the round: its field has these bytes behind its first
round_goes : {A : Type 0} (ok : Bool) (x : A) (rest more : List ℕ) (left all : ℕ) (kind : FormKind) → all ≡ left + length more
    → Goes more (if ok then Ok (x, rest) else Err (record { left = left; kind = kind })) (if ok then Ok (x, rest ++ more) else Err (record { left = all; kind = kind }))
round_goes true x rest more left all kind is = refl
round_goes {A} false x rest more left all kind is = inr (ap (λ (n : ℕ). err A (record { left = n; kind = kind })) is)
  where
    err : (A : Type 0) → Broken → Read A
    err A b = Err b

-- so many bytes are left behind a field
field-left : (w : ℕ) (rule : ℕ → Bool) (kind : FormKind) (bytes : List ℕ) (x : ℕ × List ℕ) → field_at w rule kind bytes ≡ Ok x → length x.1 + w ≡ length bytes
field-left w rule kind bytes x is =
    let s = step_ok (number_at w bytes) (λ n. if rule n.0 then Ok n else Err (broken bytes kind)) x is in
    let last = test_ok (rule s.x.0) (broken bytes kind) (Ok s.x) x s.leads in
    elim (cases_lt (length bytes) w) [
      | inl short ↦ absurd (ok_not_err (number_at w bytes) s.x (broken bytes Short) s.is (number-short w bytes short))
      | inr long ↦
          let same = ok_is (little_number w bytes, drop w bytes) s.x (sym (number-long w bytes long) ∙ s.is) ∙ ok_is s.x x last.1 in
          let count : length x.1 ≡ length (drop w bytes) = ap (λ (p : ℕ × List ℕ). length p.1) (sym same) in
          omega (arith, count, length-drop w bytes, long)
    ]
  where
    ok_not_err : (r : Read ℕ) (x : ℕ × List ℕ) (b : Broken) → r ≡ Ok x → r ≡ Err b → ⊥
    ok_not_err r x b p q = cc

-- what has a front has at least magic and generation
front-long : (bytes : List ℕ) (x : (Head × List (List ℕ)) × List ℕ) → front_at bytes ≡ Ok x → 5 ≤ length bytes
unfolding front_at head_at
front-long bytes x is =
    let head = step_ok (head_at newest_version bytes) _ x is in
    let magic = step_ok (field_at 4 (is_magic First) BadMagic bytes) _ head.x head.is in
    let generation = step_ok (field_at 1 is_generation BadNumber magic.x.1) _ head.x magic.leads in
    omega (arith, field-left 4 (is_magic First) BadMagic bytes magic.x magic.is, field-left 1 is_generation BadNumber magic.x.1 generation.x generation.is)

body_goes : (bytes more : List ℕ) → Goes more (body_at bytes) (body_at (bytes ++ more))
unfolding body_at
body_goes bytes more =
    step more _ _ _ _ (front_goes bytes more) (λ front is.
    step more _ _ _ _ (table_goes front.0.0 front.1 more) (λ parts is_parts.
    step more _ _ _ _ (cells_go _ _ [] parts.1 more) (λ counts is_counts.
    step more _ _ _ _ (cells_go _ _ [] counts.1 more) (λ joined is_joined.
    round_goes _ _ joined.1 more (length bytes - 5) (length (bytes ++ more) - 5) _ (omega (arith, length-append bytes more, front-long bytes front is))))))

pub settles : (bytes behind : List ℕ) → Settles bytes behind
settles bytes behind = counted_goes (body_at bytes) (body_at (bytes ++ behind)) (body_goes bytes behind)
  where
    err : Broken → ℕ → Result (Manifest × ℕ) ManifestFault
    err b n = Err (record { place = 1 + n; kind = b.kind })

    ok : Manifest → ℕ → Result (Manifest × ℕ) ManifestFault
    ok m n = Ok (m, n)

    counted_goes : (now later : Read Manifest) → Goes behind now later → EndsInField (counted (length bytes) now) ⊎ (counted (length (bytes ++ behind)) later ≡ counted (length bytes) now)
    counted_goes (Ok x) later is =
        let left : length (bytes ++ behind) - length (x.1 ++ behind) ≡ length bytes - length x.1 = omega (arith, length-append bytes behind, length-append x.1 behind) in
        inr (ap (counted (length (bytes ++ behind))) is ∙ ap (ok x.0) left)
    counted_goes (Err b) later (inl short) = inl short
    counted_goes (Err b) later (inr is) =
        let left : length (bytes ++ behind) - (b.left + length behind) ≡ length bytes - b.left = omega (arith, length-append bytes behind) in
        inr (ap (counted (length (bytes ++ behind))) is ∙ ap (err b) left)
