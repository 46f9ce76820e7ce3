-- A body that is read is the spelling of what was read, and a spelling is read again.
use Rattle.std.proofs.Common.{◌≡◌, ℕ, ◌+◌, ◌-◌, ◌*◌, ◌^◌, ◌<◌, ◌≤◌, true, cond, List, [], ◌∷◌, ◌++◌, length, replicate, take, drop, Result, Ok, Err, refl, sym, ap, subst, ◌∙◌, append_assoc, arith, All, length-append}
use Rattle.std.specs.List.{flat_map, AllByRecursion}
use Rattle.std.proofs.lemmas.Bool.Decides.{nat_tests}
use Rattle.std.proofs.Math.Nat.{mul-le-mul_right}
use Rattle.std.proofs.lemmas.List.{length-replicate, take_at, take-append-drop, length-drop, length_push}
use Rattle.std.proofs.lemmas.List.Elements.{All-from_recursion}
use Rattle.byteorder.specs.Endian.{little_bytes}
use Rattle.faults.specs.declared.form_kind.FormKind.{FormKind}
use Rattle.faults.specs.declared.form_kind.FormKind.TheVariants.{BadNumber, BadParts, BadCount, BadMark}
use Rattle.manifest_codec.specs.declared.types.Broken.{Broken}
use Rattle.manifest_codec.specs.declared.types.Head.{Head}
use Rattle.manifest_codec.specs.declared.types.Version.TheVariants.{First}
use Rattle.manifest_codec.specs.declared.types.PartEntry.{PartEntry}
use Rattle.manifest_codec.specs.declared.types.Manifest.{Manifest}
use Rattle.manifest_codec.specs.declared.types.ManifestFault.{ManifestFault}
use Rattle.manifest_codec.specs.Rules.{newest_version, at_most, is_label_count, is_part_count, is_end, widths, count_limits, is_reached}
use Rattle.manifest_codec.specs.FieldsRead.{◌>>=◌, field_at, head_at, labels_at, parts_at, cells_at, front_at, table_at, manifest_of, body_at}
use Rattle.manifest_codec.specs.Spelling.{SpellsManifest, head_of, newest_in, head_bytes, label_bytes, parts_bytes, spelling}
use Rattle.manifest_codec.proofs.Kept.{Kept, HeadFits, LabelsFit, CellsFit, PartsFit}
use Rattle.manifest_codec.proofs.FieldLaws.{IsBytes, Takes, Takes-then, ReadsField, wide2, step_ok, ok_is, test_ok, field_takes, field_again, head_takes, head_again}
use Rattle.manifest_codec.proofs.Tables.{length-limits}
use Rattle.manifest_codec.proofs.ListLaws.{ReadsLabels, ReadsCells, labels_take, labels_again, parts_take, parts_again, cells_take, cells_again, parts_paired}

abbrev pub front_bytes : Head × List (List ℕ) → List ℕ
front_bytes f = head_bytes newest_version f.0 ++ little_bytes 2 (length f.1) ++ flat_map label_bytes f.1

abbrev pub table_bytes : List PartEntry × List ℕ → List ℕ
table_bytes parts = little_bytes 2 (length parts.0) ++ parts_bytes parts.0 parts.1

pub record FrontFits (f : Head × List (List ℕ)) : Type 0 where
  pub head : HeadFits f.0
  pub label_count : is_label_count (length f.1) ≡ true
  pub labels : LabelsFit [] f.1

front_takes : (bytes : List ℕ) (x : (Head × List (List ℕ)) × List ℕ) → IsBytes bytes → front_at bytes ≡ Ok x → Takes bytes (front_bytes x.0) x.1 × FrontFits x.0
unfolding front_at
front_takes bytes x fits e =
    let a = step_ok (head_at newest_version bytes) (λ h. field_at 2 is_label_count BadNumber h.1 >>= λ n. labels_at n.0 [] n.1 >>= λ labels. Ok ((h.0, labels.0), labels.1)) x e in
    let b = step_ok (field_at 2 is_label_count BadNumber a.x.1) (λ n. labels_at n.0 [] n.1 >>= λ labels. Ok ((a.x.0, labels.0), labels.1)) x a.leads in
    let c = step_ok (labels_at b.x.0 [] b.x.1) (λ labels. Ok ((a.x.0, labels.0), labels.1)) x b.leads in
    let h = head_takes newest_version bytes a.x fits a.is in
    let n = field_takes 2 wide2 is_label_count BadNumber a.x.1 b.x h.0.rest_fits b.is in
    let l = labels_take b.x.0 [] b.x.1 c.x n.takes.rest_fits c.is in
    front_made bytes a.x b.x c.x x h n l (ok_is ((a.x.0, c.x.0), c.x.1) x c.leads)
  where
    front_made : (bytes : List ℕ) (h : Head × List ℕ) (n : ℕ × List ℕ) (labels : List (List ℕ) × List ℕ) (x : (Head × List (List ℕ)) × List ℕ)
        → Takes bytes (head_bytes newest_version h.0) h.1 × HeadFits h.0
        → ReadsField 2 is_label_count h.1 n.0 n.1
        → ReadsLabels n.0 [] n.1 labels.0 labels.1
        → ((h.0, labels.0), labels.1) ≡ x
        → Takes bytes (front_bytes x.0) x.1 × FrontFits x.0
    front_made bytes h n labels x th tn tl made =
        let ln : length labels.0 ≡ n.0 = ap length tl.is ∙ tl.len in
        let t1 : Takes h.1 (little_bytes 2 (length labels.0)) n.1 = subst (λ (m : ℕ). Takes h.1 (little_bytes 2 m) n.1) (sym ln) tn.takes in
        let t2 : Takes n.1 (flat_map label_bytes labels.0) labels.1 = subst (λ (m : List (List ℕ)). Takes n.1 (flat_map label_bytes m) labels.1) (sym tl.is) tl.takes in
        let q1 = Takes-then bytes (head_bytes newest_version h.0) h.1 (little_bytes 2 (length labels.0)) n.1 th.0 t1 in
        let q2 = Takes-then bytes (head_bytes newest_version h.0 ++ little_bytes 2 (length labels.0)) n.1 (flat_map label_bytes labels.0) labels.1 q1 t2 in
        subst (λ (y : (Head × List (List ℕ)) × List ℕ). Takes bytes (front_bytes y.0) y.1 × FrontFits y.0) made (q2, record { head = th.1; label_count = ap is_label_count ln ∙ tn.kept; labels = subst (LabelsFit []) (sym tl.is) tl.fits })

pub record TableFits (h : Head) (ps : List PartEntry × List ℕ) : Type 0 where
  pub part_count : is_part_count h.vertices (length ps.0) ≡ true
  pub parts : PartsFit h 0 [] ps.0 ps.1

pub table_takes : (h : Head) (bytes : List ℕ) (x : (List PartEntry × List ℕ) × List ℕ) → IsBytes bytes → table_at h bytes ≡ Ok x → Takes bytes (table_bytes x.0) x.1 × TableFits h x.0
unfolding table_at
table_takes h bytes x fits e =
    let a = step_ok (field_at 2 (is_part_count h.vertices) BadParts bytes) (λ k. parts_at h k.0 0 [] [] k.1) x e in
    let k = field_takes 2 wide2 (is_part_count h.vertices) BadParts bytes a.x fits a.is in
    let p = parts_take h a.x.0 0 [] [] a.x.1 x k.takes.rest_fits a.leads in
    let t3 : Takes bytes (little_bytes 2 (length p.parts)) a.x.1 = subst (λ (m : ℕ). Takes bytes (little_bytes 2 m) a.x.1) (sym p.len) k.takes in
    let made : (List PartEntry × List ℕ) × List ℕ = ((p.parts, p.newest), x.1) in
    let same : made ≡ x = ap (λ (y : List PartEntry × List ℕ). (y, x.1)) (sym p.is) in
    subst (λ (y : (List PartEntry × List ℕ) × List ℕ). Takes bytes (table_bytes y.0) y.1 × TableFits h y.0) same
    (Takes-then bytes (little_bytes 2 (length p.parts)) a.x.1 (parts_bytes p.parts p.newest) x.1 t3 p.takes, record { part_count = ap (is_part_count h.vertices) p.len ∙ k.kept; parts = p.fits })

-- the steps of a body that was read
pub record BodySteps (bytes : List ℕ) (x : Manifest × List ℕ) : Type 0 where
  pub front : (Head × List (List ℕ)) × List ℕ
  pub parts : (List PartEntry × List ℕ) × List ℕ
  pub counts : List ℕ × List ℕ
  pub joined : List ℕ × List ℕ
  pub front_is : front_at bytes ≡ Ok front
  pub parts_is : table_at front.0.0 front.1 ≡ Ok parts
  pub counts_is : cells_at BadCount (count_limits (widths 0 parts.0.0)) [] parts.1 ≡ Ok counts
  pub joined_is : cells_at BadMark (replicate (length parts.0.0 * length parts.0.0) front.0.0.round) [] counts.1 ≡ Ok joined
  pub reached : is_reached front.0.0.round counts.0 ≡ true
  pub made : (manifest_of front.0.0 front.0.1 parts.0 counts.0 joined.0, joined.1) ≡ x

pub body_steps : (bytes : List ℕ) (x : Manifest × List ℕ) → body_at bytes ≡ Ok x → BodySteps bytes x
unfolding body_at
body_steps bytes x e =
    let a = step_ok (front_at bytes) (λ front. table_at front.0.0 front.1 >>= λ parts. cells_at BadCount (count_limits (widths 0 parts.0.0)) [] parts.1 >>= λ counts. cells_at BadMark (replicate (length parts.0.0 * length parts.0.0) front.0.0.round) [] counts.1 >>= λ joined. cond (is_reached front.0.0.round counts.0) (Ok (manifest_of front.0.0 front.0.1 parts.0 counts.0 joined.0, joined.1)) (Err (record { left = length bytes - 5; kind = BadNumber }))) x e in
    let b = step_ok (table_at a.x.0.0 a.x.1) (λ parts. cells_at BadCount (count_limits (widths 0 parts.0.0)) [] parts.1 >>= λ counts. cells_at BadMark (replicate (length parts.0.0 * length parts.0.0) a.x.0.0.round) [] counts.1 >>= λ joined. cond (is_reached a.x.0.0.round counts.0) (Ok (manifest_of a.x.0.0 a.x.0.1 parts.0 counts.0 joined.0, joined.1)) (Err (record { left = length bytes - 5; kind = BadNumber }))) x a.leads in
    let c = step_ok (cells_at BadCount (count_limits (widths 0 b.x.0.0)) [] b.x.1) (λ counts. cells_at BadMark (replicate (length b.x.0.0 * length b.x.0.0) a.x.0.0.round) [] counts.1 >>= λ joined. cond (is_reached a.x.0.0.round counts.0) (Ok (manifest_of a.x.0.0 a.x.0.1 b.x.0 counts.0 joined.0, joined.1)) (Err (record { left = length bytes - 5; kind = BadNumber }))) x b.leads in
    let d = step_ok (cells_at BadMark (replicate (length b.x.0.0 * length b.x.0.0) a.x.0.0.round) [] c.x.1) (λ joined. cond (is_reached a.x.0.0.round c.x.0) (Ok (manifest_of a.x.0.0 a.x.0.1 b.x.0 c.x.0 joined.0, joined.1)) (Err (record { left = length bytes - 5; kind = BadNumber }))) x c.leads in
    let made : Manifest × List ℕ = (manifest_of a.x.0.0 a.x.0.1 b.x.0 c.x.0 d.x.0, d.x.1) in
    let t = test_ok (is_reached a.x.0.0.round c.x.0) (record { left = length bytes - 5; kind = BadNumber }) (Ok made) x d.leads in
    record { front = a.x; parts = b.x; counts = c.x; joined = d.x; front_is = a.is; parts_is = b.is; counts_is = c.is; joined_is = d.is; reached = t.0; made = ok_is made x t.1 }

assemble : (bytes : List ℕ) (x : Manifest × List ℕ) (s : BodySteps bytes x)
    → Takes bytes (front_bytes s.front.0) s.front.1 × FrontFits s.front.0
    → Takes s.front.1 (table_bytes s.parts.0) s.parts.1 × TableFits s.front.0.0 s.parts.0
    → ReadsCells s.parts.1 (count_limits (widths 0 s.parts.0.0)) [] s.counts.0 s.counts.1
    → ReadsCells s.counts.1 (replicate (length s.parts.0.0 * length s.parts.0.0) s.front.0.0.round) [] s.joined.0 s.joined.1
    → Takes bytes (spelling newest_version x.0) x.1 × Kept x.0
assemble bytes x s f p c j =
    let t5 : Takes s.parts.1 (flat_map (little_bytes 8) s.counts.0) s.counts.1 = subst (λ (m : List ℕ). Takes s.parts.1 (flat_map (little_bytes 8) m) s.counts.1) (sym c.is) c.takes in
    let t6 : Takes s.counts.1 (flat_map (little_bytes 8) s.joined.0) s.joined.1 = subst (λ (m : List ℕ). Takes s.counts.1 (flat_map (little_bytes 8) m) s.joined.1) (sym j.is) j.takes in
    let q1 = Takes-then bytes (front_bytes s.front.0) s.front.1 (table_bytes s.parts.0) s.parts.1 f.0 p.0 in
    let q2 = Takes-then bytes (front_bytes s.front.0 ++ table_bytes s.parts.0) s.parts.1 (flat_map (little_bytes 8) s.counts.0) s.counts.1 q1 t5 in
    let q3 = Takes-then bytes (front_bytes s.front.0 ++ table_bytes s.parts.0 ++ flat_map (little_bytes 8) s.counts.0) s.counts.1 (flat_map (little_bytes 8) s.joined.0) s.joined.1 q2 t6 in
    let text : front_bytes s.front.0 ++ table_bytes s.parts.0 ++ flat_map (little_bytes 8) s.counts.0 ++ flat_map (little_bytes 8) s.joined.0 ≡ spelling newest_version (manifest_of s.front.0.0 s.front.0.1 s.parts.0 s.counts.0 s.joined.0) = simp append_assoc in
    subst (λ (y : Manifest × List ℕ). Takes bytes (spelling newest_version y.0) y.1 × Kept y.0) s.made (
      subst (λ (w : List ℕ). Takes bytes w s.joined.1) text q3,
      record {
        head = f.1.head;
        label_count = f.1.label_count;
        labels = f.1.labels;
        part_count = p.1.part_count;
        parts = p.1.parts;
        map_size = refl;
        marks_size = refl;
        counts = subst (CellsFit (count_limits (widths 0 s.parts.0.0))) (sym c.is) c.fits;
        joined = subst (CellsFit (replicate (length s.parts.0.0 * length s.parts.0.0) s.front.0.0.round)) (sym j.is) j.fits;
        reached = s.reached;
      },
    )

pub body_takes : (bytes : List ℕ) (x : Manifest × List ℕ) → IsBytes bytes → body_at bytes ≡ Ok x → Takes bytes (spelling newest_version x.0) x.1 × Kept x.0
body_takes bytes x fits e =
    let s : BodySteps bytes x = body_steps bytes x e in
    let f = front_takes bytes s.front fits s.front_is in
    let p = table_takes s.front.0.0 s.front.1 s.parts f.0.rest_fits s.parts_is in
    let c = cells_take BadCount (count_limits (widths 0 s.parts.0.0)) [] s.parts.1 s.counts p.0.rest_fits s.counts_is in
    let j = cells_take BadMark (replicate (length s.parts.0.0 * length s.parts.0.0) s.front.0.0.round) [] s.counts.1 s.joined c.takes.rest_fits s.joined_is in
    assemble bytes x s f p c j

front_again : (f : Head × List (List ℕ)) (rest : List ℕ) → FrontFits f → front_at (front_bytes f ++ rest) ≡ Ok (f, rest)
unfolding front_at
front_again f rest fits =
    let r2 : List ℕ = flat_map label_bytes f.1 ++ rest in
    let r1 : List ℕ = little_bytes 2 (length f.1) ++ r2 in
    let regrouped : front_bytes f ++ rest ≡ head_bytes newest_version f.0 ++ r1 = simp append_assoc in
    let n : length f.1 < 256 ^ 2 = grind (arith, nat_tests, fits.label_count) in
    ap front_at regrouped ∙ rw (head_again newest_version f.0 r1 fits.head, field_again 2 is_label_count BadNumber (length f.1) r2 n fits.label_count, labels_again f.1 [] rest fits.labels) refl

table_again : (h : Head) (parts : List PartEntry × List ℕ) (rest : List ℕ) → HeadFits h → TableFits h parts → table_at h (table_bytes parts ++ rest) ≡ Ok (parts, rest)
unfolding table_at
table_again h parts rest head fits =
    let r4 : List ℕ = parts_bytes parts.0 parts.1 ++ rest in
    let regrouped : table_bytes parts ++ rest ≡ little_bytes 2 (length parts.0) ++ r4 = append_assoc (little_bytes 2 (length parts.0)) (parts_bytes parts.0 parts.1) rest in
    let k : length parts.0 < 256 ^ 2 = grind (arith, nat_tests, fits.part_count) in
    let v : h.vertices < 2 ^ 32 = grind (arith, nat_tests, head.vertices) in
    ap (table_at h) regrouped ∙ rw (field_again 2 (is_part_count h.vertices) BadParts (length parts.0) r4 k fits.part_count, parts_again h parts.0 parts.1 0 [] [] rest v head.rounds fits.parts) refl

-- what its parts read makes the manifest again
remade : (m : Manifest) → Kept m → manifest_of (head_of m) m.labels (m.parts, newest_in m) m.map.1 m.marks.1 ≡ m
remade m fits = ap (λ (k : ℕ × ℕ). sized m k.0 k.1) (both_are (sym fits.map_size) (sym fits.marks_size))
  where
    sized : Manifest → ℕ → ℕ → Manifest
    sized m k l = record { generation = m.generation; round = m.round; vertices = m.vertices; grammar_len = m.grammar_len; edges_len = m.edges_len; first_len = m.first_len; labels = m.labels; parts = m.parts; map = (k, m.map.1); marks = (l, m.marks.1, m.marks.2) }

    both : ℕ → ℕ → ℕ × ℕ
    both a b = (a, b)

    both_are : {a b c d : ℕ} → a ≡ b → c ≡ d → both a c ≡ both b d
    both_are p q = cc

pub body_again : (m : Manifest) (rest : List ℕ) → Kept m → body_at (spelling newest_version m ++ rest) ≡ Ok (m, rest)
unfolding body_at
body_again m rest fits =
    let h = head_of m in
    let ps : List PartEntry × List ℕ = (m.parts, newest_in m) in
    let r6 : List ℕ = flat_map (little_bytes 8) m.marks.1 ++ rest in
    let r5 : List ℕ = flat_map (little_bytes 8) m.map.1 ++ r6 in
    let r4 : List ℕ = table_bytes ps ++ r5 in
    let regrouped : spelling newest_version m ++ rest ≡ front_bytes (h, m.labels) ++ r4 = simp append_assoc in
    let front : FrontFits (h, m.labels) = record { head = fits.head; label_count = fits.label_count; labels = fits.labels } in
    let table : TableFits h ps = record { part_count = fits.part_count; parts = fits.parts } in
    let read : body_at (spelling newest_version m ++ rest) ≡ Ok (manifest_of h m.labels ps m.map.1 m.marks.1, rest) = ap body_at regrouped ∙ rw (
      front_again (h, m.labels) r4 front,
      table_again h ps r5 fits.head table,
      cells_again BadCount (count_limits (widths 0 m.parts)) m.map.1 [] r6 fits.counts,
      cells_again BadMark (replicate (length m.parts * length m.parts) h.round) m.marks.1 [] rest fits.joined,
      fits.reached,
    ) refl in
    read ∙ ap (λ (y : Manifest). Ok (y, rest)) (remade m fits)

-- ---- what callers need

ends_within : (h : Head) (low : ℕ) (before parts : List PartEntry) (newest : List ℕ) → PartsFit h low before parts newest → AllByRecursion (λ p. p.hi ≤ h.vertices) parts
ends_within h low before [] newest fits = tt
ends_within h low before (p ∷ parts) [] fits = absurd fits
ends_within h low before (p ∷ parts) (n ∷ newest) fits = (end_within (length parts) low p.hi fits.0, ends_within h p.hi (before ++ p ∷ []) parts newest fits.3)
  where
    end_within : (left low hi : ℕ) → is_end h.vertices left low hi ≡ true → hi ≤ h.vertices
    end_within left low hi e = grind (arith, nat_tests)

widths_within : (top low : ℕ) (parts : List PartEntry) → AllByRecursion (λ p. p.hi ≤ top) parts → AllByRecursion (λ b. b ≤ top) (widths low parts)
widths_within top low [] fits = tt
widths_within top low (p ∷ parts) fits = (omega (arith, fits.0), widths_within top p.hi parts fits.1)

at_most_weaker : (top : ℕ) (ws : List ℕ) → top ≤ 16777216 → AllByRecursion (λ b. b ≤ top) ws → AllByRecursion (λ b. b ≤ 16777216) ws
at_most_weaker top [] le h = tt
at_most_weaker top (w ∷ ws) le h = (omega (arith, h.0), at_most_weaker top ws le h.1)

-- what was read in front of the counts, and what the code has to know of it
pub record TableKnown (p : List PartEntry × List ℕ) : Type 0 where
  pub small : All (λ b. b ≤ 16777216) (widths 0 p.0)
  pub few : length p.0 ≤ 256
  pub square : length p.0 * length p.0 < 2 ^ 64
  pub paired : length p.1 ≡ length p.0

square_small : (n : ℕ) → n ≤ 256 → n * n < 2 ^ 64
square_small n le = let h : n * n ≤ 256 * n = mul-le-mul_right n le in omega arith

pub table_known : (bytes : List ℕ) (f : (Head × List (List ℕ)) × List ℕ) (p : (List PartEntry × List ℕ) × List ℕ) → IsBytes bytes → front_at bytes ≡ Ok f → table_at f.0.0 f.1 ≡ Ok p → TableKnown p.0
table_known bytes f p fits e g =
    let a = front_takes bytes f fits e in
    let b = table_takes f.0.0 f.1 p a.0.rest_fits g in
    let top : f.0.0.vertices ≤ 16777216 = grind (arith, nat_tests, a.1.head.vertices) in
    let few : length p.0.0 ≤ 256 = grind (arith, nat_tests, b.1.part_count) in
    record {
      small = All-from_recursion (λ b. b ≤ 16777216) (widths 0 p.0.0) (at_most_weaker f.0.0.vertices (widths 0 p.0.0) top (widths_within f.0.0.vertices 0 p.0.0 (ends_within f.0.0 0 [] p.0.0 p.0.1 b.1.parts)));
      few = few;
      square = square_small (length p.0.0) few;
      paired = sym (parts_paired f.0.0 0 [] p.0.0 p.0.1 b.1.parts);
    }

-- as many numbers as limits were read
pub cells_length : (kind : FormKind) (limits before bytes : List ℕ) (x : List ℕ × List ℕ) → cells_at kind limits before bytes ≡ Ok x → length x.0 ≡ length before + length limits
unfolding cells_at
cells_length kind [] before bytes x e = ap (λ (y : List ℕ × List ℕ). length y.0) (sym (ok_is (before, bytes) x e)) ∙ omega arith
cells_length kind (limit ∷ limits) before bytes x e =
    let a = step_ok (field_at 8 (at_most limit) kind bytes) (λ n. cells_at kind limits (before ++ n.0 ∷ []) n.1) x e in
    cells_length kind limits (before ++ a.x.0 ∷ []) a.x.1 x a.leads ∙ omega (arith, length_push before a.x.0)

pub counts_length : (parts : List PartEntry) (bytes : List ℕ) (x : List ℕ × List ℕ) → cells_at BadCount (count_limits (widths 0 parts)) [] bytes ≡ Ok x → length x.0 ≡ length parts * length parts
counts_length parts bytes x e = omega (arith, cells_length BadCount (count_limits (widths 0 parts)) [] bytes x e, length-limits parts)

pub joined_length : (n limit : ℕ) (bytes : List ℕ) (x : List ℕ × List ℕ) → cells_at BadMark (replicate n limit) [] bytes ≡ Ok x → length x.0 ≡ n
joined_length n limit bytes x e = omega (arith, cells_length BadMark (replicate n limit) [] bytes x e, length-replicate n limit)

-- ---- the answers

abbrev done_reading : Manifest × ℕ → Result (Manifest × ℕ) ManifestFault
done_reading x = Ok x

is_done : (x y : Manifest × ℕ) → done_reading x ≡ done_reading y → x ≡ y
is_done x y e = cc

left_of : (bytes : List ℕ) (x : Manifest × List ℕ) → bytes ≡ spelling newest_version x.0 ++ x.1 → length bytes ≡ length (spelling newest_version x.0) + length x.1
left_of bytes x t = ap length t ∙ length-append (spelling newest_version x.0) x.1

-- what stands behind the body is what is left of the bytes
pub rest_is_left : (bytes : List ℕ) (x : Manifest × List ℕ) → IsBytes bytes → body_at bytes ≡ Ok x → length x.1 ≤ length bytes
rest_is_left bytes x fits e = omega (arith, left_of bytes x (body_takes bytes x fits e).0.parts)

pub ok_found : (bytes : List ℕ) (x : Manifest × List ℕ) → IsBytes bytes → body_at bytes ≡ Ok x → Kept x.0 × SpellsManifest bytes x.0 (length bytes - length x.1)
ok_found bytes x fits e =
    let t = body_takes bytes x fits e in
    let len : length bytes ≡ length (spelling newest_version x.0) + length x.1 = left_of bytes x t.0.parts in
    (t.1, (newest_version, omega arith, ap (take (length bytes - length x.1)) t.0.parts ∙ take_at (spelling newest_version x.0) x.1 (length bytes - length x.1) (omega arith)))

pub again_at : (bytes : List ℕ) (m : Manifest) (n : ℕ) → Kept m → SpellsManifest bytes m n → body_at bytes ≡ Ok (m, drop n bytes)
again_at bytes m n fits (First, within, spelled) =
    ap body_at (sym (take-append-drop n bytes) ∙ ap (λ (t : List ℕ). t ++ drop n bytes) spelled) ∙ body_again m (drop n bytes) fits

pub ok_only : (bytes : List ℕ) (x : Manifest × List ℕ) (m : Manifest) (n : ℕ) → body_at bytes ≡ Ok x → Kept m → SpellsManifest bytes m n → (x.0 ≡ m) × (length bytes - length x.1 ≡ n)
ok_only bytes x m n e fits spells =
    let same : x ≡ (m, drop n bytes) = ok_is x (m, drop n bytes) (sym e ∙ again_at bytes m n fits spells) in
    (ap (λ (y : Manifest × List ℕ). y.0) same, ap (λ (y : Manifest × List ℕ). length bytes - length y.1) same ∙ omega (arith, length-drop n bytes, spells.1))

pub err_only : (bytes : List ℕ) (d : Broken) (m : Manifest) (n : ℕ) → body_at bytes ≡ Err d → Kept m → SpellsManifest bytes m n → ⊥
err_only bytes d m n e fits spells = let h = again_at bytes m n fits spells in absurd cc
