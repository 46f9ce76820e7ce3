-- A field that is read is the field that was written, and what was written is read again.
use Rattle.std.proofs.Common.{◌≡◌, ℕ, ◌+◌, ◌^◌, ◌<◌, ◌≤◌, Bool, true, false, cond, ltb, List, [], ◌∷◌, ◌++◌, length, get_or, take, drop, Result, Ok, Err, refl, sym, ap, subst, ◌∙◌, append_assoc, arith, inl, inr}
use Rattle.std.proofs.lemmas.Bool.{cases_lt, eqb-true, ltb-false, ltb-true, le-ltb}
use Rattle.std.proofs.lemmas.Bool.Decides.{nat_tests}
use Rattle.std.proofs.lemmas.List.{drop_at, take-append-drop, length-append, length-take, get_or-drop, get_or-take, get_or_past}
use Rattle.std.proofs.lemmas.Nat.{le_bytes_2, le_bytes_4, le_bytes_8}
use Rattle.byteorder.specs.Endian.{little_number, little_bytes}
use Rattle.byteorder.specs.Numbers.{little_from-append, little_number-reads_back, little_from-lt, length-bytes_low_first}
use Rattle.faults.specs.declared.form_kind.FormKind.{FormKind}
use Rattle.faults.specs.declared.form_kind.FormKind.TheVariants.{Short, BadMagic, BadNumber, BadParts, BadFile, BadMark}
use Rattle.manifest_codec.specs.declared.types.Broken.{Broken}
use Rattle.manifest_codec.specs.declared.types.Head.{Head}
use Rattle.manifest_codec.specs.declared.types.Version.{Version}
use Rattle.manifest_codec.specs.declared.types.Version.TheVariants.{First}
use Rattle.manifest_codec.specs.declared.types.PartEntry.{PartEntry}
use Rattle.manifest_codec.specs.Rules.{is_magic, is_generation, is_round, is_vertices, is_grammar_len, is_edges_len, is_end, is_file, is_newest, magic_of}
use Rattle.manifest_codec.specs.FieldsRead.{◌>>=◌, number_at, field_at, broken, head_at, part_at}
use Rattle.manifest_codec.specs.Spelling.{head_bytes, part_bytes}
use Rattle.manifest_codec.proofs.Kept.{HeadFits}

abbrev pub IsBytes : List ℕ → Type 0
IsBytes bytes = (i : ℕ) → get_or bytes i 0 < 256

pub IsBytes-drop : (n : ℕ) (bytes : List ℕ) → IsBytes bytes → IsBytes (drop n bytes)
IsBytes-drop n bytes h i = rw get_or-drop (h (n + i))

IsBytes-take : (n : ℕ) (bytes : List ℕ) → IsBytes bytes → IsBytes (take n bytes)
IsBytes-take n bytes h i =
    elim (cases_lt i n) [
      | inl lt ↦ rw (get_or-take n bytes i 0 lt) (h i)
      | inr le ↦ rw (get_or_past (take n bytes) i 0 (omega (arith, length-take n bytes))) (omega arith)
    ]

pub record IsWide (w : ℕ) : Type 0 where
  pub back : (bytes : List ℕ) → length bytes ≡ w → IsBytes bytes → little_bytes w (little_number w bytes) ≡ bytes

one_byte : (bytes : List ℕ) → length bytes ≡ 1 → IsBytes bytes → little_bytes 1 (little_number 1 bytes) ≡ bytes
one_byte [] len fits = absurd (omega arith)
one_byte (b ∷ []) len fits = let lt : b < 256 = fits 0 in ap (λ (x : ℕ). x ∷ []) (omega arith)
one_byte (b ∷ c ∷ bytes) len fits = absurd (omega arith)

pub wide1 : IsWide 1
wide1 = record { back = one_byte }

pub wide2 : IsWide 2
wide2 = record { back = λ bytes len fits. le_bytes_2 bytes (little_number 2 bytes) len fits (omega arith) }

pub wide4 : IsWide 4
wide4 = record { back = λ bytes len fits. le_bytes_4 bytes (little_number 4 bytes) len fits (omega arith) }

pub wide8 : IsWide 8
wide8 = record { back = λ bytes len fits. le_bytes_8 bytes (little_number 8 bytes) len fits (omega arith) }

-- what was taken from the front, and what stands behind it
pub record Takes (bytes text rest : List ℕ) : Type 0 where
  pub parts : bytes ≡ text ++ rest
  pub rest_fits : IsBytes rest

pub Takes-then : (a x b y c : List ℕ) → Takes a x b → Takes b y c → Takes a (x ++ y) c
Takes-then a x b y c p q = record { parts = p.parts ∙ ap (λ (t : List ℕ). x ++ t) q.parts ∙ sym (append_assoc x y c); rest_fits = q.rest_fits }

-- a step was read, and what it leads to
pub record ReadsStep {A B : Type 0} (r : Result A Broken) (f : A → Result B Broken) (y : B) : Type 0 where
  pub x : A
  pub is : r ≡ Ok x
  pub leads : f x ≡ Ok y

pub step_ok : {A B : Type 0} (r : Result A Broken) (f : A → Result B Broken) (y : B) → (r >>= f) ≡ Ok y → ReadsStep r f y
step_ok (Ok x) f y e = record { x = x; is = refl; leads = e }
step_ok (Err d) f y e = absurd cc

abbrev done : {A : Type 0} → A → Result A Broken
done x = Ok x

pub ok_is : {A : Type 0} (x y : A) → done x ≡ done y → x ≡ y
ok_is x y e = cc

pub guard_ok : {A : Type 0} (b : Bool) (d : Broken) (x : Result A Broken) (y : A) → cond b (Err d) x ≡ Ok y → (b ≡ false) × (x ≡ Ok y)
guard_ok true d x y e = absurd cc
guard_ok false d x y e = (refl, e)

pub test_ok : {A : Type 0} (b : Bool) (d : Broken) (x : Result A Broken) (y : A) → cond b x (Err d) ≡ Ok y → (b ≡ true) × (x ≡ Ok y)
test_ok true d x y e = (refl, e)
test_ok false d x y e = absurd cc

-- a field was read
pub record ReadsField (w : ℕ) (rule : ℕ → Bool) (bytes : List ℕ) (n : ℕ) (rest : List ℕ) : Type 0 where
  pub takes : Takes bytes (little_bytes w n) rest
  pub below : n < 256 ^ w
  pub kept : rule n ≡ true

pub field_takes : (w : ℕ) → IsWide w → (rule : ℕ → Bool) (kind : FormKind) (bytes : List ℕ) (x : ℕ × List ℕ) → IsBytes bytes → field_at w rule kind bytes ≡ Ok x → ReadsField w rule bytes x.0 x.1
field_takes w wide rule kind bytes x fits e =
    let s = step_ok (number_at w bytes) (λ n. cond (rule n.0) (Ok n) (Err (broken bytes kind))) x e in
    let g = guard_ok (ltb (length bytes) w) (broken bytes Short) (Ok (little_number w bytes, drop w bytes)) s.x s.is in
    let t = test_ok (rule s.x.0) (broken bytes kind) (Ok s.x) x s.leads in
    let long : w ≤ length bytes = ltb-false _ _ g.0 in
    let front : List ℕ = take w bytes in
    let len : length front ≡ w = omega (arith, length-take w bytes) in
    let same : little_number w bytes ≡ little_number w front = ap (little_number w) (sym (take-append-drop w bytes)) ∙ little_from-append w front (drop w bytes) (omega arith) in
    let text : little_bytes w (little_number w bytes) ≡ front = ap (little_bytes w) same ∙ wide.back front len (IsBytes-take w bytes fits) in
    let first : ReadsField w rule bytes (little_number w bytes) (drop w bytes) = record {
      takes = record { parts = rw text (sym (take-append-drop w bytes)); rest_fits = IsBytes-drop w bytes fits };
      below = little_from-lt 0 w bytes fits;
      kept = ap (λ (p : ℕ × List ℕ). rule p.0) (ok_is (little_number w bytes, drop w bytes) s.x g.1) ∙ t.0;
    } in
    subst (λ (p : ℕ × List ℕ). ReadsField w rule bytes p.0 p.1) (ok_is (little_number w bytes, drop w bytes) s.x g.1 ∙ ok_is s.x x t.1) first

pub field_again : (w : ℕ) (rule : ℕ → Bool) (kind : FormKind) (n : ℕ) (rest : List ℕ) → n < 256 ^ w → rule n ≡ true → field_at w rule kind (little_bytes w n ++ rest) ≡ Ok (n, rest)
field_again w rule kind n rest lt kept =
    let len = length-bytes_low_first 0 w n in
    let long : ltb (length (little_bytes w n ++ rest)) w ≡ false = le-ltb _ _ (omega (arith, length-append (little_bytes w n) rest)) in
    let value : little_number w (little_bytes w n ++ rest) ≡ n = little_number-reads_back w n rest lt in
    rw (long, value, kept, drop_at (little_bytes w n) rest w len) refl

-- ---- a partition

pub part_takes : (h : Head) (left low : ℕ) (before : List PartEntry) (bytes : List ℕ) (x : (PartEntry × ℕ) × List ℕ) → IsBytes bytes → part_at h left low before bytes ≡ Ok x
    → Takes bytes (part_bytes x.0.0 x.0.1) x.1 × (is_end h.vertices left low x.0.0.hi ≡ true) × (is_file before x.0.0.file ≡ true) × (is_newest h.round x.0.1 ≡ true)
unfolding part_at
part_takes h left low before bytes x fits e =
    let a = step_ok (field_at 4 (is_end h.vertices left low) BadParts bytes) (λ hi. field_at 4 (is_file before) BadFile hi.1 >>= λ file. field_at 8 (is_newest h.round) BadMark file.1 >>= λ newest. Ok ((record { hi = hi.0; file = file.0 }, newest.0), newest.1)) x e in
    let b = step_ok (field_at 4 (is_file before) BadFile a.x.1) (λ file. field_at 8 (is_newest h.round) BadMark file.1 >>= λ newest. Ok ((record { hi = a.x.0; file = file.0 }, newest.0), newest.1)) x a.leads in
    let c = step_ok (field_at 8 (is_newest h.round) BadMark b.x.1) (λ newest. Ok ((record { hi = a.x.0; file = b.x.0 }, newest.0), newest.1)) x b.leads in
    let f = field_takes 4 wide4 (is_end h.vertices left low) BadParts bytes a.x fits a.is in
    let g = field_takes 4 wide4 (is_file before) BadFile a.x.1 b.x f.takes.rest_fits b.is in
    let k = field_takes 8 wide8 (is_newest h.round) BadMark b.x.1 c.x g.takes.rest_fits c.is in
    let made : (PartEntry × ℕ) × List ℕ = ((record { hi = a.x.0; file = b.x.0 }, c.x.0), c.x.1) in
    let text = Takes-then bytes (little_bytes 4 a.x.0 ++ little_bytes 4 b.x.0) b.x.1 (little_bytes 8 c.x.0) c.x.1 (Takes-then bytes (little_bytes 4 a.x.0) a.x.1 (little_bytes 4 b.x.0) b.x.1 f.takes g.takes) k.takes in
    subst (λ (y : (PartEntry × ℕ) × List ℕ). Takes bytes (part_bytes y.0.0 y.0.1) y.1 × (is_end h.vertices left low y.0.0.hi ≡ true) × (is_file before y.0.0.file ≡ true) × (is_newest h.round y.0.1 ≡ true)) (ok_is made x c.leads) (text, f.kept, g.kept, k.kept)

-- ---- the head

pub head_takes : (v : Version) (bytes : List ℕ) (x : Head × List ℕ) → IsBytes bytes → head_at v bytes ≡ Ok x → Takes bytes (head_bytes v x.0) x.1 × HeadFits x.0
unfolding head_at
head_takes First bytes x fits e =
    let s0 = step_ok (field_at 4 (is_magic First) BadMagic bytes) (λ magic. field_at 1 is_generation BadNumber magic.1 >>= λ generation. field_at 8 is_round BadNumber generation.1 >>= λ round. field_at 4 is_vertices BadNumber round.1 >>= λ vertices. field_at 8 is_grammar_len BadNumber vertices.1 >>= λ grammar. field_at 8 is_edges_len BadNumber grammar.1 >>= λ edges. Ok (record { generation = generation.0; round = round.0; vertices = vertices.0; grammar_len = grammar.0; edges_len = edges.0; first_len = edges.0 }, edges.1)) x e in
    let s1 = step_ok (field_at 1 is_generation BadNumber s0.x.1) (λ generation. field_at 8 is_round BadNumber generation.1 >>= λ round. field_at 4 is_vertices BadNumber round.1 >>= λ vertices. field_at 8 is_grammar_len BadNumber vertices.1 >>= λ grammar. field_at 8 is_edges_len BadNumber grammar.1 >>= λ edges. Ok (record { generation = generation.0; round = round.0; vertices = vertices.0; grammar_len = grammar.0; edges_len = edges.0; first_len = edges.0 }, edges.1)) x s0.leads in
    let s2 = step_ok (field_at 8 is_round BadNumber s1.x.1) (λ round. field_at 4 is_vertices BadNumber round.1 >>= λ vertices. field_at 8 is_grammar_len BadNumber vertices.1 >>= λ grammar. field_at 8 is_edges_len BadNumber grammar.1 >>= λ edges. Ok (record { generation = s1.x.0; round = round.0; vertices = vertices.0; grammar_len = grammar.0; edges_len = edges.0; first_len = edges.0 }, edges.1)) x s1.leads in
    let s3 = step_ok (field_at 4 is_vertices BadNumber s2.x.1) (λ vertices. field_at 8 is_grammar_len BadNumber vertices.1 >>= λ grammar. field_at 8 is_edges_len BadNumber grammar.1 >>= λ edges. Ok (record { generation = s1.x.0; round = s2.x.0; vertices = vertices.0; grammar_len = grammar.0; edges_len = edges.0; first_len = edges.0 }, edges.1)) x s2.leads in
    let s4 = step_ok (field_at 8 is_grammar_len BadNumber s3.x.1) (λ grammar. field_at 8 is_edges_len BadNumber grammar.1 >>= λ edges. Ok (record { generation = s1.x.0; round = s2.x.0; vertices = s3.x.0; grammar_len = grammar.0; edges_len = edges.0; first_len = edges.0 }, edges.1)) x s3.leads in
    let s5 = step_ok (field_at 8 is_edges_len BadNumber s4.x.1) (λ edges. Ok (record { generation = s1.x.0; round = s2.x.0; vertices = s3.x.0; grammar_len = s4.x.0; edges_len = edges.0; first_len = edges.0 }, edges.1)) x s4.leads in
    let f0 = field_takes 4 wide4 (is_magic First) BadMagic bytes s0.x fits s0.is in
    let f1 = field_takes 1 wide1 is_generation BadNumber s0.x.1 s1.x f0.takes.rest_fits s1.is in
    let f2 = field_takes 8 wide8 is_round BadNumber s1.x.1 s2.x f1.takes.rest_fits s2.is in
    let f3 = field_takes 4 wide4 is_vertices BadNumber s2.x.1 s3.x f2.takes.rest_fits s3.is in
    let f4 = field_takes 8 wide8 is_grammar_len BadNumber s3.x.1 s4.x f3.takes.rest_fits s4.is in
    let f5 = field_takes 8 wide8 is_edges_len BadNumber s4.x.1 s5.x f4.takes.rest_fits s5.is in
    let magic : s0.x.0 ≡ magic_of First = eqb-true s0.x.0 (magic_of First) f0.kept in
    let made : Head × List ℕ = (record { generation = s1.x.0; round = s2.x.0; vertices = s3.x.0; grammar_len = s4.x.0; edges_len = s5.x.0; first_len = s5.x.0 }, s5.x.1) in
    let t0 : Takes bytes (little_bytes 4 (magic_of First)) s0.x.1 = subst (λ (k : ℕ). Takes bytes (little_bytes 4 k) s0.x.1) magic f0.takes in
    let t1 = Takes-then bytes (little_bytes 4 (magic_of First)) s0.x.1 (little_bytes 1 s1.x.0) s1.x.1 t0 f1.takes in
    let t2 = Takes-then bytes (little_bytes 4 (magic_of First) ++ little_bytes 1 s1.x.0) s1.x.1 (little_bytes 8 s2.x.0) s2.x.1 t1 f2.takes in
    let t3 = Takes-then bytes (little_bytes 4 (magic_of First) ++ little_bytes 1 s1.x.0 ++ little_bytes 8 s2.x.0) s2.x.1 (little_bytes 4 s3.x.0) s3.x.1 t2 f3.takes in
    let t4 = Takes-then bytes (little_bytes 4 (magic_of First) ++ little_bytes 1 s1.x.0 ++ little_bytes 8 s2.x.0 ++ little_bytes 4 s3.x.0) s3.x.1 (little_bytes 8 s4.x.0) s4.x.1 t3 f4.takes in
    let t5 = Takes-then bytes (little_bytes 4 (magic_of First) ++ little_bytes 1 s1.x.0 ++ little_bytes 8 s2.x.0 ++ little_bytes 4 s3.x.0 ++ little_bytes 8 s4.x.0) s4.x.1 (little_bytes 8 s5.x.0) s5.x.1 t4 f5.takes in
    subst (λ (y : Head × List ℕ). Takes bytes (head_bytes First y.0) y.1 × HeadFits y.0) (ok_is made x s5.leads) (t5, record { generation = f1.kept; round = f2.kept; vertices = f3.kept; grammar_len = f4.kept; edges_len = f5.kept; first_len = refl; rounds = f2.below })

pub part_again : (h : Head) (left low : ℕ) (before : List PartEntry) (p : PartEntry) (newest : ℕ) (rest : List ℕ) → h.vertices < 2 ^ 32 → h.round < 2 ^ 64 → is_end h.vertices left low p.hi ≡ true → is_file before p.file ≡ true → is_newest h.round newest ≡ true → part_at h left low before (part_bytes p newest ++ rest) ≡ Ok ((p, newest), rest)
unfolding part_at
part_again h left low before p newest rest vertices round end file born =
    let regrouped : part_bytes p newest ++ rest ≡ little_bytes 4 p.hi ++ (little_bytes 4 p.file ++ (little_bytes 8 newest ++ rest)) = simp append_assoc in
    let a : p.hi < 256 ^ 4 = grind (arith, nat_tests) in
    let b : p.file < 256 ^ 4 = grind (arith, nat_tests) in
    let c : newest < 256 ^ 8 = omega (arith, ltb-true newest h.round born) in
    ap (part_at h left low before) regrouped ∙ rw (
      field_again 4 (is_end h.vertices left low) BadParts p.hi (little_bytes 4 p.file ++ (little_bytes 8 newest ++ rest)) a end,
      field_again 4 (is_file before) BadFile p.file (little_bytes 8 newest ++ rest) b file,
      field_again 8 (is_newest h.round) BadMark newest rest c born,
    ) refl

pub head_again : (v : Version) (h : Head) (rest : List ℕ) → HeadFits h → head_at v (head_bytes v h ++ rest) ≡ Ok (h, rest)
unfolding head_at
head_again First h rest fits =
    let r5 : List ℕ = little_bytes 8 h.edges_len ++ rest in
    let r4 : List ℕ = little_bytes 8 h.grammar_len ++ r5 in
    let r3 : List ℕ = little_bytes 4 h.vertices ++ r4 in
    let r2 : List ℕ = little_bytes 8 h.round ++ r3 in
    let r1 : List ℕ = little_bytes 1 h.generation ++ r2 in
    let regrouped : head_bytes First h ++ rest ≡ little_bytes 4 (magic_of First) ++ r1 = simp append_assoc in
    let generation : h.generation < 256 ^ 1 = grind (arith, nat_tests, fits.generation) in
    let vertices : h.vertices < 256 ^ 4 = grind (arith, nat_tests, fits.vertices) in
    let grammar : h.grammar_len < 256 ^ 8 = grind (arith, nat_tests, fits.grammar_len) in
    let edges : h.edges_len < 256 ^ 8 = grind (arith, nat_tests, fits.edges_len) in
    ap (head_at First) regrouped ∙ rw (
      field_again 4 (is_magic First) BadMagic (magic_of First) r1 (omega arith) refl,
      field_again 1 is_generation BadNumber h.generation r2 generation fits.generation,
      field_again 8 is_round BadNumber h.round r3 (omega (arith, fits.rounds)) fits.round,
      field_again 4 is_vertices BadNumber h.vertices r4 vertices fits.vertices,
      field_again 8 is_grammar_len BadNumber h.grammar_len r5 grammar fits.grammar_len,
      field_again 8 is_edges_len BadNumber h.edges_len rest edges fits.edges_len,
    ) (ap (λ (n : ℕ). Ok (record { generation = h.generation; round = h.round; vertices = h.vertices; grammar_len = h.grammar_len; edges_len = h.edges_len; first_len = n }, rest)) (sym fits.first_len))
