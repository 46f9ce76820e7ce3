-- An edge that is read is the edge that was written, and what was written is read again.
use Rattle.std.proofs.Common.{◌≡◌, ◌⊎◌, ℕ, ◌+◌, ◌-◌, ◌^◌, ◌<◌, ◌≤◌, Bool, true, false, ltb, eqb, cond, List, ◌++◌, length, Option, Some, None, refl, sym, ap, ◌∙◌, append_assoc, arith, inl, inr}
use Rattle.std.proofs.lemmas.Bool.{ltb-true, lt-ltb}
use Rattle.std.proofs.lemmas.Bool.Decides.{nat_tests}
use Rattle.graph_words.specs.declared.types.Edge.{Edge}
use Rattle.graph_words.specs.declared.types.Born.{Born}
use Rattle.faults.specs.declared.form_kind.FormKind.TheVariants.{BadLabel, BadOrder, BadVertex, BadBirth}
use Rattle.partition_file.specs.declared.types.Expect.{Expect}
use Rattle.partition_file.specs.declared.types.Format.{Format}
use Rattle.partition_file.specs.declared.types.Format.TheVariants.{First, Second}
use Rattle.partition_file.specs.FieldsRead.{Behind, need, edge, born, is_known, is_above, label_of, destination_of}
use Rattle.partition_file.specs.FieldsRead.{edge_at, label_at, label_then, destination_at, destination_then, birth_at, birth_then}
use Rattle.partition_file.specs.Spelling.{found, FitsEdge, IsBytes, IsExpect, number_bytes, label_number, destination_number, edge_bytes}
use Rattle.partition_file.proofs.NumberLaws.{Takes, Takes-then, FitsNumber, wide2, wide4, wide8, need_takes, number_takes, number_again}

-- the edge stands above the one before it in the row
abbrev pub IsAbove : Option Edge → Edge → Type 0
IsAbove None x = Unit {0}
IsAbove (Some b) x = (b.label.0 < x.label.0) ⊎ ((b.label.0 ≡ x.label.0) × (b.dst.0 < x.dst.0))

-- a label that has a name or is a fresh one, with a number of 2 bytes
abbrev pub IsKnown : Expect → ℕ → Type 0
IsKnown e label = (label < 2 ^ 16) × ((label < e.named) ⊎ ((1000 ≤ label) × (label < 1000 + e.fresh)))

known_is : (e : Expect) (label : ℕ) → is_known e label ≡ true → IsKnown e label
known_is e label t = (grind (arith, nat_tests, t), grind (arith, nat_tests, t))

is_known_from : (e : Expect) (label : ℕ) → IsKnown e label → is_known e label ≡ true
is_known_from e label t = let small = t.0 in let known = t.1 in grind (arith, nat_tests, small, known)

above_is : (before : Option Edge) (x : Edge) → is_above before x.label.0 x.dst.0 ≡ true → IsAbove before x
above_is None x t = tt
above_is (Some b) x t = grind (arith, nat_tests)

is_above_from : (before : Option Edge) (x : Edge) → IsAbove before x → is_above before x.label.0 x.dst.0 ≡ true
is_above_from None x t = refl
is_above_from (Some b) x t = grind (arith, nat_tests)

-- ---- the numbers that tell an edge

label_back : (f : Format) (before : Option Edge) (v n dst : ℕ) → label_number f before (edge v (label_of f before n) dst) ≡ n
label_back First before v n dst = refl
label_back Second None v n dst = refl
label_back Second (Some b) v n dst = omega arith

later : (same : Bool) (last n : ℕ) → cond same (cond same (last + 1 + n) n - (last + 1)) (cond same (last + 1 + n) n) ≡ n
later true last n = omega arith
later false last n = refl

destination_back : (f : Format) (before : Option Edge) (v label n : ℕ) → destination_number f before (edge v label (destination_of f before label n)) ≡ n
destination_back First before v label n = refl
destination_back Second None v label n = refl
destination_back Second (Some b) v label n = later (eqb b.label.0 label) b.dst.0 n

label_there : (f : Format) (before : Option Edge) (x : Edge) → IsAbove before x → label_of f before (label_number f before x) ≡ x.label.0
label_there First before x above = refl
label_there Second None x above = refl
label_there Second (Some b) x (inl lt) = omega arith
label_there Second (Some b) x (inr same) = omega (arith, same.0)

destination_there : (f : Format) (before : Option Edge) (x : Edge) → IsAbove before x → destination_of f before x.label.0 (destination_number f before x) ≡ x.dst.0
destination_there First before x above = refl
destination_there Second None x above = refl
destination_there Second (Some b) x (inl lt) = let other : eqb b.label.0 x.label.0 ≡ false = grind (arith, nat_tests, lt) in rw other refl
destination_there Second (Some b) x (inr same) =
    let equal : eqb b.label.0 x.label.0 ≡ true = grind (arith, nat_tests, same.0) in
    let behind : b.dst.0 + 1 + (x.dst.0 - (b.dst.0 + 1)) ≡ x.dst.0 = omega (arith, same.1) in
    rw equal behind

label_fits : (f : Format) (before : Option Edge) (x : Edge) → x.label.0 < 2 ^ 16 → FitsNumber f 2 (label_number f before x)
label_fits First before x lt = omega (arith, lt)
label_fits Second None x lt = omega (arith, lt)
label_fits Second (Some b) x lt = omega (arith, lt)

fewer : (same : Bool) (n last most : ℕ) → n < most → cond same (n - (last + 1)) n < most
fewer true n last most lt = omega (arith, lt)
fewer false n last most lt = lt

destination_fits : (f : Format) (before : Option Edge) (x : Edge) → x.dst.0 < 2 ^ 32 → FitsNumber f 4 (destination_number f before x)
destination_fits First before x lt = omega (arith, lt)
destination_fits Second None x lt = omega (arith, lt)
destination_fits Second (Some b) x lt = fewer (eqb b.label.0 x.label.0) x.dst.0 b.dst.0 (2 ^ 64) (omega (arith, lt))

pub birth_fits : (f : Format) (n : ℕ) → n < 2 ^ 64 → FitsNumber f 8 n
birth_fits First n lt = omega (arith, lt)
birth_fits Second n lt = lt

-- ---- an edge was read, and what it leads to has these edges

pub record ReadsEdge (e : Expect) (f : Format) (v : ℕ) (before : Option Edge) (bytes : List ℕ) (next : Born → Behind) (es : List Born) : Type 0 where
  pub b : Born
  pub after : ℕ
  pub rest : List ℕ
  pub takes : Takes bytes (edge_bytes f before b) rest
  pub source : b.edge.src.0 ≡ v
  pub fits : FitsEdge e b
  pub above : IsAbove before b.edge
  pub leads : next b after rest ≡ found es

edge_text : (f : Format) (before : Option Edge) (v l d t : ℕ)
    → number_bytes f 2 l ++ number_bytes f 4 d ++ number_bytes f 8 t
    ≡ edge_bytes f before (born (edge v (label_of f before l) (destination_of f before (label_of f before l) d)) t)
edge_text f before v l d t =
    let label : ℕ = label_of f before l in
    ap (λ (n : ℕ). number_bytes f 2 n ++ number_bytes f 4 d ++ number_bytes f 8 t) (sym (label_back f before v l (destination_of f before label d)))
    ∙ ap (λ (n : ℕ). number_bytes f 2 (label_number f before (edge v label (destination_of f before label d))) ++ number_bytes f 4 n ++ number_bytes f 8 t) (sym (destination_back f before v label d))

pub edge_takes : (e : Expect) (f : Format) (v : ℕ) (before : Option Edge) (next : Born → Behind) (place : ℕ) (bytes : List ℕ) (es : List Born) → IsBytes bytes → edge_at e f v before next place bytes ≡ found es → ReadsEdge e f v before bytes next es
unfolding label_at label_then destination_at destination_then birth_at birth_then
edge_takes e f v before next place bytes es fits given =
    let behind_dst : ℕ → ℕ → Behind = λ label dst. birth_at e f (λ birth. next (born (edge v label dst) birth)) in
    let behind : ℕ → Behind = λ label. destination_at e f before label (behind_dst label) in
    let l = number_takes f 2 wide2 place bytes (label_then e f before place behind) es fits given in
    let label : ℕ = label_of f before l.n in
    let l-ok = need_takes (is_known e label) place BadLabel (behind label l.after l.rest) es l.leads in
    let d = number_takes f 4 wide4 l.after l.rest (destination_then e f before label l.after (behind_dst label)) es l.takes.rest_fits l-ok.1 in
    let dst : ℕ = destination_of f before label d.n in
    let d-ok = need_takes (ltb dst e.vertices) l.after BadVertex (need (is_above before label dst) l.after BadOrder (behind_dst label dst d.after d.rest)) es d.leads in
    let o-ok = need_takes (is_above before label dst) l.after BadOrder (behind_dst label dst d.after d.rest) es d-ok.1 in
    let t = number_takes f 8 wide8 d.after d.rest (birth_then e d.after (λ birth. next (born (edge v label dst) birth))) es d.takes.rest_fits o-ok.1 in
    let t-ok = need_takes (ltb t.n e.round) d.after BadBirth (next (born (edge v label dst) t.n) t.after t.rest) es t.leads in
    let known = known_is e label l-ok.0 in
    let text = Takes-then bytes (number_bytes f 2 l.n ++ number_bytes f 4 d.n) d.rest (number_bytes f 8 t.n) t.rest (Takes-then bytes (number_bytes f 2 l.n) l.rest (number_bytes f 4 d.n) d.rest l.takes d.takes) t.takes in
    record {
      b = born (edge v label dst) t.n;
      after = t.after;
      rest = t.rest;
      takes = record { parts = text.parts ∙ ap (λ (x : List ℕ). x ++ t.rest) (edge_text f before v l.n d.n t.n); rest_fits = text.rest_fits };
      source = refl {a = v};
      fits = record { known = known.1; number = known.0; vertex = ltb-true dst e.vertices d-ok.0; earlier = ltb-true t.n e.round t-ok.0 };
      above = above_is before (edge v label dst) o-ok.0;
      leads = t-ok.1;
    }

-- ---- an edge is read again

-- the place behind an edge
abbrev pub edge_end : Format → Option Edge → ℕ → Born → ℕ
edge_end f before place b =
    place + length (number_bytes f 2 (label_number f before b.edge)) + length (number_bytes f 4 (destination_number f before b.edge)) + length (number_bytes f 8 b.birth)

pub edge_again : (e : Expect) (f : Format) (before : Option Edge) (b : Born) (next : Born → Behind) (place : ℕ) (rest : List ℕ) → IsExpect e → FitsEdge e b → IsAbove before b.edge
    → edge_at e f b.edge.src.0 before next place (edge_bytes f before b ++ rest) ≡ next b (edge_end f before place b) rest
unfolding label_at label_then destination_at destination_then birth_at birth_then
edge_again e f before b next place rest ex fits above =
    let v = b.edge.src.0 in
    let l = b.edge.label.0 in
    let d = b.edge.dst.0 in
    let ln : ℕ = label_number f before b.edge in
    let dn : ℕ = destination_number f before b.edge in
    let behind_dst : ℕ → ℕ → Behind = λ label dst. birth_at e f (λ birth. next (born (edge v label dst) birth)) in
    let behind : ℕ → Behind = λ label. destination_at e f before label (behind_dst label) in
    let rest3 : List ℕ = number_bytes f 8 b.birth ++ rest in
    let rest2 : List ℕ = number_bytes f 4 dn ++ rest3 in
    let p1 : ℕ = place + length (number_bytes f 2 ln) in
    let p2 : ℕ = p1 + length (number_bytes f 4 dn) in
    let p3 : ℕ = p2 + length (number_bytes f 8 b.birth) in
    let regrouped : edge_bytes f before b ++ rest ≡ number_bytes f 2 ln ++ rest2 = simp append_assoc in
    ap (label_at e f before behind place) regrouped
    ∙ number_again f 2 place ln rest2 (label_then e f before place behind) (label_fits f before b.edge fits.number)
    ∙ ap (λ (x : ℕ). need (is_known e x) place BadLabel (behind x p1 rest2)) (label_there f before b.edge above)
    ∙ ap (λ (t : Bool). need t place BadLabel (behind l p1 rest2)) (is_known_from e l (fits.number, fits.known))
    ∙ number_again f 4 p1 dn rest3 (destination_then e f before l p1 (behind_dst l)) (destination_fits f before b.edge (omega (arith, fits.vertex, ex.vertices)))
    ∙ ap (λ (x : ℕ). need (ltb x e.vertices) p1 BadVertex (need (is_above before l x) p1 BadOrder (behind_dst l x p2 rest3))) (destination_there f before b.edge above)
    ∙ ap (λ (t : Bool). need t p1 BadVertex (need (is_above before l d) p1 BadOrder (behind_dst l d p2 rest3))) (lt-ltb _ _ fits.vertex)
    ∙ ap (λ (t : Bool). need t p1 BadOrder (behind_dst l d p2 rest3)) (is_above_from before b.edge above)
    ∙ number_again f 8 p2 b.birth rest (birth_then e p2 (λ birth. next (born (edge v l d) birth))) (birth_fits f b.birth (omega (arith, fits.earlier, ex.round)))
    ∙ ap (λ (t : Bool). need t p2 BadBirth (next b p3 rest)) (lt-ltb _ _ fits.earlier)
