-- A partition file that is read is the spelling of what was read, and a spelling is read again.
use Rattle.std.proofs.Common.{◌≡◌, ℕ, ◌+◌, ◌-◌, ◌^◌, ◌<◌, ◌≤◌, Bool, true, eqb, List, [], ◌∷◌, ◌++◌, length, Option, Some, None, Err, refl, sym, ap, subst, ◌∙◌, append_assoc, inl, inr, arith}
use Rattle.std.specs.List.{AllByRecursion}
use Rattle.std.proofs.lemmas.Bool.{eqb-true, cases_Bool}
use Rattle.std.proofs.lemmas.Bool.Decides.{nat_tests}
use Rattle.std.proofs.lemmas.List.Elements.{All-from_recursion, recursion_from_All}
use Rattle.byteorder.specs.Endian.{little_bytes}
use Rattle.graph_words.specs.declared.types.Born.{Born}
use Rattle.faults.specs.declared.form_kind.FormKind.TheVariants.{BadBounds}
use Rattle.partition_file.specs.declared.types.Expect.{Expect}
use Rattle.partition_file.specs.declared.types.Format.{Format}
use Rattle.partition_file.specs.declared.types.Format.TheVariants.{First, Second}
use Rattle.partition_file.specs.declared.types.PartError.{PartError}
use Rattle.partition_file.specs.declared.types.PartError.TheVariants as errors
use Rattle.partition_file.specs.FieldsRead.{Found, need, rows_at, magic_number, format_of, in_format, high_at, high_then, low_at, low_then, magic_at, magic_then, reading}
use Rattle.partition_file.specs.Spelling.{found, Part, FitsEdge, FitsPart, IsBytes, IsExpect, magic_bytes, rows_bytes, spelling, SpellsPart, DecodesPart, AnswersPart}
use Rattle.partition_file.proofs.NumberLaws.{Takes-then, wide4, need_takes, number_takes, number_again}
use Rattle.partition_file.proofs.Splits.{Above, Ascends-from_pairs, pairs_from_Ascends}
use Rattle.partition_file.proofs.RowLaws.{rows_take, rows_again}

abbrev pub part : Expect → List Born → Part
part e es = record { lo = e.lo; hi = e.hi; edges = es }

format_takes : (e : Expect) (place : ℕ) (f : Option Format) (after : ℕ) (rest : List ℕ) (es : List Born) → in_format e place f after rest ≡ found es → (g : Format) × (f ≡ Some g) × (low_at e g after rest ≡ found es)
format_takes e place None after rest es given = let h = ap (λ (x : Found). x.fault) given in absurd cc
format_takes e place (Some g) after rest es given = (g, refl, given)

-- the format that has a magic
format_is : (m : ℕ) (g : Format) → format_of m ≡ Some g → m ≡ magic_number g
format_is m g e = elim (cases_Bool (eqb m (magic_number First))) [
  | inl first ↦ let same : Some First ≡ Some g = sym (rw first refl) ∙ e in eqb-true _ _ first ∙ ap magic_number (the_one First g same)
  | inr other ↦ elim (cases_Bool (eqb m (magic_number Second))) [
    | inl second ↦ let same : Some Second ≡ Some g = sym (rw (other, second) refl) ∙ e in eqb-true _ _ second ∙ ap magic_number (the_one Second g same)
    | inr none ↦ let no : None ≡ Some g = sym (rw (other, none) refl) ∙ e in absurd cc
  ]
]
  where
    the_one : (f g : Format) → Some f ≡ Some g → f ≡ g
    the_one f g e = cc

first_rows : (e : Expect) (lo hi : ℕ) (es : List Born) → lo < hi → Above lo es → AllByRecursion (λ b. b.edge.src.0 < lo + (hi - lo)) es → AllByRecursion (λ b. (lo ≤ b.edge.src.0) × (b.edge.src.0 < hi)) es
first_rows e lo hi [] lt low high = tt
first_rows e lo hi (b ∷ es) lt low high = ((low.0, omega (arith, high.0)), first_rows e lo hi es lt low.1 high.1)

header : (bytes : List ℕ) (m m' l l' h h' : ℕ) (rest rest' : List ℕ) → bytes ≡ ((little_bytes 4 m ++ little_bytes 4 l) ++ little_bytes 4 h) ++ rest → m ≡ m' → l ≡ l' → h ≡ h' → rest ≡ rest' → bytes ≡ ((little_bytes 4 m' ++ little_bytes 4 l') ++ little_bytes 4 h') ++ rest'
header bytes m m' l l' h h' rest rest' given em el eh er =
    given ∙ ap (λ (x : ℕ). ((little_bytes 4 x ++ little_bytes 4 l) ++ little_bytes 4 h) ++ rest) em
    ∙ ap (λ (x : ℕ). ((little_bytes 4 m' ++ little_bytes 4 x) ++ little_bytes 4 h) ++ rest) el
    ∙ ap (λ (x : ℕ). ((little_bytes 4 m' ++ little_bytes 4 l') ++ little_bytes 4 x) ++ rest) eh
    ∙ ap (λ (x : List ℕ). ((little_bytes 4 m' ++ little_bytes 4 l') ++ little_bytes 4 h') ++ x) er

-- the number of a magic is that of its bytes
magic_text : (f : Format) → little_bytes 4 (magic_number f) ≡ magic_bytes f
magic_text First = refl
magic_text Second = refl

magic_fits : (f : Format) → magic_number f < 256 ^ 4
magic_fits First = omega arith
magic_fits Second = omega arith

magic_is : (f : Format) → format_of (magic_number f) ≡ Some f
magic_is First = refl
magic_is Second = refl

pub file_takes : (e : Expect) (bytes : List ℕ) (es : List Born) → e.lo < e.hi → IsBytes bytes → length es < 2 ^ 64 → reading e bytes ≡ found es → SpellsPart bytes (part e es) × FitsPart e (part e es)
unfolding magic_at magic_then low_at low_then high_at high_then
file_takes e bytes es bounds fits few given =
    let m = number_takes First 4 wide4 0 bytes (magic_then e 0) es fits given in
    let f = format_takes e 0 (format_of m.n) m.after m.rest es m.leads in
    let g = f.0 in
    let magic : m.n ≡ magic_number g = format_is m.n g f.1 in
    let l = number_takes First 4 wide4 m.after m.rest (low_then e g m.after) es m.takes.rest_fits f.2 in
    let l-ok = need_takes (eqb l.n e.lo) m.after BadBounds (high_at e g l.after l.rest) es l.leads in
    let h = number_takes First 4 wide4 l.after l.rest (high_then e g l.after) es l.takes.rest_fits l-ok.1 in
    let h-ok = need_takes (eqb h.n e.hi) l.after BadBounds (rows_at e g (e.hi - e.lo) e.lo h.after h.rest) es h.leads in
    let r = rows_take e g (e.hi - e.lo) e.lo h.after h.rest es h.takes.rest_fits h-ok.1 in
    let head = Takes-then bytes (little_bytes 4 m.n ++ little_bytes 4 l.n) l.rest (little_bytes 4 h.n) h.rest (Takes-then bytes (little_bytes 4 m.n) m.rest (little_bytes 4 l.n) l.rest m.takes l.takes) h.takes in
    let rows : List ℕ = rows_bytes g (e.hi - e.lo) e.lo es in
    let text : bytes ≡ ((little_bytes 4 (magic_number g) ++ little_bytes 4 e.lo) ++ little_bytes 4 e.hi) ++ rows =
    header bytes m.n (magic_number g) l.n e.lo h.n e.hi h.rest rows head.parts magic (eqb-true _ _ l-ok.0) (eqb-true _ _ h-ok.0) r.text in
    let within = first_rows e e.lo e.hi es bounds r.low r.high in (
      (g, text ∙ ap (λ (x : List ℕ). ((x ++ little_bytes 4 e.lo) ++ little_bytes 4 e.hi) ++ rows) (magic_text g)),
      record {
        lo = refl;
        hi = refl;
        part = record { bounds = bounds; ascending = pairs_from_Ascends es r.sorted; within = All-from_recursion (λ b. (e.lo ≤ b.edge.src.0) × (b.edge.src.0 < e.hi)) es within };
        each = All-from_recursion (FitsEdge e) es r.fits;
        few = few;
      },
    )

-- the edges of an interval begin in its rows
pub low_rows : (p : Part) (es : List Born) → AllByRecursion (λ b. (p.lo ≤ b.edge.src.0) × (b.edge.src.0 < p.hi)) es → p.lo < p.hi → Above p.lo es × AllByRecursion (λ b. b.edge.src.0 < p.lo + (p.hi - p.lo)) es
low_rows p [] h lt = (tt, tt)
low_rows p (b ∷ es) h lt = let q = low_rows p es h.1 lt in ((h.0.0, q.0), (omega (arith, h.0.1), q.1))

test_same : (n : ℕ) → eqb n n ≡ true
test_same n = grind (arith, nat_tests)

spelled_again : (e : Expect) (f : Format) (es : List Born) → IsExpect e → FitsPart e (part e es) → reading e (spelling f (part e es)) ≡ found es
unfolding magic_at magic_then low_at low_then high_at high_then
spelled_again e f es ex fits =
    let w = low_rows (part e es) es (recursion_from_All (λ b. (e.lo ≤ b.edge.src.0) × (b.edge.src.0 < e.hi)) es fits.part.within) fits.part.bounds in
    let rows : List ℕ = rows_bytes f (e.hi - e.lo) e.lo es in
    let behind_low : List ℕ = little_bytes 4 e.hi ++ rows in
    let behind_magic : List ℕ = little_bytes 4 e.lo ++ behind_low in
    let p1 : ℕ = 0 + length (little_bytes 4 (magic_number f)) in
    let p2 : ℕ = p1 + length (little_bytes 4 e.lo) in
    let p3 : ℕ = p2 + length (little_bytes 4 e.hi) in
    let regrouped : spelling f (part e es) ≡ little_bytes 4 (magic_number f) ++ behind_magic =
    ap (λ (x : List ℕ). ((x ++ little_bytes 4 e.lo) ++ little_bytes 4 e.hi) ++ rows) (sym (magic_text f)) ∙ simp append_assoc in
    ap (magic_at e 0) regrouped
    ∙ number_again First 4 0 (magic_number f) behind_magic (magic_then e 0) (magic_fits f)
    ∙ ap (λ (x : Option Format). in_format e 0 x p1 behind_magic) (magic_is f)
    ∙ number_again First 4 p1 e.lo behind_low (low_then e f p1) (omega (arith, ex.lo))
    ∙ ap (λ (t : Bool). need t p1 BadBounds (high_at e f p2 behind_low)) (test_same e.lo)
    ∙ number_again First 4 p2 e.hi rows (high_then e f p2) (omega (arith, ex.hi))
    ∙ ap (λ (t : Bool). need t p2 BadBounds (rows_at e f (e.hi - e.lo) e.lo p3 rows)) (test_same e.hi)
    ∙ rows_again e f (e.hi - e.lo) e.lo p3 es ex w.0 w.1 (recursion_from_All (FitsEdge e) es fits.each) (Ascends-from_pairs es fits.part.ascending) fits.few

the_part : (e : Expect) (p : Part) → FitsPart e p → p ≡ part e p.edges
the_part e p fits = rw (← fits.lo, ← fits.hi) refl

pub file_again : (e : Expect) (bytes : List ℕ) (p : Part) → IsExpect e → FitsPart e p → SpellsPart bytes p → reading e bytes ≡ found p.edges
file_again e bytes p ex fits (f, text) =
    let same = the_part e p fits in
    ap (reading e) (text ∙ ap (spelling f) same) ∙ spelled_again e f p.edges ex (subst (FitsPart e) same fits)

pub only_at_ok : (e : Expect) (bytes : List ℕ) (es : List Born) (p : Part) → IsExpect e → reading e bytes ≡ found es → FitsPart e p → SpellsPart bytes p → part e es ≡ p
only_at_ok e bytes es p ex given fits spells =
    let again = file_again e bytes p ex fits spells in
    let same : es ≡ p.edges = ap (λ (x : Found). x.edges) (sym given ∙ again) in
    ap (part e) same ∙ sym (the_part e p fits)

pub only_at_err : {X : Type 0} (view : X → List Born) (e : Expect) (bytes : List ℕ) (x : PartError) (p : Part) → IsExpect e → DecodesPart view (Err x) (reading e bytes) → FitsPart e p → SpellsPart bytes p → AnswersPart (Err x) p
only_at_err view e bytes (errors.Fault f) p ex given fits spells =
    let again : (reading e bytes).fault ≡ None = ap (λ (x : Found). x.fault) (file_again e bytes p ex fits spells) in
    absurd (cc)
only_at_err view e bytes errors.NoMemory p ex given fits spells = tt

-- bytes spell at most one partition that is expected
pub one_part : (e : Expect) (bytes : List ℕ) (p q : Part) → IsExpect e → FitsPart e p → FitsPart e q → SpellsPart bytes p → SpellsPart bytes q → p ≡ q
one_part e bytes p q ex p-fits q-fits p-spells q-spells =
    the_part e p p-fits ∙ only_at_ok e bytes p.edges q ex (file_again e bytes p ex p-fits p-spells) q-fits q-spells
