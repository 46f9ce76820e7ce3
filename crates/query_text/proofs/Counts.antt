-- Edges are counted by their labels, and the counts printed.
use Rattle.std.proofs.Common.{◌≡◌, ◌≢◌, ℕ, zero, suc, ◌+◌, ◌^◌, ◌<◌, ◌≤◌, List, [], ◌∷◌, ◌++◌, length, take, drop, get_or, refl, sym, subst, ap, ◌∙◌, arith, inl, inr, append_assoc, append-nil, take-append-drop, length-append, Option, Ok, Err}
use Rattle.std.specs.Prelude.{slice_index_or, slice_set, IsTrue, Bool, cond, ◌==◌}
use Rattle.std.proofs.lemmas.Bool.{cases_eq, cases_lt}
use Rattle.std.proofs.lemmas.Bool.Decides.{nat_tests}
use Rattle.std.proofs.lemmas.List.{get_or-set_same, get_or-set_other, length-set, get_or_past, length-take, take_all, take_more}
use Rattle.std.proofs.lemmas.List.Sums.{count_by-le-length, sum_by-append}
use Rattle.graph_words.specs.declared.types.Born.{Born}
use Rattle.io_edge.specs.Devices.{AppendsPrefix}
use Rattle.closing_machine.specs.Parts.{all_edges}
use Rattle.disk_model.specs.Disk.{Contents}
use Rattle.faults.specs.declared.form_kind.FormKind.{FormKind}
use Rattle.store_law.specs.Listed.{part_file}
use Rattle.open_store.specs.Store.{IsOpenStore, OpenStore}
use Rattle.open_store.specs.PartRead.{IsRead, IsRefused}
use Rattle.query_text.specs.Answered.{AreRead, IsBlamed}
use Rattle.query_text.specs.Text.{label_count, label_line, label_lines, tally_text}
use Rattle.text_page.specs.Gathered.{HasGathered}
use Rattle.query_text.specs.Shown.{AreTallied}
use Rattle.text_page.proofs.Gathering.{gathers_longer, gathers_then}
use Rattle.query_text.proofs.Reading.{all_edges-append, few, read_one, read_then}

count_append : (xs ys : List Born) (l : ℕ) → label_count (xs ++ ys) l ≡ label_count xs l + label_count ys l
count_append xs ys l = sum_by-append (λ (b : Born). cond (b.edge.label.0 == l) 1 0) xs ys

count_here : (b : Born) (l : ℕ) → b.edge.label.0 ≡ l → label_count (b ∷ []) l ≡ 1
count_here b l is = rw is (grind (arith, nat_tests))

count_elsewhere : (b : Born) (l : ℕ) → b.edge.label.0 ≢ l → label_count (b ∷ []) l ≡ 0
count_elsewhere b l not = grind (arith, nat_tests)

-- the numbers after an edge with label k was counted
abbrev pub counted : List ℕ → ℕ → List ℕ
counted counts k = slice_set counts k (slice_index_or counts k 0 + 1)

one_more : (edges : List Born) (counts : List ℕ) (b : Born) (l : ℕ) → l < length counts → slice_index_or counts l 0 ≡ label_count edges l → slice_index_or (counted counts b.edge.label.0) l 0 ≡ label_count (edges ++ b ∷ []) l
one_more edges counts b l low same = elim (cases_eq l b.edge.label.0) [
  | inl here ↦ rw here (get_or-set_same counts b.edge.label.0 (slice_index_or counts b.edge.label.0 0 + 1) 0 (omega (arith, here, low))
      ∙ omega (arith, count_append edges (b ∷ []) b.edge.label.0, count_here b b.edge.label.0 refl, ap (λ (k : ℕ). slice_index_or counts k 0) here, ap (λ (k : ℕ). label_count edges k) here, same))
  | inr there ↦ get_or-set_other counts b.edge.label.0 l (slice_index_or counts b.edge.label.0 0 + 1) 0 there
      ∙ omega (arith, count_append edges (b ∷ []) l, count_elsewhere b l (λ is. there (sym is)), same)
]

-- an edge whose label has a name
pub tallied_in : (named : ℕ) (edges : List Born) (counts : List ℕ) (b : Born) → AreTallied named edges counts → AreTallied named (edges ++ b ∷ []) (counted counts b.edge.label.0)
tallied_in named edges counts b t =
    record {
      size = length-set counts b.edge.label.0 (slice_index_or counts b.edge.label.0 0 + 1) ∙ t.size;
      each = λ l low. one_more edges counts b l (omega (arith, low, t.size)) (t.each l low);
    }

-- and one whose label has none
pub tallied_out : (named : ℕ) (edges : List Born) (counts : List ℕ) (b : Born) → named ≤ b.edge.label.0 → AreTallied named edges counts → AreTallied named (edges ++ b ∷ []) counts
tallied_out named edges counts b past t =
    record {
      size = t.size;
      each = λ l low. omega (arith, t.each l low, count_append edges (b ∷ []) l, count_elsewhere b l (λ is. omega (arith, is, past, low)));
    }

-- no count is greater than how many edges there are
pub tallied_few : (named : ℕ) (edges : List Born) (counts : List ℕ) → AreTallied named edges counts → (l : ℕ) → slice_index_or counts l 0 ≤ length edges
tallied_few named edges counts t l = elim (cases_lt l named) [
  | inl low ↦ omega (arith, t.each l low, count_by-le-length (λ (b : Born). b.edge.label.0 == l) edges)
  | inr past ↦ omega (arith, get_or_past counts l 0 (omega (arith, past, t.size)))
]

-- the lines of names, one more
lines_append : (l : ℕ) (xs ys : List (List ℕ)) (edges : List Born) → label_lines l (xs ++ ys) edges ≡ label_lines l xs edges ++ label_lines (l + length xs) ys edges
lines_append l [] ys edges = let e : l ≡ l + 0 = omega arith in ap (λ (k : ℕ). label_lines k ys edges) e
lines_append l (x ∷ xs) ys edges =
    let e : suc l + length xs ≡ l + length (x ∷ xs) = omega arith in
    ap (λ (t : List ℕ). label_line x (label_count edges l) ++ t) (lines_append (suc l) xs ys edges ∙ ap (λ (k : ℕ). label_lines (suc l) xs edges ++ label_lines k ys edges) e)
    ∙ sym (append_assoc (label_line x (label_count edges l)) (label_lines (suc l) xs edges) (label_lines (l + length (x ∷ xs)) ys edges))

pub lines_more : (names : List (List ℕ)) (edges : List Born) (i : ℕ) (d : List ℕ) → i < length names → tally_text (take (i + 1) names) edges ≡ tally_text (take i names) edges ++ label_line (get_or names i d) (label_count edges i)
lines_more names edges i d below =
    ap (λ (l : List (List ℕ)). tally_text l edges) (take_more names i d below)
    ∙ lines_append 0 (take i names) (get_or names i d ∷ []) edges
    ∙ ap (λ (k : ℕ). tally_text (take i names) edges ++ label_lines k (get_or names i d ∷ []) edges) (at names i below)
    ∙ ap (λ (t : List ℕ). tally_text (take i names) edges ++ t) (append-nil (label_line (get_or names i d) (label_count edges i)))
  where
    at : (names : List (List ℕ)) (i : ℕ) → i < length names → 0 + length (take i names) ≡ i
    at names i below = omega (arith, below, length-take i names)

pub lines_front : (names : List (List ℕ)) (edges : List Born) (i : ℕ) → tally_text names edges ≡ tally_text (take i names) edges ++ label_lines (0 + length (take i names)) (drop i names) edges
lines_front names edges i = ap (λ (l : List (List ℕ)). tally_text l edges) (sym (take-append-drop i names)) ∙ lines_append 0 (take i names) (drop i names) edges

-- within a list it doesn't matter what stands for no item
item_is : (xs : List ℕ) (i d e : ℕ) → i < length xs → slice_index_or xs i d ≡ slice_index_or xs i e
item_is [] i d e below = absurd (omega (arith, below))
item_is (x ∷ xs) zero d e below = refl
item_is (x ∷ xs) (suc i) d e below = item_is xs i d e (omega (arith, below))

-- an edge whose label has number k
pub tallied_at : (named : ℕ) (edges : List Born) (counts : List ℕ) (b : Born) (k n : ℕ) → k ≡ b.edge.label.0 → k < length counts → n ≡ slice_index_or counts k n → AreTallied named edges counts → AreTallied named (edges ++ b ∷ []) (slice_set counts k (n + 1))
tallied_at named edges counts b k n at there is t =
    let value : n ≡ slice_index_or counts b.edge.label.0 0 = is ∙ item_is counts k n 0 there ∙ ap (λ (j : ℕ). slice_index_or counts j 0) at in
    subst (λ (j : ℕ). AreTallied named (edges ++ b ∷ []) (slice_set counts j (n + 1))) (sym at) (subst (λ (v : ℕ). AreTallied named (edges ++ b ∷ []) (slice_set counts b.edge.label.0 (v + 1))) (sym value) (tallied_in named edges counts b t))

-- the edges of a slice, one more
pub edges_more : (before edges : List Born) (i : ℕ) (d : Born) → i < length edges → (before ++ take i edges) ++ get_or edges i d ∷ [] ≡ before ++ take (i + 1) edges
edges_more before edges i d there = append_assoc before (take i edges) (get_or edges i d ∷ []) ∙ ap (λ (l : List Born). before ++ l) (sym (take_more edges i d there))

pub edges_all : (before edges : List Born) (i : ℕ) → length edges ≤ i → before ++ take i edges ≡ before ++ edges
edges_all before edges i past = ap (λ (l : List Born). before ++ l) (take_all i edges past)

-- ---- their lines
module _ (names : List (List ℕ)) (edges : List Born) (i : ℕ) (d name : List ℕ) (count : ℕ) (line : List ℕ) (there : i < length names) (name_is : name ≡ get_or names i d) (count_is : count ≡ label_count edges i) (line_is : line ≡ label_line name count) where
  more : tally_text (take i names) edges ++ line ≡ tally_text (take (i + 1) names) edges
  more =
      ap (λ (t : List ℕ). tally_text (take i names) edges ++ t) (line_is ∙ ap (λ (l : List ℕ). label_line l count) name_is ∙ ap (λ (n : ℕ). label_line (get_or names i d) n) count_is)
      ∙ sym (lines_more names edges i d there)

  pub line_gathered : (a b c : Option (List ℕ)) (p q r : List ℕ) → HasGathered a p b q (tally_text (take i names) edges) → HasGathered b q c r line → HasGathered a p c r (tally_text (take (i + 1) names) edges)
  line_gathered a b c p q r g h = subst (λ (t : List ℕ). HasGathered a p c r t) more (gathers_then {U = Unit {0}} {F = Unit {0}} a b c p q r (Ok tt) (tally_text (take i names) edges) line g h)

  pub line_failed : (a b c : Option (List ℕ)) (p q : List ℕ) → HasGathered a p b q (tally_text (take i names) edges) → AppendsPrefix b c (q ++ line) → AppendsPrefix a c (p ++ tally_text names edges)
  line_failed a b c p q g h =
      let front = subst (λ (t : List ℕ). AppendsPrefix a c (p ++ t)) more (gathers_then {U = Unit {0}} {F = Unit {0}} a b c p q q (Err tt) (tally_text (take i names) edges) line g h) in
      let rest = label_lines (0 + length (take (i + 1) names)) (drop (i + 1) names) edges in
      subst (λ (t : List ℕ). AppendsPrefix a c (p ++ t)) (sym (lines_front names edges (i + 1))) (gathers_longer a c p (tally_text (take (i + 1) names) edges) rest front)

pub lines_all : (names : List (List ℕ)) (edges : List Born) (i : ℕ) → length names ≤ i → tally_text (take i names) edges ≡ tally_text names edges
lines_all names edges i past = ap (λ (l : List (List ℕ)). tally_text l edges) (take_all i names past)

-- ---- partition by partition
module _ (s : OpenStore) (tells : Bool) (c : Contents) (i : ℕ) (read : List (List Born)) (are : AreRead s tells c 0 read) (many : length read ≡ i) (there : i < length s.manifest.parts) where
  abbrev with_part : List Born → List (List Born)
  with_part edges = read ++ edges ∷ []

  at : i ≡ 0 + length read
  at = omega (arith, many)

  pub next_read : (edges : List Born) → IsRead s i tells (c (part_file s.manifest i)) edges → AreRead s tells c 0 (read ++ edges ∷ [])
  next_read edges is = read_then s tells c 0 read (edges ∷ []) are (subst (λ (n : ℕ). AreRead s tells c n (edges ∷ [])) at (read_one s tells c i edges there is))

  pub next_many : (edges : List Born) → length (read ++ edges ∷ []) ≡ i + 1
  next_many edges = omega (arith, many, length-append read (edges ∷ []))

  next_edges : (edges : List Born) → all_edges (read ++ edges ∷ []) ≡ all_edges read ++ edges
  next_edges edges = all_edges-append read (edges ∷ []) ∙ ap (λ (l : List Born). all_edges read ++ l) (append-nil edges)

  pub next_tallied : (edges slice : List Born) (counts : List ℕ) → slice ≡ edges → AreTallied (length s.manifest.labels) (all_edges read ++ slice) counts → AreTallied (length s.manifest.labels) (all_edges (read ++ edges ∷ [])) counts
  next_tallied edges slice counts same t = subst (λ (l : List Born). AreTallied (length s.manifest.labels) l counts) (ap (λ (l : List Born). all_edges read ++ l) same ∙ sym (next_edges edges)) t

  -- each count has room for all edges of the next partition
  pub room_for : IsOpenStore s → (edges slice : List Born) (counts : List ℕ) → IsRead s i tells (c (part_file s.manifest i)) edges → slice ≡ edges → AreTallied (length s.manifest.labels) (all_edges read) counts → (l : ℕ) → slice_index_or counts l 0 + length slice < 2 ^ 64
  room_for o edges slice counts is same t l =
      let all = few s tells c o 0 (read ++ edges ∷ []) (next_read edges is) in
      omega (arith, all, ap (λ (x : List Born). length x) (next_edges edges), length-append (all_edges read) edges, ap (λ (x : List Born). length x) same, tallied_few (length s.manifest.labels) (all_edges read) counts t l)

  pub next_blamed : (file place : ℕ) (kind : FormKind) → file ≡ part_file s.manifest i → (IsTrue tells → IsRefused s i (c file) place kind) → IsBlamed s tells c 0 (length s.manifest.parts) file place kind
  next_blamed file place kind is refused =
      record {
        read = read;
        are_read = are;
        more = omega (arith, many, there);
        file_is = subst (λ (n : ℕ). file ≡ part_file s.manifest n) at is;
        refused = λ t. subst (λ (n : ℕ). IsRefused s n (c file) place kind) at (refused t);
      }
