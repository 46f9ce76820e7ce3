-- A text is read again, behind the names that it was found to have.
use Rattle.std.proofs.Common.{◌≡◌, ◌≢◌, ℕ, suc, ◌+◌, ◌≤◌, Bool, true, false, not, cond, List, [], ◌∷◌, ◌++◌, length, refl, sym, ap, ◌∙◌, arith, subst, append-nil, append_assoc, length-append}
use Rattle.std.specs.Prelude.{All, AllPairs, filter, map, nat_lt, ◌||◌, Option, Some, None}
use Rattle.std.proofs.lemmas.Bool.Decides.{nat_tests}
use Rattle.std.proofs.lemmas.Grind.{flat_map-append}
use Rattle.std.specs.List.{flat_map, list_any}
use Rattle.std.proofs.lemmas.List.Folds.{list_any-append}
use Rattle.std.specs.Cmp.Lexicographic.{same_text, other_text}
use Rattle.std.proofs.lemmas.List.Elements.{All-nil, All-cons, All-head, All-tail, All-weaker, All-from_get_or}
use Rattle.graph_words.specs.declared.types.Edge.{Edge}
use Rattle.graph_words.specs.Text.{words, is_skipped, is_label_word, is_vertex_word, distinct, said, same_name, third, with_names}
use Rattle.graph_words.proofs.SaidLemmas.{said_cons}
use Rattle.graph_words.proofs.NameLemmas.{Grown, any-distinct, distinct-once, distinct-append, with_names-append, with_names-grown, length-grown}
use Rattle.faults.specs.declared.kinds.InputKind.{InputKind}
use Rattle.faults.specs.declared.kinds.InputKind.TheVariants.{LineTooLong, TooLong, BadSource, BadDestination, BadLabel, TooManyLabels}
use Rattle.io_edge.specs.Lines.{segments, line, lines, without_end}
use Rattle.io_edge.specs.FirstFault.{Fault, fault_or, line_fault, with_line, first_fault}
use Rattle.edge_text.specs.EdgesText.{edge_fault, ReadsEdges}
use Rattle.graph_words.specs.declared.limits.TheConstants.{LONGEST_EDGES}

keep_others : (x : List ℕ) (ys : List (List ℕ)) → All (λ y. x ≢ y) ys → filter (λ y. not (same_name x y)) ys ≡ ys
keep_others x [] all = refl
keep_others x (y ∷ ys) all = go (same_name x y) refl (keep_others x ys (All-tail (λ y. x ≢ y) y ys all))
  where
    go : (b : Bool) → same_name x y ≡ b → filter (λ z. not (same_name x z)) ys ≡ ys → filter (λ z. not (same_name x z)) (y ∷ ys) ≡ y ∷ ys
    go true e ih = absurd (All-head (λ y. x ≢ y) y ys all (same_text x y (sym e)))
    go false e ih = ap (λ t. cond (not t) (y ∷ filter (λ z. not (same_name x z)) ys) (filter (λ z. not (same_name x z)) ys)) e ∙ ap (λ l. y ∷ l) ih

-- names that stand once are distinct
pub distinct-of_once : (xs : List (List ℕ)) → AllPairs (λ x y. x ≢ y) xs → distinct xs ≡ xs
distinct-of_once [] once = refl
distinct-of_once (x ∷ xs) once =
    ap (λ l. x ∷ filter (λ y. not (same_name x y)) l) (distinct-of_once xs (λ i j d l h. once (suc i) (suc j) d (omega (arith, l)) (omega (arith, h))))
    ∙ ap (λ l. x ∷ l) (keep_others x xs (All-from_get_or (λ y. x ≢ y) xs [] (λ i h. once 0 (suc i) [] (omega arith) (omega (arith, h)))))

no_more : (more : List (List ℕ)) → length more ≡ 0 → more ≡ []
no_more [] e = refl
no_more (x ∷ xs) e = absurd (omega (arith, e))

grown_same : (a b : List (List ℕ)) → Grown a b → length b ≡ length a → b ≡ a
grown_same a b g same = g.is ∙ ap (λ l. a ++ l) (no_more g.more (omega (arith, ap length g.is, length-append a g.more, same))) ∙ append-nil a

-- a text that brought no new name behind a table has its names
pub table_stays : (start : ℕ) (labels : List (List ℕ)) (text : List ℕ) (edges : List Edge) (table : List (List ℕ)) → AllPairs (λ x y. x ≢ y) labels → ReadsEdges start labels text edges table → length table ≡ length labels → table ≡ labels
table_stays start labels text edges table once r same =
    let names = flat_map third (said (lines text)) in
    let is : table ≡ with_names labels names = r.table_is ∙ distinct-append labels names ∙ ap (λ l. with_names l names) (distinct-of_once labels once) in
    is ∙ grown_same labels (with_names labels names) (with_names-grown labels names) (omega (arith, ap length is, same))

-- ---- no fault behind the names of a text where there is none behind those that came before
-- a name that stands there is not added again
names_stay : (table xs : List (List ℕ)) → All (λ x. list_any (λ y. same_name y x) table ≡ true) xs → with_names table xs ≡ table
names_stay table [] all = refl
names_stay table (x ∷ xs) all =
    let here = All-head (λ x. list_any (λ y. same_name y x) table ≡ true) x xs all in
    ap (λ t. with_names (cond t table (table ++ x ∷ [])) xs) here ∙ names_stay table xs (All-tail (λ x. list_any (λ y. same_name y x) table ≡ true) x xs all)

is_itself : (x : List ℕ) → same_name x x ≡ true
is_itself x = go (same_name x x) refl
  where
    go : (b : Bool) → same_name x x ≡ b → same_name x x ≡ true
    go true e = e
    go false e = absurd (other_text x x (sym e) refl)

-- each name of a list stands among those with the list at their end
all_among : (front xs : List (List ℕ)) → All (λ x. list_any (λ y. same_name y x) (front ++ xs) ≡ true) xs
all_among front [] = All-nil (λ x. list_any (λ y. same_name y x) (front ++ []) ≡ true)
all_among front (x ∷ xs) =
    let rest = all_among (front ++ x ∷ []) xs in
    let here : list_any (λ y. same_name y x) (front ++ x ∷ xs) ≡ true =
    list_any-append (λ y. same_name y x) front (x ∷ xs) ∙ ap (λ t. list_any (λ y. same_name y x) front || (t || list_any (λ y. same_name y x) xs)) (is_itself x) ∙ or_true (list_any (λ y. same_name y x) front) in
    All-cons (λ z. list_any (λ y. same_name y z) (front ++ x ∷ xs) ≡ true) x xs here
    (subst (λ (l : List (List ℕ)). All (λ z. list_any (λ y. same_name y z) l ≡ true) xs) (append_assoc front (x ∷ []) xs) rest)
  where
    or_true : (b : Bool) → (b || true) ≡ true
    or_true true = refl
    or_true false = refl

-- names that are added twice
pub distinct_again : (names xs : List (List ℕ)) → distinct (distinct (names ++ xs) ++ xs) ≡ distinct (names ++ xs)
distinct_again names xs =
    let table = distinct (names ++ xs) in
    distinct-append table xs ∙ ap (λ t. with_names t xs) (distinct-of_once table (distinct-once (names ++ xs)))
    ∙ names_stay table xs (All-weaker (λ x. list_any (λ y. same_name y x) (names ++ xs) ≡ true) (λ x. list_any (λ y. same_name y x) table ≡ true) (λ x h. any-distinct x (names ++ xs) ∙ h) xs (all_among names xs))

-- fewer names come to no more distinct ones
fewer : (table xs ys : List (List ℕ)) → length (distinct (table ++ (xs ++ ys))) ≤ 1000 → length (distinct (table ++ xs)) ≤ 1000
fewer table xs ys few =
    let front = distinct-append table xs in
    let all : distinct (table ++ (xs ++ ys)) ≡ with_names (distinct (table ++ xs)) ys = distinct-append table (xs ++ ys) ∙ with_names-append (distinct table) xs ys ∙ ap (λ t. with_names t ys) (sym front) in
    let more = length-grown (distinct (table ++ xs)) (with_names (distinct (table ++ xs)) ys) (with_names-grown (distinct (table ++ xs)) ys) in
    omega (arith, few, ap length all, more)

-- three words without a fault
tests_again : (a b c many : Bool) → cond (not a) (Some BadSource) (cond (not b) (Some BadDestination) (cond (not c) (Some BadLabel) (cond many (Some TooManyLabels) None))) ≡ None → (fewer : Bool) → fewer ≡ false → cond (not a) (Some BadSource) (cond (not b) (Some BadDestination) (cond (not c) (Some BadLabel) (cond fewer (Some TooManyLabels) None))) ≡ None
tests_again false b c many h few is = absurd (cc)
tests_again true false c many h few is = absurd (cc)
tests_again true true false many h few is = absurd (cc)
tests_again true true true many h few is = ap (λ t. cond t (Some TooManyLabels) None) is

edge_again : (names table : List (List ℕ)) (before : List (List (List ℕ))) (ws : List (List ℕ)) → edge_fault names before ws ≡ None → length (distinct (table ++ flat_map third (before ++ ws ∷ []))) ≤ 1000 → edge_fault table before ws ≡ None
edge_again names table before [] h few = absurd (cc)
edge_again names table before (a ∷ []) h few = absurd (cc)
edge_again names table before (a ∷ b ∷ []) h few = absurd (cc)
edge_again names table before (a ∷ b ∷ c ∷ []) h few =
    let all : (table ++ flat_map third before) ++ c ∷ [] ≡ table ++ flat_map third (before ++ (a ∷ b ∷ c ∷ []) ∷ []) = append_assoc table (flat_map third before) (c ∷ []) ∙ ap (λ l. table ++ l) (sym (flat_map-append third before ((a ∷ b ∷ c ∷ []) ∷ []))) in
    let size : length (distinct ((table ++ flat_map third before) ++ c ∷ [])) ≤ 1000 = omega (arith, few, ap (λ (l : List (List ℕ)). length (distinct l)) all) in
    let test : nat_lt 1000 (length (distinct ((table ++ flat_map third before) ++ c ∷ []))) ≡ false = grind (arith, nat_tests) in
    tests_again (is_vertex_word a) (is_vertex_word b) (is_label_word c) (nat_lt 1000 (length (distinct ((names ++ flat_map third before) ++ c ∷ [])))) h (nat_lt 1000 (length (distinct ((table ++ flat_map third before) ++ c ∷ [])))) test
edge_again names table before (a ∷ b ∷ c ∷ d ∷ ws) h few = absurd (cc)

-- a line without a fault
line_tests : (long far skipped : Bool) (k k' : Option InputKind) → cond long (Some LineTooLong) (cond far (Some TooLong) (cond skipped None k)) ≡ None → (skipped ≡ false → k ≡ None → k' ≡ None) → cond long (Some LineTooLong) (cond far (Some TooLong) (cond skipped None k')) ≡ None
line_tests true far skipped k k' h again = absurd (cc)
line_tests false true skipped k k' h again = absurd (cc)
line_tests false false true k k' h again = refl
line_tests false false false k k' h again = again refl h

fault_parts : (n : ℕ) (k : Option InputKind) (rest : Option Fault) → fault_or n k rest ≡ None → (k ≡ None) × (rest ≡ None)
fault_parts n None rest h = (refl, h)
fault_parts n (Some kind) rest h = absurd (cc)

lines_again : (names table : List (List ℕ)) (n at : ℕ) (before : List (List (List ℕ))) (ss : List (List ℕ)) → length (distinct (table ++ flat_map third (before ++ said (map line ss)))) ≤ 1000 → first_fault LONGEST_EDGES (edge_fault names) n at before ss ≡ None → first_fault LONGEST_EDGES (edge_fault table) n at before ss ≡ None
lines_again names table n at before [] few h = refl
lines_again names table n at before (s ∷ ss) few h =
    let parts = fault_parts n (line_fault LONGEST_EDGES (edge_fault names) before (at + length s) s) (first_fault LONGEST_EDGES (edge_fault names) (n + 1) (at + length s) (with_line before s) ss) h in
    let all : flat_map third (before ++ said (map line (s ∷ ss))) ≡ flat_map third (with_line before s) ++ flat_map third (said (map line ss)) = ap (flat_map third) (said_cons (map line ss) (line s) before) ∙ flat_map-append third (with_line before s) (said (map line ss)) in
    let size : length (distinct (table ++ (flat_map third (with_line before s) ++ flat_map third (said (map line ss))))) ≤ 1000 = omega (arith, few, ap (λ (l : List (List ℕ)). length (distinct (table ++ l))) all) in
    let here = fewer table (flat_map third (with_line before s)) (flat_map third (said (map line ss))) size in
    let rest_few : length (distinct (table ++ flat_map third (with_line before s ++ said (map line ss)))) ≤ 1000 = omega (arith, size, ap (λ (l : List (List ℕ)). length (distinct (table ++ l))) (flat_map-append third (with_line before s) (said (map line ss)))) in
    let ws = words (line s) in
    let this = line_tests (nat_lt 4096 (length (without_end 10 s))) (nat_lt LONGEST_EDGES (at + length s)) (is_skipped ws) (edge_fault names before ws) (edge_fault table before ws) parts.0
    (λ kept none. edge_again names table before ws none (subst (λ (t : Bool). length (distinct (table ++ flat_map third (cond t before (before ++ ws ∷ [])))) ≤ 1000) kept here)) in
    ap (λ k. fault_or n k (first_fault LONGEST_EDGES (edge_fault table) (n + 1) (at + length s) (with_line before s) ss)) this
    ∙ lines_again names table (n + 1) (at + length s) (with_line before s) ss rest_few parts.1

-- a text reads the same behind the names that it was found to have
pub reads_again : (start : ℕ) (names : List (List ℕ)) (text : List ℕ) (edges : List Edge) (table : List (List ℕ)) → ReadsEdges start names text edges table → ReadsEdges start table text edges table
reads_again start names text edges table r =
    let xs = flat_map third (said (lines text)) in
    let again : distinct (table ++ xs) ≡ table = ap (λ (t : List (List ℕ)). distinct (t ++ xs)) r.table_is ∙ distinct_again names xs ∙ sym r.table_is in
    record {
      whole = lines_again names table 1 start [] (segments text) (omega (arith, ap length again, r.short)) r.whole;
      table_is = sym again;
      short = r.short;
      edges_are = r.edges_are;
      vertices = r.vertices;
      numbered = r.numbered;
    }
