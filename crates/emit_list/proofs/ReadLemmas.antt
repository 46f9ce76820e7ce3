-- The text of a list reads back: a line of a vertex says nothing, and a line of an edge says that edge.
use Rattle.std.proofs.Common.{◌≡◌, inl, inr, refl, sym, ap, ◌∙◌, subst, ℕ, ◌+◌, ◌%◌, ◌<◌, ◌≤◌, ◌^◌, Bool, true, false, not, cond, eqb, List, [], ◌∷◌, ◌++◌, length, get_or, append_assoc, append-nil, arith, zero, suc, rules, Option, Some, None}
use Rattle.std.specs.Prelude.{All, codes, decimal, map}
use Rattle.std.specs.List.{flat_map, filter_map, cons_option, range_with_len, AllByRecursion}
use Rattle.std.specs.Str.Parse.{digits_value}
use Rattle.std.proofs.lemmas.Bool.Decides.{nat_tests}
use Rattle.std.proofs.lemmas.List.Elements.{All-nil, All-cons, All-head, All-tail, All-append, All-push, All-from_recursion}
use Rattle.std.proofs.lemmas.Fmt.{decimal_by_steps}
use Rattle.graph_words.specs.declared.types.Edge.{Edge}
use Rattle.graph_words.specs.Text.{words, is_blank, is_skipped, said, place_of, IsLabel, IsEdgeLine, IsVertexNumber}
use Rattle.graph_words.proofs.WordLemmas.{words_run}
use Rattle.io_edge.specs.Lines.{is_line_feed, segments, line, lines, without_end}
use Rattle.io_edge.proofs.EndLemmas.{without_end-push}
use Rattle.io_edge.proofs.SegmentLemmas.{HasNoFeed, segments_at}
use Rattle.edge_text.specs.Print.{edge_bytes}
use Rattle.edge_text.specs.EdgesText.{edge_of_words, edges_of}
use Rattle.emit_list.specs.declared.vertex.VertexForm.{VertexForm}
use Rattle.emit_list.specs.declared.vertex.VertexForm.TheVariants as form
use Rattle.emit_list.specs.declared.vertex.Vertex.{Vertex}
use Rattle.emit_list.specs.declared.vertex.TheConstants.{MOST_VERTICES}
use Rattle.emit_list.specs.declared.edge.EmitEdge.{EmitEdge}
use Rattle.emit_list.specs.declared.edge.EmitLabel.{EmitLabel}
use Rattle.emit_list.specs.declared.edge.EmitLabel.TheVariants as label
use Rattle.emit_list.specs.Vertices.{Listed, IsListed, IsEdgeBelow}
use Rattle.emit_list.specs.Printed.{label_bytes, form_text, base_text, behind_mark, texts_behind, text_of, vertex_line, edge_line_of, list_bytes}
use Rattle.emit_list.specs.ReadBack.{IsOneLine, edge_by}

-- ---- bytes without a line feed
abbrev NoFeed : ℕ → Type 0
NoFeed b = is_line_feed b ≡ false

other_below : (n : ℕ) → n < 10 → NoFeed (48 + n)
other_below n small = grind (arith, nat_tests)

digits_other : (n : ℕ) → n < 2 ^ 64 → HasNoFeed (decimal n)
digits_other n small =
    decimal_by_steps (λ n ds. HasNoFeed ds)
    (λ n l. All-cons NoFeed (48 + n) [] (other_below n l) (All-nil NoFeed))
    (λ n ds l all. All-push NoFeed ds (48 + n % 10) all (other_below (n % 10) (omega arith)))
    n small

-- a list of bytes that is written out
all_other : (bytes : List ℕ) → AllByRecursion NoFeed bytes → HasNoFeed bytes
all_other bytes h = All-from_recursion NoFeed bytes h

form_other : (f : VertexForm) (name : List ℕ) → HasNoFeed name → HasNoFeed (form_text f name)
form_other form.Variable name h = h
form_other form.Return name h = All-append NoFeed (codes "return ") name (all_other (codes "return ") (refl, (refl, (refl, (refl, (refl, (refl, (refl, tt)))))))) h
form_other (form.Deref base) name h = all_other (codes "*") (refl, tt)
form_other (form.Address base) name h = all_other (codes "&") (refl, tt)
form_other form.Number name h = all_other (codes "number") (refl, (refl, (refl, (refl, (refl, (refl, tt))))))
form_other form.Null name h = all_other (codes "NULL") (refl, (refl, (refl, (refl, tt))))
form_other form.Op name h = all_other (codes "op") (refl, (refl, tt))
form_other form.Call name h = All-append NoFeed (codes "call ") name (all_other (codes "call ") (refl, (refl, (refl, (refl, (refl, tt)))))) h
form_other form.Malloc name h = all_other (codes "malloc") (refl, (refl, (refl, (refl, (refl, (refl, tt))))))

text_other : (texts : List (List ℕ)) (k : ℕ) → All HasNoFeed texts → HasNoFeed (get_or texts k [])
text_other [] k all = All-nil NoFeed
text_other (t ∷ ts) zero all = All-head HasNoFeed t ts all
text_other (t ∷ ts) (suc k) all = text_other ts k (All-tail HasNoFeed t ts all)

mark_other : (f : VertexForm) (earlier : List (List ℕ)) → All HasNoFeed earlier → HasNoFeed (behind_mark f earlier)
mark_other (form.Deref base) earlier all = text_other earlier base all
mark_other (form.Address base) earlier all = text_other earlier base all
mark_other _ earlier all = All-nil NoFeed

texts_other : (vs : List Vertex) (earlier : List (List ℕ)) → All IsOneLine vs → All HasNoFeed earlier → All HasNoFeed (texts_behind earlier vs)
texts_other [] earlier lines all = all
texts_other (v ∷ vs) earlier lines all =
    let text = base_text v ++ behind_mark v.form earlier in
    let other = All-append NoFeed (base_text v) (behind_mark v.form earlier) (form_other v.form v.name (All-head IsOneLine v vs lines)) (mark_other v.form earlier all) in
    texts_other vs (earlier ++ text ∷ []) (All-tail IsOneLine v vs lines) (All-push HasNoFeed earlier text all other)

-- ---- a line that begins with `# `
-- what stands behind the mark
remark_text : List Vertex → ℕ → List ℕ
remark_text vs k = decimal k ++ (32 ∷ text_of vs k)

remark_is : (vs : List Vertex) (k : ℕ) (rest : List ℕ) → vertex_line vs k ++ rest ≡ (35 ∷ 32 ∷ remark_text vs k) ++ 10 ∷ rest
unfolding remark_text
remark_is vs k rest =
    ap (λ l. 35 ∷ 32 ∷ l)
    (append_assoc (decimal k) (32 ∷ (text_of vs k ++ 10 ∷ [])) rest
    ∙ ap (λ l. decimal k ++ (32 ∷ l)) (append_assoc (text_of vs k) (10 ∷ []) rest)
    ∙ sym (append_assoc (decimal k) (32 ∷ text_of vs k) (10 ∷ rest)))

remark_other : (vs : List Vertex) (k : ℕ) → k < 2 ^ 64 → All IsOneLine vs → HasNoFeed (35 ∷ 32 ∷ remark_text vs k)
unfolding remark_text
remark_other vs k small lines =
    All-cons NoFeed 35 (32 ∷ (decimal k ++ (32 ∷ text_of vs k))) refl
    (All-cons NoFeed 32 (decimal k ++ (32 ∷ text_of vs k)) refl
    (All-append NoFeed (decimal k) (32 ∷ text_of vs k) (digits_other k small)
    (All-cons NoFeed 32 (text_of vs k) refl (text_other (texts_behind [] vs) k (texts_other vs [] lines (All-nil HasNoFeed))))))

-- the mark and the blank stay where a line loses its end
marked : (x : List ℕ) → (y : List ℕ) × (without_end 13 (35 ∷ 32 ∷ x) ≡ 35 ∷ 32 ∷ y)
marked [] = ([], refl)
marked (b ∷ bs) = (without_end 13 (b ∷ bs), refl)

mark_skipped : (y : List ℕ) → is_skipped (words (35 ∷ 32 ∷ y)) ≡ true
mark_skipped y = ap is_skipped (words_run (35 ∷ []) (32 ∷ y) (All-cons (λ b. is_blank b ≡ false) 35 [] refl (All-nil (λ b. is_blank b ≡ false))) (omega arith) (inr refl))

remark_line : (x : List ℕ) → HasNoFeed (35 ∷ 32 ∷ x) → is_skipped (words (line ((35 ∷ 32 ∷ x) ++ 10 ∷ []))) ≡ true
remark_line x other =
    let m = marked x in
    ap (λ l. is_skipped (words (without_end 13 l))) (without_end-push 10 (35 ∷ 32 ∷ x) 10)
    ∙ ap (λ l. is_skipped (words l)) m.1
    ∙ mark_skipped m.0

-- the edges that segments say
abbrev edges_in : List (List ℕ) → List (List ℕ) → List Edge
edges_in names parts = filter_map (edge_of_words names) (said (map line parts))

skips : (names : List (List ℕ)) (part : List ℕ) (parts : List (List ℕ)) → is_skipped (words (line part)) ≡ true → edges_in names (part ∷ parts) ≡ edges_in names parts
skips names part parts is =
    ap (λ b. filter_map (edge_of_words names) (cond (not b) (words (line part) ∷ said (map line parts)) (said (map line parts)))) is

vertex_skipped : (names : List (List ℕ)) (vs : List Vertex) (k : ℕ) (rest : List ℕ) → k < 2 ^ 64 → All IsOneLine vs → edges_of names (vertex_line vs k ++ rest) ≡ edges_of names rest
vertex_skipped names vs k rest small lines =
    let x = remark_text vs k in
    let other = remark_other vs k small lines in
    ap (edges_of names) (remark_is vs k rest)
    ∙ ap (edges_in names) (segments_at (35 ∷ 32 ∷ x) 10 rest other refl)
    ∙ skips names ((35 ∷ 32 ∷ x) ++ 10 ∷ []) (segments rest) (remark_line x other)

vertices_skipped : (names : List (List ℕ)) (vs : List Vertex) (start n : ℕ) (rest : List ℕ) → start + n < 2 ^ 64 → All IsOneLine vs → edges_of names (flat_map (vertex_line vs) (range_with_len start n) ++ rest) ≡ edges_of names rest
vertices_skipped names vs start zero rest small lines = refl
vertices_skipped names vs start (suc n) rest small lines =
    let more = flat_map (vertex_line vs) (range_with_len (start + 1) n) in
    ap (edges_of names) (append_assoc (vertex_line vs start) more rest)
    ∙ vertex_skipped names vs start (more ++ rest) (omega arith) lines
    ∙ vertices_skipped names vs (start + 1) n rest (omega arith) lines

-- ---- a line of an edge
label_other : (l : EmitLabel) → HasNoFeed (label_bytes l)
label_other label.A = all_other (codes "a") (refl, tt)
label_other label.MinusA = all_other (codes "-a") (refl, (refl, tt))
label_other label.D = all_other (codes "d") (refl, tt)
label_other label.MinusD = all_other (codes "-d") (refl, (refl, tt))
label_other label.N = all_other (codes "n") (refl, tt)
label_other label.MinusN = all_other (codes "-n") (refl, (refl, tt))

-- an edge without its line feed
edge_front : EmitEdge → List ℕ
edge_front e = decimal e.src ++ (32 ∷ (decimal e.dst ++ (32 ∷ label_bytes e.label)))

edge_is : (e : EmitEdge) (rest : List ℕ) → edge_line_of e ++ rest ≡ edge_front e ++ 10 ∷ rest
unfolding edge_front
edge_is e rest =
    append_assoc (decimal e.src) (32 ∷ (decimal e.dst ++ (32 ∷ (label_bytes e.label ++ 10 ∷ [])))) rest
    ∙ ap (λ l. decimal e.src ++ (32 ∷ l))
    (append_assoc (decimal e.dst) (32 ∷ (label_bytes e.label ++ 10 ∷ [])) rest
    ∙ ap (λ l. decimal e.dst ++ (32 ∷ l)) (append_assoc (label_bytes e.label) (10 ∷ []) rest)
    ∙ sym (append_assoc (decimal e.dst) (32 ∷ label_bytes e.label) (10 ∷ rest)))
    ∙ sym (append_assoc (decimal e.src) (32 ∷ (decimal e.dst ++ (32 ∷ label_bytes e.label))) (10 ∷ rest))

edge_other : (n : ℕ) (e : EmitEdge) → n ≤ MOST_VERTICES → IsEdgeBelow n e → HasNoFeed (edge_front e)
unfolding edge_front
edge_other n e few b =
    All-append NoFeed (decimal e.src) (32 ∷ (decimal e.dst ++ (32 ∷ label_bytes e.label))) (digits_other e.src (omega (arith, b.source)))
    (All-cons NoFeed 32 (decimal e.dst ++ (32 ∷ label_bytes e.label)) refl
    (All-append NoFeed (decimal e.dst) (32 ∷ label_bytes e.label) (digits_other e.dst (omega (arith, b.destination)))
    (All-cons NoFeed 32 (label_bytes e.label) refl (label_other e.label))))

abbrev Printed : ℕ → Type 0
Printed b = (0x21 ≤ b) × (b ≤ 0x7E)

is_label : (l : EmitLabel) → IsLabel (label_bytes l)
is_label label.A = record { some = omega arith; short = omega arith; printed = (All-cons Printed 97 ([]) (omega arith, omega arith) (All-nil Printed)) }
is_label label.MinusA = record { some = omega arith; short = omega arith; printed = (All-cons Printed 45 (97 ∷ []) (omega arith, omega arith) (All-cons Printed 97 ([]) (omega arith, omega arith) (All-nil Printed))) }
is_label label.D = record { some = omega arith; short = omega arith; printed = (All-cons Printed 100 ([]) (omega arith, omega arith) (All-nil Printed)) }
is_label label.MinusD = record { some = omega arith; short = omega arith; printed = (All-cons Printed 45 (100 ∷ []) (omega arith, omega arith) (All-cons Printed 100 ([]) (omega arith, omega arith) (All-nil Printed))) }
is_label label.N = record { some = omega arith; short = omega arith; printed = (All-cons Printed 110 ([]) (omega arith, omega arith) (All-nil Printed)) }
is_label label.MinusN = record { some = omega arith; short = omega arith; printed = (All-cons Printed 45 (110 ∷ []) (omega arith, omega arith) (All-cons Printed 110 ([]) (omega arith, omega arith) (All-nil Printed))) }

-- the line of each edge says it
abbrev pub ReadsBack : Type 0
ReadsBack = (source destination : ℕ) (label : List ℕ) → source ≤ 16777215 → destination ≤ 16777215 → IsLabel label → IsEdgeLine (line (edge_bytes source destination label)) source destination label

made_of : (names : List (List ℕ)) (src dst a b : ℕ) (l : List ℕ) (more : List Edge) → a ≡ src → b ≡ dst
    → (let e : Edge = record { src = record { 0 = a }; label = record { 0 = place_of names l }; dst = record { 0 = b } } in e) ∷ more
    ≡ (let e : Edge = record { src = record { 0 = src }; label = record { 0 = place_of names l }; dst = record { 0 = dst } } in e) ∷ more
made_of names src dst a b l more s d =
    ap (λ n. (let e : Edge = record { src = record { 0 = n }; label = record { 0 = place_of names l }; dst = record { 0 = b } } in e) ∷ more) s
    ∙ ap (λ n. (let e : Edge = record { src = record { 0 = src }; label = record { 0 = place_of names l }; dst = record { 0 = n } } in e) ∷ more) d

edge_says : (back : ReadsBack) (names : List (List ℕ)) (n : ℕ) (e : EmitEdge) (parts : List (List ℕ)) → n ≤ MOST_VERTICES → IsEdgeBelow n e → edges_in names (edge_line_of e ∷ parts) ≡ edge_by names e ∷ edges_in names parts
edge_says back names n e parts few b =
    let h = back e.src e.dst (label_bytes e.label) (omega (arith, b.source)) (omega (arith, b.destination)) (is_label e.label) in
    let more = said (map line parts) in
    ap (λ b. filter_map (edge_of_words names) (cond (not b) (words (line (edge_line_of e)) ∷ more) more)) h.said
    ∙ ap (λ ws. cons_option (edge_of_words names ws) (filter_map (edge_of_words names) more)) h.three
    ∙ made_of names e.src e.dst (digits_value 10 h.source_word) (digits_value 10 h.destination_word) (label_bytes e.label) (edges_in names parts) h.source_is.value h.destination_is.value

edge_read : (back : ReadsBack) (names : List (List ℕ)) (n : ℕ) (e : EmitEdge) (rest : List ℕ) → n ≤ MOST_VERTICES → IsEdgeBelow n e → edges_of names (edge_line_of e ++ rest) ≡ edge_by names e ∷ edges_of names rest
edge_read back names n e rest few b =
    let whole = sym (edge_is e []) ∙ append-nil (edge_line_of e) in
    ap (edges_of names) (edge_is e rest)
    ∙ ap (edges_in names) (segments_at (edge_front e) 10 rest (edge_other n e few b) refl ∙ ap (λ l. l ∷ segments rest) whole)
    ∙ edge_says back names n e (segments rest) few b

edges_read : (back : ReadsBack) (names : List (List ℕ)) (n : ℕ) (es : List EmitEdge) → n ≤ MOST_VERTICES → All (IsEdgeBelow n) es → edges_of names (flat_map edge_line_of es) ≡ map (edge_by names) es
edges_read back names n [] few all = refl
edges_read back names n (e ∷ es) few all =
    edge_read back names n e (flat_map edge_line_of es) few (All-head (IsEdgeBelow n) e es all)
    ∙ ap (λ l. edge_by names e ∷ l) (edges_read back names n es few (All-tail (IsEdgeBelow n) e es all))

pub list_read : ReadsBack → (names : List (List ℕ)) (list : Listed) → IsListed list.vertices list.edges → All IsOneLine list.vertices → edges_of names (list_bytes list) ≡ map (edge_by names) list.edges
list_read back names list l lines =
    let few = l.few in
    vertices_skipped names list.vertices 0 (length list.vertices) (flat_map edge_line_of list.edges) (omega arith) lines
    ∙ edges_read back names (length list.vertices) list.edges l.few l.inside
