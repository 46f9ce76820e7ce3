-- The graph of a text whose lines say these edges.
use Rattle.std.proofs.Common.{◌≡◌, ℕ, ◌<◌, ◌≤◌, max, drop, List, [], ◌∷◌, length, sym, ap, ◌∙◌, subst, refl, arith, Some, None}
use Rattle.std.proofs.Math.ListN.{drop_of_length-le}
use Rattle.std.specs.Prelude.{All}
use Rattle.std.specs.List.{AllZip, filter_map, cons_option}
use Rattle.std.specs.Str.Parse.{digits_value}
use Rattle.std.proofs.lemmas.Option.{slice_get_within}
use Rattle.std.proofs.lemmas.List.Elements.{All-nil, All-cons}
use Rattle.graph_words.specs.declared.types.Edge.{Edge}
use Rattle.graph_words.specs.Text.{distinct, said, place_of}
use Rattle.graph_words.specs.Reach.{graph_with, IsGraph}
use Rattle.graph_words.proofs.NameLemmas.{distinct-once, place_of-number}
use Rattle.io_edge.specs.Lines.{lines}
use Rattle.edge_text.specs.EdgesText.{IsEdgeOf, SaysEdges, ReadsEdges, edge_of_words, edges_of, edges_fault, vertex_count_of}

make : ℕ → ℕ → ℕ → Edge
make s l d = record { src = record { 0 = s }; label = record { 0 = l }; dst = record { 0 = d } }

same : (s l d : ℕ) (e : Edge) → s ≡ e.src.0 → l ≡ e.label.0 → d ≡ e.dst.0 → make s l d ≡ e
unfolding make
same s l d e p q r = ap (λ n. make n l d) p ∙ ap (λ n. make e.src.0 n d) q ∙ ap (λ n. make e.src.0 e.label.0 n) r

-- words that say an edge have it
edge_is : (names : List (List ℕ)) (ws : List (List ℕ)) (e : Edge) → IsEdgeOf (distinct names) ws e → edge_of_words (distinct names) ws ≡ Some e
unfolding make same
edge_is names ws e i =
    ap (edge_of_words (distinct names)) i.three
    ∙ ap Some (same (digits_value 10 i.source) (place_of (distinct names) i.label) (digits_value 10 i.destination) e i.source_is.value (place_of-number (distinct names) (distinct-once names) e.label.0 i.label i.number) i.destination_is.value)

edges_are : (names : List (List ℕ)) (words : List (List (List ℕ))) (edges : List Edge) → AllZip (IsEdgeOf (distinct names)) words edges → filter_map (edge_of_words (distinct names)) words ≡ edges
edges_are names [] [] h = refl
edges_are names [] (e ∷ es) h = absurd h
edges_are names (ws ∷ words) [] h = absurd h
edges_are names (ws ∷ words) (e ∷ es) h =
    ap (λ o. cons_option o (filter_map (edge_of_words (distinct names)) words)) (edge_is names ws e h.0) ∙ ap (λ l. e ∷ l) (edges_are names words es h.1)

-- each label has a name
labels_named : (table : List (List ℕ)) (words : List (List (List ℕ))) (edges : List Edge) → AllZip (IsEdgeOf table) words edges → All (λ e. e.label.0 < length table) edges
labels_named table words [] h = All-nil (λ (e : Edge). e.label.0 < length table)
labels_named table [] (e ∷ es) h = absurd h
labels_named table (ws ∷ words) (e ∷ es) h = All-cons (λ (e : Edge). e.label.0 < length table) e es (slice_get_within table e.label.0 h.0.label h.0.number) (labels_named table words es h.1)

-- each vertex fits
few_vertices : (table : List (List ℕ)) (words : List (List (List ℕ))) (edges : List Edge) → AllZip (IsEdgeOf table) words edges → vertex_count_of edges ≤ 16777216
few_vertices table words [] h = omega arith
few_vertices table [] (e ∷ es) h = absurd h
few_vertices table (ws ∷ words) (e ∷ es) h =
    let source = h.0.source_is.fits in
    let destination = h.0.destination_is.fits in
    let rest = few_vertices table words es h.1 in
    omega arith

-- what was read of a text without a fault
pub ReadsEdges-from_says : (start : ℕ) (names : List (List ℕ)) (file : List ℕ) (edges : List Edge) (table : List (List ℕ)) → SaysEdges names (said (lines file)) edges table × (edges_fault start names file ≡ None) → ReadsEdges start names file edges table
ReadsEdges-from_says start names file edges table h =
    let s = h.0 in
    let each = subst (λ (t : List (List ℕ)). AllZip (IsEdgeOf t) (said (lines file)) edges) s.table_is s.each in
    record {
      whole = h.1;
      table_is = s.table_is;
      short = s.short;
      vertices = few_vertices table (said (lines file)) edges s.each;
      numbered = labels_named table (said (lines file)) edges s.each;
      edges_are = sym (edges_are _ (said (lines file)) edges each) ∙ ap (λ t. edges_of t file) (sym s.table_is);
    }

-- the ends of each edge are vertices of the graph
below : (edges : List Edge) (n : ℕ) → vertex_count_of edges ≤ n → All (λ e. (e.src.0 < n) × (e.dst.0 < n)) edges
below [] n h = All-nil (λ e. (e.src.0 < n) × (e.dst.0 < n))
below (e ∷ es) n h = All-cons (λ x. (x.src.0 < n) × (x.dst.0 < n)) e es (omega arith, omega arith) (below es n (omega arith))

pub IsGraph-with_count : (edges : List Edge) → IsGraph (graph_with (vertex_count_of edges) edges)
IsGraph-with_count edges = below edges (vertex_count_of edges) (omega arith)

-- the count after the last edge is that of all
pub IsGraph-counted : (edges : List Edge) (count i : ℕ) → length edges ≤ i → max count (vertex_count_of (drop i edges)) ≡ vertex_count_of edges → IsGraph (graph_with count edges)
IsGraph-counted edges count i past is =
    let none = ap vertex_count_of (drop_of_length-le edges past) in
    let all : count ≡ vertex_count_of edges = omega arith in
    subst (λ (n : ℕ). IsGraph (graph_with n edges)) (sym all) (IsGraph-with_count edges)
