-- The labels of two good texts are named ones.
use Rattle.std.proofs.Common.{◌≡◌, ℕ, ◌+◌, ◌<◌, ◌≤◌, Bool, true, false, cond, not, ◌||◌, List, [], ◌∷◌, ◌++◌, length, refl, ap, sym, ◌∙◌, arith, Some}
use Rattle.std.specs.Prelude.{All, Contains, map}
use Rattle.std.specs.List.{filter_map, flat_map, list_any}
use Rattle.std.specs.Cmp.Lexicographic.{other_text, same_text}
use Rattle.std.proofs.lemmas.Option.{slice_get-get_or}
use Rattle.std.proofs.lemmas.List.Elements.{All-nil, All-cons, Contains-append_left, Contains-append_right}
use Rattle.graph_words.specs.declared.types.Edge.{Edge}
use Rattle.graph_words.specs.declared.types.Rule.{Rule}
use Rattle.graph_words.specs.Text.{distinct, place_of, said, same_name, third}
use Rattle.graph_words.proofs.NameLemmas.{any-distinct}
use Rattle.label_table.proofs.TableLemmas.{has_name-there}
use Rattle.io_edge.specs.Lines.{lines}
use Rattle.edge_text.specs.EdgesText.{edge_of_words, edges_of}
use Rattle.edge_text.proofs.GraphLemmas.{IsGraph-with_count}
use Rattle.grammar_norm.specs.GrammarText.{label_of, rule_of_words}
use Rattle.normal_law.specs.Closure.{HasNamedLabels, IsNamed}
use Rattle.normal_law.proofs.Chains.{IsNormalForm-normal_form}
use Rattle.closing_machine.specs.Holds.{IsTask}
use Rattle.store_law.specs.Texts.{Texts, graph, names_of, normal, rules, edges_text}

-- a name among others has a number below how many there are
place_below : (x : List ℕ) (names : List (List ℕ)) → list_any (λ z. same_name z x) names ≡ true → place_of names x < length names
place_below x [] h = absurd (cc)
place_below x (y ∷ ys) h = go (same_name x y) refl (place_below x ys)
  where
    turned : (b : Bool) → same_name x y ≡ false → same_name y x ≡ b → same_name y x ≡ false
    turned false e q = q
    turned true e q = absurd (other_text x y (sym e) (sym (same_text y x (sym q))))

    go : (b : Bool) → same_name x y ≡ b → (list_any (λ z. same_name z x) ys ≡ true → place_of ys x < length ys) → place_of (y ∷ ys) x < length (y ∷ ys)
    go true e later = let first : place_of (y ∷ ys) x ≡ 0 = ap (λ t. cond (not t) (1 + place_of ys x) 0) e in omega arith
    go false e later =
        let other : same_name y x ≡ false = turned (same_name y x) e refl in
        let below = later (sym (ap (λ t. t || list_any (λ z. same_name z x) ys) other) ∙ h) in
        let next : place_of (y ∷ ys) x ≡ 1 + place_of ys x = ap (λ t. cond (not t) (1 + place_of ys x) 0) e in
        omega arith

-- a name that occurs has a number below how many distinct ones there are
number_below : (all : List (List ℕ)) (x : List ℕ) → Contains all x → place_of (distinct all) x < length (distinct all)
number_below all x m =
    place_below x (distinct all) (any-distinct x all ∙ has_name-there all x m.0 (slice_get-get_or all m.0 x m.1 ∙ ap Some m.2))

-- a label whose name occurs is a named one
label_named : (all : List (List ℕ)) (x : List ℕ) → length (distinct all) ≤ 1000 → Contains all x → IsNamed (label_of (distinct all) x)
label_named all x few m = let below = number_below all x m in omega arith

labels_named : (all : List (List ℕ)) (ws : List (List ℕ)) → length (distinct all) ≤ 1000 → ((w : List ℕ) → Contains ws w → Contains all w) → All IsNamed (map (label_of (distinct all)) ws)
labels_named all [] few in_all = All-nil IsNamed
labels_named all (w ∷ ws) few in_all =
    All-cons IsNamed (label_of (distinct all) w) (map (label_of (distinct all)) ws) (label_named all w few (in_all w (Contains-append_left (w ∷ []) ws w (0, omega arith, refl))))
    (labels_named all ws few (λ x m. in_all x (Contains-append_right (w ∷ []) ws x m)))

abbrev HasNames : Rule → Type 0
HasNames r = IsNamed r.left × All IsNamed r.right

-- the rules of lines whose words occur
rules_named : (all : List (List ℕ)) (said : List (List (List ℕ))) → length (distinct all) ≤ 1000 → ((w : List ℕ) → Contains (flat_map (λ ws. ws) said) w → Contains all w) → HasNamedLabels (filter_map (rule_of_words (distinct all)) said)
rules_named all [] few in_all = All-nil HasNames
rules_named all ([] ∷ said) few in_all = rules_named all said few in_all
rules_named all ((l ∷ r) ∷ said) few in_all =
    All-cons HasNames (record { left = label_of (distinct all) l; right = map (label_of (distinct all)) r }) (filter_map (rule_of_words (distinct all)) said)
    (label_named all l few (in_all l (here l (Contains-append_left (l ∷ []) r l (0, omega arith, refl)))), labels_named all r few (λ w m. in_all w (here w (Contains-append_right (l ∷ []) r w m))))
    (rules_named all said few (λ w m. in_all w (Contains-append_right (l ∷ r) (flat_map (λ ws. ws) said) w m)))
  where
    here : (w : List ℕ) → Contains (l ∷ r) w → Contains (flat_map (λ ws. ws) ((l ∷ r) ∷ said)) w
    here w m = Contains-append_left (l ∷ r) (flat_map (λ ws. ws) said) w m

-- and the edges
edges_named : (all : List (List ℕ)) (said : List (List (List ℕ))) → length (distinct all) ≤ 1000 → ((w : List ℕ) → Contains (flat_map third said) w → Contains all w) → All (λ (e : Edge). IsNamed e.label) (filter_map (edge_of_words (distinct all)) said)
edges_named all [] few in_all = All-nil (λ (e : Edge). IsNamed e.label)
edges_named all ([] ∷ said) few in_all = edges_named all said few in_all
edges_named all ((a ∷ []) ∷ said) few in_all = edges_named all said few in_all
edges_named all ((a ∷ b ∷ []) ∷ said) few in_all = edges_named all said few in_all
edges_named all ((a ∷ b ∷ c ∷ []) ∷ said) few in_all =
    All-cons (λ (e : Edge). IsNamed e.label) _ (filter_map (edge_of_words (distinct all)) said) (label_named all c few (in_all c (Contains-append_left (c ∷ []) (flat_map third said) c (0, omega arith, refl))))
    (edges_named all said few (λ w m. in_all w (Contains-append_right (c ∷ []) (flat_map third said) w m)))
edges_named all ((a ∷ b ∷ c ∷ d ∷ ws) ∷ said) few in_all = edges_named all said few (λ w m. in_all w (Contains-append_right (c ∷ []) (flat_map third said) w m))

-- texts with at most 1,000 names are a task for the closing machine
pub task_of_texts : (t : Texts) → length (names_of t) ≤ 1000 → IsTask (normal t) (graph t)
task_of_texts t few =
    record {
      normal = IsNormalForm-normal_form (rules t) named;
      named = named;
      graph = IsGraph-with_count (edges_of (names_of t) (edges_text t));
      labels = edges_named all (said (lines (edges_text t))) few (λ w m. Contains-append_right (flat_map (λ ws. ws) (said (lines t.grammar))) (flat_map third (said (lines (edges_text t)))) w m);
    }
  where
    all : List (List ℕ)
    all = flat_map (λ ws. ws) (said (lines t.grammar)) ++ flat_map third (said (lines (edges_text t)))

    named : HasNamedLabels (rules t)
    named = rules_named all (said (lines t.grammar)) few (λ w m. Contains-append_left (flat_map (λ ws. ws) (said (lines t.grammar))) (flat_map third (said (lines (edges_text t)))) w m)
