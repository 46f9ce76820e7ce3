-- What the texts of a store say: the grammar's, and those of the edges.
use Rattle.std.specs.Prelude.{◌≡◌, ◌==◌, ℕ, List, [], ◌∷◌, ◌++◌, length, None, if◌then◌else◌}
use Rattle.std.specs.List.{flat_map}
use Rattle.graph_words.specs.declared.types.Rule.{Rule}
use Rattle.graph_words.specs.Text.{names, said, third}
use Rattle.graph_words.specs.Reach.{Graph}
use Rattle.io_edge.specs.Lines.{lines}
use Rattle.edge_text.specs.EdgesText.{edges_fault, graph_of}
use Rattle.grammar_norm.specs.GrammarText.{grammar_fault, grammar_names, rules_of}
use Rattle.normal_law.specs.Closure.{Normal}
use Rattle.normal_law.specs.NormalForm.{normal_form}

-- the grammar's text of a store, and the edge files that it accepted, the first of them in front
pub record Texts : Type 0 where
  pub grammar : List ℕ
  pub files : List (List ℕ)

-- the text, with a line feed behind it where something stands there that doesn't end with one
abbrev pub ended : List ℕ → List ℕ
ended [] = []
ended (b ∷ []) = if b == 10 then b ∷ [] else b ∷ 10 ∷ []
ended (b ∷ c ∷ bs) = b ∷ ended (c ∷ bs)

-- the next text behind a text: on lines of its own, and nothing where it is empty
abbrev pub with_next : List ℕ → List ℕ → List ℕ
with_next text [] = text
with_next text (b ∷ bs) = ended text ++ b ∷ bs

-- the texts as one
abbrev pub joined_behind : List ℕ → List (List ℕ) → List ℕ
joined_behind text [] = text
joined_behind text (next ∷ rest) = joined_behind (with_next text next) rest

abbrev pub joined_text : List (List ℕ) → List ℕ
joined_text [] = []
joined_text (first ∷ rest) = joined_behind first rest

-- the edges of all files, as one text
abbrev pub edges_text : Texts → List ℕ
edges_text t = joined_text t.files

-- none of the next texts has a fault, each counted behind the bytes and the names of the text before it
abbrev pub AreGoodBehind : List (List ℕ) → List ℕ → List (List ℕ) → Type 0
AreGoodBehind names text [] = Unit {0}
AreGoodBehind names text (next ∷ rest) = (edges_fault (length (ended text))
    (names ++ flat_map third (said (lines text))) next ≡ None) × AreGoodBehind names (with_next text next) rest

-- no text has a fault, each counted behind those before it
abbrev pub AreGoodInTurn : List (List ℕ) → List (List ℕ) → Type 0
AreGoodInTurn names [] = Unit {0}
AreGoodInTurn names (first ∷ rest) = (edges_fault 0 names first ≡ None) × AreGoodBehind names first rest

-- neither text has a fault, the grammar's names being counted before those of the edges
pub record AreGood (t : Texts) : Type 0 where
  pub grammar : grammar_fault t.grammar ≡ None
  pub edges : edges_fault 0 (grammar_names t.grammar) (edges_text t) ≡ None

-- the names of both texts: a label's number is the place of its name
abbrev pub names_of : Texts → List (List ℕ)
names_of t = names (lines t.grammar) (lines (edges_text t))

-- the graph that the edges' text says
abbrev pub graph : Texts → Graph
graph t = graph_of (names_of t) (edges_text t)

-- the rules that the grammar's text says
abbrev pub rules : Texts → List Rule
rules t = rules_of (names_of t) t.grammar

-- and their normal form
abbrev pub normal : Texts → Normal
normal t = normal_form (rules t)
