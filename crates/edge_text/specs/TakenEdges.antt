use Rattle.std.specs.Prelude.{◌≡◌, ◌⊎◌, ℕ, ◌<◌, ◌≤◌, true, false, List, [], ◌∷◌, ◌++◌, length}
use Rattle.graph_words.specs.declared.types.Edge.{Edge}
use Rattle.graph_words.specs.Text.{words, is_skipped, with_name, IsEdgeLine}
use Rattle.faults.specs.declared.kinds.InputKind.{InputKind}
use Rattle.faults.specs.declared.kinds.InputKind.TheVariants.{WrongCount, BadSource, BadDestination, BadLabel, TooManyLabels}
use Rattle.edge_text.specs.declared.edge.EdgeFault.{EdgeFault}
use Rattle.edge_text.specs.declared.edge.EdgeFault.TheVariants as faults
use Rattle.edge_text.specs.Reads.{HasLineFault}
use Rattle.edge_text.specs.EdgesText.{IsEdgeOf}

-- the kind of a line's fault
abbrev pub kind_of : EdgeFault → InputKind
kind_of faults.WrongCount = WrongCount
kind_of faults.BadSource = BadSource
kind_of faults.BadDestination = BadDestination
kind_of faults.BadLabel = BadLabel

-- the edge of a line is added, and its label
pub record AddsEdge (ws : List (List ℕ)) (edges : List Edge) (table : List (List ℕ)) (edges' : List Edge) (table' : List (List ℕ)) : Type 0 where
  pub said : is_skipped ws ≡ false
  pub edge : Edge
  pub is : IsEdgeOf table' ws edge
  pub added : edges' ≡ edges ++ edge ∷ []
  pub table_is : table' ≡ with_name table is.label
  pub short : length table' ≤ 1000

-- what a line without a fault changes
abbrev pub TakesEdgeLine : List ℕ → List Edge → List (List ℕ) → List Edge → List (List ℕ) → Type 0
TakesEdgeLine line edges table edges' table' =
    ((is_skipped (words line) ≡ true) × (edges' ≡ edges) × (table' ≡ table))
    ⊎ AddsEdge (words line) edges table edges' table'

-- the line has this fault: of its words, or by its label
abbrev pub RefusesEdgeLine : List ℕ → List (List ℕ) → InputKind → Type 0
RefusesEdgeLine line table kind =
    ((fault : EdgeFault) × HasLineFault line fault × (kind ≡ kind_of fault))
    ⊎ ((src dst : ℕ) × (label : List ℕ) × IsEdgeLine line src dst label × (kind ≡ TooManyLabels) × (1000 < length (with_name table label)))
