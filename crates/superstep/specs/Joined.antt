-- Which joins are among the edges.
use Rattle.std.specs.Prelude.{ℕ, ◌<◌, List, Contains}
use Rattle.graph_words.specs.declared.types.Edge.{Edge}
use Rattle.graph_words.specs.declared.types.Born.{Born}
use Rattle.normal_law.specs.Closure.{Normal}
use Rattle.closing_machine.specs.Rounds.{HasEdge, IsJoin}

-- each join of two edges that are both born before since
abbrev pub AreJoinedBelow : Normal → List Born → ℕ → Type 0
AreJoinedBelow n edges since = (x y : Born) (e : Edge) → Contains edges x → Contains edges y → x.birth < since
    → y.birth < since → IsJoin n x.edge y.edge e → HasEdge edges e

-- each join of two edges
abbrev pub AreJoined : Normal → List Born → Type 0
AreJoined n edges = (x y : Born) (e : Edge) → Contains edges x → Contains edges y → IsJoin n x.edge y.edge e → HasEdge edges e
