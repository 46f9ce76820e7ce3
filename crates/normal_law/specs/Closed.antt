use Rattle.std.specs.Prelude.{◌≡◌, ◌<◌, Contains}
use Rattle.graph_words.specs.declared.types.Vertex.{Vertex}
use Rattle.graph_words.specs.declared.types.LabelId.{LabelId}
use Rattle.graph_words.specs.declared.types.Edge.{Edge}
use Rattle.graph_words.specs.declared.types.PairRule.{PairRule}
use Rattle.graph_words.specs.Reach.{Graph, edge}
use Rattle.normal_law.specs.Closure.{Normal, IsUp, IsEmpty}

-- some rule with b and then c on its right has a above its left side
abbrev pub Joins : Normal → LabelId → LabelId → LabelId → Type 0
Joins n b c a = (p : PairRule) × Contains n.pairs p × (p.first ≡ b) × (p.second ≡ c) × IsUp n.rules p.left a

-- The set of edges has the labels above each edge of the graph, the loops of the labels that derive the empty word, and each join of its own edges.
pub record IsClosedOver (n : Normal) (g : Graph) (E : Edge → Type 0) : Type 0 where
  pub given : (u v : Vertex) (b a : LabelId) → Contains g.edges (edge u b v) → IsUp n.rules b a → E (edge u a v)
  pub loops : (u : Vertex) (a : LabelId) → u.0 < g.vertices → IsEmpty n a → E (edge u a u)
  pub joins : (u v w : Vertex) (b c a : LabelId) → E (edge u b v) → E (edge v c w) → Joins n b c a → E (edge u a w)
