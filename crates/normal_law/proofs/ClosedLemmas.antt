-- The closure is the least set of edges that is closed over the graph.
use Rattle.std.proofs.Common.{refl, sym, subst, List, [], ◌∷◌}
use Rattle.std.specs.Prelude.{Contains}
use Rattle.graph_words.specs.declared.types.Vertex.{Vertex}
use Rattle.graph_words.specs.declared.types.LabelId.{LabelId}
use Rattle.graph_words.specs.declared.types.Edge.{Edge}
use Rattle.graph_words.specs.declared.types.Rule.{Rule}
use Rattle.graph_words.specs.Reach.{Graph, edge, rule}
use Rattle.normal_law.specs.Closure.{Normal, IsUp, itself, above, Closure, given, loop, joined}
use Rattle.normal_law.specs.Closed.{Joins, IsClosedOver}
use Rattle.normal_law.proofs.Complete.{listed}

-- a set that is closed over the graph has all of the closure
pub Closure-in_closed : {n : Normal} {g : Graph} {u v : Vertex} {a : LabelId} → Closure n g u a v → (E : Edge → Type 0) → IsClosedOver n g E → E (edge u a v)
Closure-in_closed {u = u} {v = v} {a = a} (given b m up) E is = is.given u v b a m up
Closure-in_closed {u = u} {a = a} (loop h e) E is = is.loops u a h e
Closure-in_closed {u = u} {v = w} {a = a} (joined p v m c d up) E is =
    is.joins u v w p.first p.second a (Closure-in_closed c E is) (Closure-in_closed d E is) (p, m, refl, refl, up)

-- a join of the closure is in the closure
pub Closure-join : (n : Normal) (g : Graph) (u v w : Vertex) (b c a : LabelId) → Closure n g u b v → Closure n g v c w → Joins n b c a → Closure n g u a w
Closure-join n g u v w b c a x y (p, m, e, q, up) =
    joined p v m (subst (λ (l : LabelId). Closure n g u l v) (sym e) x) (subst (λ (l : LabelId). Closure n g v l w) (sym q) y) up

-- the closure itself is closed over the graph
pub IsClosedOver-closure : (n : Normal) (g : Graph) → IsClosedOver n g (listed n g)
IsClosedOver-closure n g =
    record {
      given = λ u v b a m up. given b m up;
      loops = λ u a h e. loop h e;
      joins = λ u v w b c a x y j. Closure-join n g u v w b c a x y j;
    }

-- a set of labels with b that is closed under rules with one label on the right has all above b
pub IsUp-in_closed : {rules : List Rule} {b a : LabelId} → IsUp rules b a → (P : LabelId → Type 0) → P b → ((x c : LabelId) → P c → Contains rules (rule x (c ∷ [])) → P x) → P a
IsUp-in_closed itself P first closed = first
IsUp-in_closed (above {a = a} c up m) P first closed = closed a c (IsUp-in_closed up P first closed) m
