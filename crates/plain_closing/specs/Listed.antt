use Rattle.std.specs.Prelude.{List, Contains, IsTrue, ◌↔◌}
use Rattle.std.specs.declared.cmp.Ordering.{Ordering}
use Rattle.std.specs.Ordering.{nat_cmp, ordering_then}
use Rattle.std.specs.BTreeSet.{BTreeSet, contains}
use Rattle.graph_words.specs.declared.types.Edge.{Edge}
use Rattle.plain_closing.specs.Joins.{IsOnce}

-- by source, then label, then destination
abbrev pub edge_cmp : Edge → Edge → Ordering
edge_cmp x y = ordering_then (nat_cmp x.src.0 y.src.0) (ordering_then (nat_cmp x.label.0 y.label.0) (nat_cmp x.dst.0 y.dst.0))

-- no edge stands twice in the list, and the set has just its edges
pub record IsListed (edges : List Edge) (known : BTreeSet Edge) : Type 0 where
  pub once : IsOnce edges
  pub same : (e : Edge) → IsTrue (contains edge_cmp known e) ↔ Contains edges e
