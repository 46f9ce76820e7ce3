-- How many edges the loaded intervals can have.
use Rattle.std.specs.Prelude.{ℕ, ◌+◌, ◌<◌, Option, Some, None}
use Rattle.graph_words.specs.declared.types.Born.{Born}
use Rattle.closing_machine.specs.Capacity.{capacity}
use Rattle.row_table.specs.declared.span.Span.{Span}
use Rattle.row_table.specs.Loaded.{Loaded}

-- the store's format has the label and the destination of the edge
pub record IsInFormat (b : Born) : Type 0 where
  pub label : b.edge.label.0 < 63000
  pub vertex : b.edge.dst.0 < 16777216

abbrev pub capacity_of_high : Option Span → ℕ
capacity_of_high None = 0
capacity_of_high (Some s) = capacity s.lo s.hi

-- no more edges than this fit into the loaded intervals
abbrev pub capacity_of : Loaded → ℕ
capacity_of l = capacity l.low.lo l.low.hi + capacity_of_high l.high
