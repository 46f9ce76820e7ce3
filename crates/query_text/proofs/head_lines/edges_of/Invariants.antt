use Rattle.std.proofs.Common.{◌≡◌, ◌≤◌, length}
use Rattle.dest_map.specs.Table.{counts_of}
use Rattle.query_text.specs.Text.{sum_below}
use Rattle.query_text.proofs.head_lines.edges_of.Given as goal

abbrev pub invariant-loop-j : goal.invariant-loop-j
invariant-loop-j l =
    record {
      sum : l.edges ≡ sum_below (counts_of l.m.map l.i) l.j;
      within : l.j ≤ length l.m.parts;
    }
