use Rattle.std.proofs.Common.{◌-◌, ◌≤◌, length}
use Rattle.std.specs.List.{flat_map, range_with_len}
use Rattle.text_page.proofs.Gathering.{GathersOn}
use Rattle.emit_list.specs.Printed.{vertex_line}
use Rattle.emit_list.proofs.print.put_vertices.Given as goal

abbrev pub invariant-loop-k : goal.invariant-loop-k
invariant-loop-k g l =
    let vs = l.list.vertices in
    record {
      on : GathersOn (g.O.Sink.told l.initial.sink) l.initial.page (g.O.Sink.told l.sink) l.page (flat_map (vertex_line vs) (range_with_len 0 (length vs))) (flat_map (vertex_line vs) (range_with_len l.k (length vs - l.k)));
      count : g.O.Sink.faults l.initial.sink ≤ g.O.Sink.faults l.sink;
    }
