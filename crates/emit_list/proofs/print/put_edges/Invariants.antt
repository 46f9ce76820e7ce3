use Rattle.std.proofs.Common.{◌≤◌, drop}
use Rattle.std.specs.List.{flat_map}
use Rattle.text_page.proofs.Gathering.{GathersOn}
use Rattle.emit_list.specs.Printed.{edge_line_of}
use Rattle.emit_list.proofs.print.put_edges.Given as goal

abbrev pub invariant-loop-edge : goal.invariant-loop-edge
invariant-loop-edge g l =
    record {
      on : GathersOn (g.O.Sink.told l.initial.sink) l.initial.page (g.O.Sink.told l.sink) l.page (flat_map edge_line_of l.edges) (flat_map edge_line_of (drop l.edge-index l.edges));
      count : g.O.Sink.faults l.initial.sink ≤ g.O.Sink.faults l.sink;
    }
