use Rattle.std.proofs.Common.{ap, subst, List, ℕ, length}
use Rattle.std.specs.List.{flat_map, range_with_len}
use Rattle.text_page.specs.Gathered.{Gathers}
use Rattle.text_page.proofs.Gathering.{gathers_then}
use Rattle.emit_list.specs.declared.edge.EmitEdge.{EmitEdge}
use Rattle.emit_list.specs.Printed.{vertex_line, edge_line_of}
use Rattle.emit_list.proofs.print.put_list.Goals as goal

pub returns-clause-gathered : goal.returns-clause-gathered
returns-clause-gathered g c =
    let told = g.O.Sink.told in
    let list = c.args.list.now in
    let lines = flat_map (vertex_line list.vertices) (range_with_len 0 (length list.vertices)) in
    let edges = subst (λ (es : List EmitEdge). Gathers (told c.put_vertices.new.sink) c.put_vertices.new.page (told c.put_edges.new.sink) c.put_edges.new.page c.put_edges.result (flat_map edge_line_of es)) c.edges.ensures.edges c.put_edges.ensures.gathered in
    gathers_then (told c.args.sink.now) (told c.put_vertices.new.sink) (told c.put_edges.new.sink) c.args.page.now c.put_vertices.new.page c.put_edges.new.page c.put_edges.result lines (flat_map edge_line_of list.edges) c.in_ok-put_vertices.ensures.gathered edges
