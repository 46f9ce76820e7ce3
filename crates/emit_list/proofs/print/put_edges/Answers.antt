use Rattle.std.proofs.Common.{◌+◌, drop, subst, arith, List, ℕ}
use Rattle.std.specs.List.{flat_map}
use Rattle.std.proofs.lemmas.Result.{err_from_is_err_and}
use Rattle.text_page.proofs.Gathering.{GathersOn, goes_further, goes_wrong}
use Rattle.emit_list.specs.Printed.{edge_line_of}
use Rattle.emit_list.proofs.PrintLemmas.{edge_first}
use Rattle.emit_list.proofs.print.put_edges.Goals as goal

pub returns-in_err-put_edge-clause-gathered : goal.returns-in_err-put_edge-clause-gathered
returns-in_err-put_edge-clause-gathered g c =
    let told = g.O.Sink.told in
    let es = c.args.edges.now in
    let i = c.loop-edge.edge-index in
    let on = subst (λ (l : List ℕ). GathersOn (told c.args.sink.now) c.args.page.now (told c.loop-edge.sink) c.loop-edge.page (flat_map edge_line_of es) l) (edge_first es i _ c.loop-edge-test.true) c.loop-edge.invariant.on in
    let p = err_from_is_err_and c.from_residual.result c.from_residual.ensures.1 in
    rw p.1 (goes_wrong _ _ _ _ _ c.put_edge.new.page (flat_map edge_line_of es) _ (flat_map edge_line_of (drop (i + 1) es)) on c.in_err-put_edge.ensures.gathered)

pub loop-edge-preserved : goal.loop-edge-preserved
loop-edge-preserved g c =
    let told = g.O.Sink.told in
    let es = c.args.edges.now in
    let i = c.loop-edge.edge-index in
    let on = subst (λ (l : List ℕ). GathersOn (told c.args.sink.now) c.args.page.now (told c.loop-edge.sink) c.loop-edge.page (flat_map edge_line_of es) l) (edge_first es i _ c.loop-edge-test.true) c.loop-edge.invariant.on in
    record {
      on = goes_further _ _ _ _ _ _ (flat_map edge_line_of es) _ (flat_map edge_line_of (drop (i + 1) es)) on c.in_ok-put_edge.ensures.gathered;
      count = omega (arith, c.loop-edge.invariant.count, c.put_edge.ensures.cause.later);
    }
