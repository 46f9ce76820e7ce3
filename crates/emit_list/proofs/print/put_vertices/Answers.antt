use Rattle.std.proofs.Common.{◌+◌, ◌-◌, ◌<◌, length, subst, arith, List, ℕ}
use Rattle.std.specs.List.{flat_map, range_with_len}
use Rattle.std.proofs.lemmas.Result.{err_from_is_err_and}
use Rattle.text_page.proofs.Gathering.{GathersOn, goes_further, goes_wrong}
use Rattle.emit_list.specs.Printed.{vertex_line}
use Rattle.emit_list.proofs.PrintLemmas.{range_first}
use Rattle.emit_list.proofs.print.put_vertices.Goals as goal

pub returns-in_err-put_vertex-clause-gathered : goal.returns-in_err-put_vertex-clause-gathered
returns-in_err-put_vertex-clause-gathered g c =
    let told = g.O.Sink.told in
    let vs = c.args.list.now.vertices in
    let k = c.loop-k.k in
    let whole = flat_map (vertex_line vs) (range_with_len 0 (length vs)) in
    let inside : k < length vs = omega arith in
    let rest = flat_map (vertex_line vs) (range_with_len (k + 1) (length vs - (k + 1))) in
    let on = subst (λ (l : List ℕ). GathersOn (told c.args.sink.now) c.args.page.now (told c.loop-k.sink) c.loop-k.page whole l) (range_first (vertex_line vs) k (length vs) inside) c.loop-k.invariant.on in
    let p = err_from_is_err_and c.from_residual.result c.from_residual.ensures.1 in
    rw p.1 (goes_wrong _ _ _ _ _ c.put_vertex.new.page whole (vertex_line vs k) rest on c.in_err-put_vertex.ensures.gathered)

pub loop-k-preserved : goal.loop-k-preserved
loop-k-preserved g c =
    let told = g.O.Sink.told in
    let vs = c.args.list.now.vertices in
    let k = c.loop-k.k in
    let whole = flat_map (vertex_line vs) (range_with_len 0 (length vs)) in
    let inside : k < length vs = omega arith in
    let rest = flat_map (vertex_line vs) (range_with_len (k + 1) (length vs - (k + 1))) in
    let on = subst (λ (l : List ℕ). GathersOn (told c.args.sink.now) c.args.page.now (told c.loop-k.sink) c.loop-k.page whole l) (range_first (vertex_line vs) k (length vs) inside) c.loop-k.invariant.on in
    record {
      on = goes_further _ _ _ _ _ _ whole (vertex_line vs k) rest on c.in_ok-put_vertex.ensures.gathered;
      count = omega (arith, c.loop-k.invariant.count, c.put_vertex.ensures.cause.later);
    }
