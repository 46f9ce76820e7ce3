use Rattle.std.proofs.Common.{◌∙◌, arith}
use Rattle.std.proofs.lemmas.Result.{err_from_is_err_and}
use Rattle.query_text.proofs.Summing.{end_is, part_failed, part_gathered}
use Rattle.query_text.proofs.head_lines.put_parts.Goals as goal

pub returns-in_err-put-clause-gathered : goal.returns-in_err-put-clause-gathered
returns-in_err-put-clause-gathered g c =
    let told = g.O.Sink.told in
    let p = err_from_is_err_and c.from_residual.result c.from_residual.ensures.1 in
    rw p.1
    (part_failed c.args.m.now c.as_slice-part-items.result.now c.loop-i.i (record { hi = 0; file = 0 }) c.loop-i.lo c.edges_of.result c.as_slice.result.now c.as_slice-part-items.ensures c.loop-i-test.true c.loop-i.invariant.lo c.edges_of.ensures (c.as_slice.ensures.value ∙ c.part_line.ensures) (told c.args.sink.now) (told c.loop-i.sink) (told c.put.new.sink) c.args.page.now c.loop-i.page c.loop-i.invariant.gathered c.in_err-put.ensures.gathered)

pub loop-i-preserved : goal.loop-i-preserved
loop-i-preserved g c =
    let told = g.O.Sink.told in
    record {
      gathered = part_gathered c.args.m.now c.as_slice-part-items.result.now c.loop-i.i (record { hi = 0; file = 0 }) c.loop-i.lo c.edges_of.result c.as_slice.result.now c.as_slice-part-items.ensures c.loop-i-test.true c.loop-i.invariant.lo c.edges_of.ensures (c.as_slice.ensures.value ∙ c.part_line.ensures) (told c.args.sink.now) (told c.loop-i.sink) (told c.put.new.sink) c.args.page.now c.loop-i.page c.put.new.self c.loop-i.invariant.gathered c.in_ok-put.ensures.gathered;
      lo = end_is c.args.m.now c.as_slice-part-items.result.now c.loop-i.i (record { hi = 0; file = 0 }) c.loop-i.lo c.edges_of.result c.as_slice.result.now c.as_slice-part-items.ensures c.loop-i-test.true c.loop-i.invariant.lo c.edges_of.ensures (c.as_slice.ensures.value ∙ c.part_line.ensures);
      count = omega (arith, c.loop-i.invariant.count, c.in_ok-put.ensures.cause.later);
    }
