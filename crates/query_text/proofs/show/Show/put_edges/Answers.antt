use Rattle.std.proofs.Common.{arith}
use Rattle.std.proofs.lemmas.Result.{err_from_is_err_and}
use Rattle.query_text.proofs.Showing.{edge_failed, edge_gathered, no_born, number_few, number_more}
use Rattle.query_text.proofs.show.Show.put_edges.Goals as goal

pub returns-in_err-shown-clause-gathered : goal.returns-in_err-shown-clause-gathered
returns-in_err-shown-clause-gathered g c =
    let told = g.O.Sink.told in
    let p = err_from_is_err_and c.from_residual.result c.from_residual.ensures.1 in
    rw p.1
    (edge_failed c.args.self.now c.args.table.now c.args.edges.now c.loop-born.born-index _ c.loop-born-test.true (told c.args.sink.now) (told c.loop-born.sink) (told c.put_edge.new.sink) c.args.page.now c.loop-born.page c.loop-born.invariant.gathered c.in_err-shown.ensures.gathered)

pub overflow_add-shown : goal.overflow_add-shown
overflow_add-shown g c =
    let few = number_few c.args.self.now c.args.table.now c.args.edges.now c.loop-born.born-index no_born c.loop-born-test.true in
    let more = number_more c.args.self.now c.args.table.now c.args.edges.now c.loop-born.born-index no_born c.loop-born-test.true in
    omega (arith, few, more, c.loop-born.invariant.number, c.in_ok-shown.ensures.number)

pub loop-born-preserved : goal.loop-born-preserved
loop-born-preserved g c =
    let told = g.O.Sink.told in
    let inv = c.loop-born.invariant in
    let e = c.in_ok-shown.ensures in
    let show = c.args.self.now in
    let names = c.args.table.now in
    let edges = c.args.edges.now in
    let i = c.loop-born.born-index in
    record {
      gathered = edge_gathered show names edges i _ c.loop-born-test.true (told c.args.sink.now) (told c.loop-born.sink) (told c.put_edge.new.sink) c.args.page.now c.loop-born.page c.put_edge.new.page inv.gathered e.gathered;
      number = omega (arith, inv.number, e.number, number_more show names edges i no_born c.loop-born-test.true);
      count = omega (arith, inv.count, e.cause.later);
    }
